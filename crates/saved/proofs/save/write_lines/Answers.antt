-- One field more is written.
use Rattle.std.proofs.Common.{arith, ap, ◌∙◌}
use Rattle.std.proofs.lemmas.List.Edits.{sets}
use native.Mathlib.Nat.{zero-mul}
use Rattle.table.specs.Table.{line_start}
use Rattle.table.proofs.SizeLaws.{size-bounds}
use Rattle.saved.specs.Save.{saved_lines}
use Rattle.saved.proofs.LineFields.{lines_start, lines_next, line_next, lines_end, field-inside}
use Rattle.saved.proofs.save.write_lines.Goals as goal

pub loop-i-init : goal.loop-i-init
unfolding line_start
loop-i-init c =
    let z = c.into_iter-i-iterator.ensures.into_iter_gives in
    let e = c.enumerate-i-items.ensures in
    let k = c.chunks.ensures in
    rw (z, e.source, e.count, k.rest) (record { size = k.size; most = omega arith; left = rw zero-mul; written = lines_start _ _ _ })

pub write_line-requires : goal.write_line-requires
write_line-requires c =
    let i = c.loop-i.invariant in
    let s = c.in-Some.ensures.steps in
    let p = line_next _ _ c.args.table.now.fits _ _ _ _ i.most i.left s.0.1.0 (rw i.size at s.0.1.1) s.0.1.2 in
    let b = size-bounds _ c.args.table.now.sized in
    record {
      station_low = omega arith;
      line_short = omega arith;
      field_inside = rw (p.1, s.1) (omega (arith, field-inside _ _ p.0));
    }

pub loop-i-preserved : goal.loop-i-preserved
loop-i-preserved c =
    let i = c.loop-i.invariant in
    let s = c.in-Some.ensures.steps in
    let p = line_next _ _ c.args.table.now.fits _ _ _ _ i.most i.left s.0.1.0 (rw i.size at s.0.1.1) s.0.1.2 in
    record {
      size = s.0.0 ∙ i.size;
      most = omega arith;
      left = rw s.2 p.3;
      written = rw s.2 (lines_next _ _ _ _ _ _ c.args.table.now.fits p.0 i.written (rw (p.1, s.1, p.2) at c.write_line.ensures));
    }

pub returns : goal.returns
returns c =
    let i = c.loop-i.invariant in
    let s = c.in-None.ensures.steps in
    let e = lines_end _ _ c.args.table.now.fits _ _ i.most i.left s.0.1.0 in
    i.written ∙ ap (λ k. sets c.args.buffer.now 19 (saved_lines c.args.table.now.n c.args.table.now.bytes.now k)) e

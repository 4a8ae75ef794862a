-- Behind the end nothing is written; before it, what fits.
use Rattle.std.proofs.Common.{sym, arith, ◌≡◌, ◌+◌, ◌-◌}
use Rattle.std.proofs.Math.Seq.{drop-drop}
use Rattle.lists.proofs.Writing.{sets-past, sets-within}
use Rattle.lists.proofs.bytes.write_at.Goals as goal

pub returns-then-list-at : goal.returns-then-list-at
returns-then-list-at c = sym (sets-past c.args.list.now c.args.text.now c.args.at (omega (arith, c.if-list-at.true)))

pub returns : goal.returns
returns c =
    let a = c.args in
    let k = c.min-fits.result in
    let e : a.at + k - a.at ≡ k = omega arith in
    rw (e, c.copy_from_slice.ensures.after, drop-drop)
    (sym (sets-within a.list.now a.text.now a.at k (omega (arith, c.if-list-at.false)) c.min-fits.ensures))

-- The loops go from place to place.
use Rattle.std.proofs.Common.{◌≡◌, ◌+◌, sym, ap, ◌∙◌, arith}
use Rattle.table.specs.Table.{head, line_start}
use Rattle.mender.proofs.Progress.{reached-start, reached-at, reached-inside, reached-few, reached-next}
use Rattle.mender.proofs.Progress.{head-put, row-put, row-skip, line-next, all-done}
use Rattle.mender.proofs.mending.Mending.mend_lines.Goals as goal

pub loop-i-init : goal.loop-i-init
loop-i-init c = reached-start c.args.over c.args.self.now c.requires

pub put-requires-clause-inside : goal.put-requires-clause-inside
put-requires-clause-inside c =
    reached-inside c.loop-i.i c.loop-c.c _ c.loop-c.invariant c.loop-i-test.true (omega (arith, c.loop-c-test.true))
    (omega (arith, c.line_start-line.ensures.start_of_line))

pub put-requires-clause-listed : goal.put-requires-clause-listed
put-requires-clause-listed c = omega (arith, c.line_start-line.ensures.start_of_line, reached-few c.loop-c.invariant)

pub loop-c-preserved : goal.loop-c-preserved
loop-c-preserved c =
    let e = c.put.ensures in
    let line = c.line_start-line.ensures.start_of_line in
    let byte = head-put c.loop-i.i c.loop-c.c c.read.result c.mended_head-head.result c.loop-i.invariant c.loop-i-test.true
    (omega (arith, c.loop-c-test.true)) c.read.ensures.same_wiring c.read.ensures.same_size c.read.ensures.same_bytes c.mended_head-head.ensures in
    reached-next (line_start c.args.self.now.n c.loop-i.i + (c.loop-c.c + 1)) c.loop-c.invariant (omega (arith, line)) (omega arith) byte
    e.same_mending e.byte_written e.change_listed e.change_counted

pub bounds-self-at : goal.bounds-self-at
bounds-self-at c =
    reached-inside c.loop-i.i (head + c.loop-k.k) _ c.loop-k.invariant c.loop-i-test.true (omega (arith, c.loop-k-test.true))
    (omega (arith, c.line_start-line.ensures.start_of_line))

pub put-requires-in-loop-k-clause-inside : goal.put-requires-in-loop-k-clause-inside
put-requires-in-loop-k-clause-inside c =
    reached-inside c.loop-i.i (head + c.loop-k.k) _ c.loop-k.invariant c.loop-i-test.true (omega (arith, c.loop-k-test.true))
    (omega (arith, c.line_start-line.ensures.start_of_line))

pub put-requires-in-loop-k-clause-listed : goal.put-requires-in-loop-k-clause-listed
put-requires-in-loop-k-clause-listed c = omega (arith, c.line_start-line.ensures.start_of_line, reached-few c.loop-k.invariant)

pub loop-k-preserved : goal.loop-k-preserved
loop-k-preserved c =
    let e = c.put-in-loop-k.ensures in
    let line : c.line_start-line.result + 6 + c.loop-k.k ≡ line_start c.args.self.now.n c.loop-i.i + (head + c.loop-k.k) =
    omega (arith, c.line_start-line.ensures.start_of_line) in
    let byte = c.mended_suspicion-byte.ensures
    ∙ row-put c.loop-i.i c.loop-k.k (c.line_start-line.result + 6 + c.loop-k.k) c.loop-k.invariant (omega arith)
    c.loop-i-test.true c.loop-k-test.true line in
    reached-next (line_start c.args.self.now.n c.loop-i.i + (head + (c.loop-k.k + 1))) c.loop-k.invariant line (omega arith) byte
    e.same_mending e.byte_written e.change_listed e.change_counted

pub loop-i-preserved-then-keeps_row_rule : goal.loop-i-preserved-then-keeps_row_rule
loop-i-preserved-then-keeps_row_rule c =
    let line = line_start c.args.self.now.n c.loop-i.i in
    let end : line + c.loop-c.c ≡ line + head = omega (arith, c.loop-c-test.false) in
    row-skip c.loop-i.i c.read-in-loop-i.result (reached-at c.loop-c.invariant end) c.loop-i-test.true
    c.read-in-loop-i.ensures.same_size c.read-in-loop-i.ensures.same_bytes (sym c.keeps_row_rule.ensures ∙ c.if-keeps_row_rule.true)

pub loop-i-preserved : goal.loop-i-preserved
loop-i-preserved c = reached-at c.loop-k.invariant (omega (arith, c.loop-k-test.false, line-next c.args.self.now.n c.loop-i.i))

pub returns : goal.returns
returns c =
    let done = all-done c.loop-i.invariant (ap (line_start c.args.self.now.n) (omega (arith, c.loop-i-test.false))) in
    record {
      same_mending = c.loop-i.invariant.same;
      bytes_mended = done.0;
      changes_listed = rw done.0 done.1;
      changes_counted = rw done.0 done.2;
    }

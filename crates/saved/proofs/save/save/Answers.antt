-- Size, tally and lines are written behind each other.
use Rattle.std.proofs.Common.{sym, ◌∙◌, length, eq-eqb}
use Rattle.saved.specs.Save.{saved, save_check, save_after}
use Rattle.saved.proofs.Saving.{save_long, save_done}
use Rattle.saved.proofs.save.save.Goals as goal

pub returns-clause-buffer_after : goal.returns-clause-buffer_after
unfolding save_after save_check
returns-clause-buffer_after c =
    let a = c.args in
    let t = c.in_ok-table.ensures in
    let e = sym t.check in
    let long = rw t.same_size at (c.if-buffer-saved_length.false ∙ c.saved_length.ensures) ∙ sym (save_long a.n a.table.now _ e a.tally) in
    let front = rw t.same_size at c.write_front.ensures in
    let lines = rw (t.same_size, t.same_bytes) at c.write_lines.ensures in
    let whole = rw t.same_size at (c.if-buffer-saved_length.false ∙ c.saved_length.ensures) in
    let w = save_done a.n a.table.now _ e a.tally a.buffer.now _ _ whole front lines in
    rw (e, eq-eqb (length a.buffer.now) (length (saved a.n a.table.now a.tally)) long) w

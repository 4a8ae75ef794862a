-- The part of the list from the place on becomes the other list.
use Rattle.std.proofs.Common.{◌≡◌, ◌+◌, ◌-◌, length, append_assoc, arith}
use Rattle.std.proofs.lemmas.List.Edits.{sets-eq}
use lib.Seq.{drop-drop}
use Rattle.saved.proofs.bytes.put_list.Goals as goal

pub returns : goal.returns
returns c =
    let l = c.args.list.now in
    let o = c.args.other.now in
    let e : c.args.at + length o - c.args.at ≡ length o = omega arith in
    rw (c.copy_from_slice.ensures.after, e, drop-drop (length o) c.args.at l, sets-eq o l c.args.at c.requires, append_assoc)

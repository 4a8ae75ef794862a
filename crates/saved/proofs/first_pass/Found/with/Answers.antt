-- The numbers of a tally are those of its bytes.
use Rattle.std.proofs.Common.{◌≡◌, ◌∙◌, length, arith, eqb, true, eq-eqb}
use Rattle.saved.specs.Reading.{found_with}
use Rattle.saved.proofs.FirstPass.{rounds_read, tests_read}
use Rattle.saved.proofs.first_pass.Found.with.Goals as goal

pub returns-in-None-len8 : goal.returns-in-None-len8
unfolding found_with
returns-in-None-len8 c =
    let l : length c.args.field.contents.now ≡ 8 = omega arith in
    let t : eqb (length c.args.field.contents.now) 8 ≡ true = eq-eqb _ _ l in
    let r = c.from_be_bytes.ensures ∙ rounds_read c.args.field.contents.now l in
    let s = c.from_be_bytes-in-None-len8.ensures ∙ tests_read c.args.field.contents.now l in
    rw (c.in-2.is, c.in-None-len8.is-0, t, r, s)

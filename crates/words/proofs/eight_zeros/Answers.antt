-- The word is that of the eight bytes.
use Rattle.std.proofs.Common.{◌≡◌, ◌-◌, ap, ◌∙◌, arith, length, take, drop}
use lib.ListN.{length-drop}
use lib.Seq.{take_all}
use mir.Syntax.{w64}
use Rattle.std.specs.Int.{from_le_bytes}
use Rattle.words.proofs.WordLaws.{zeros-read, zeros-beyond}
use Rattle.words.proofs.eight_zeros.Goals as goal

pub returns-then-list-at : goal.returns-then-list-at
returns-then-list-at c = zeros-beyond _ _ (omega (arith, c.if-list-at.true))

pub returns-in_default : goal.returns-in_default
returns-in_default c = zeros-beyond _ _ (omega (arith, c.if-list-at.false, c.in_default.ensures.cases, length-drop c.args.at c.args.list.now))

pub returns : goal.returns
returns c =
    let t = c.args.list.now in
    let at = c.args.at in
    let l = c.in-Some.ensures.cases in
    let rest : take (length t - at) (drop at t) ≡ drop at t = take_all (length t - at) (drop at t) (omega (arith, length-drop at t)) in
    zeros-read t at _ (omega (arith, c.if-list-at.false, l.enough, length-drop at t))
    (c.from_le_bytes.ensures ∙ ap (from_le_bytes w64) (l.same ∙ ap (take 8) rest))

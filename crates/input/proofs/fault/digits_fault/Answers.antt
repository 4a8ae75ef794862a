-- The digits at the front are counted.
use Rattle.std.proofs.Common.{◌≡◌, ℕ, List, false, ◌-◌, length, take, drop, length-drop, if◌then◌else◌, nat_le, rules, tests, arith, ◌∙◌}
use Rattle.std.specs.List.{prefix_len}
use Rattle.std.proofs.Math.Seq.{length-take-le, take_all}
use Rattle.std.proofs.lemmas.Iterator.{YieldsList-from_slice}
use Rattle.std.proofs.lemmas.Iterator.Search.{YieldsList-from_take_while}
use Rattle.std.proofs.lemmas.Iterator.Consumers.{count_from_yields_List}
use Rattle.std.proofs.lemmas.List.Sums.{prefix_len-le-length}
use Rattle.std.proofs.lemmas.Bool.Decides.{nat_tests}
use borrow.Author.Tests.{ne_eqb, le-leb}
use lib.Dec.{eqb, leb}
use Rattle.input.specs.Input.{is_digit}
use Rattle.input.specs.Fault.{fault_with, found_at, digits_fault}
use Rattle.input.specs.declared.fault.Expected.{Expected}
use Rattle.input.specs.declared.fault.Found.{Found}
use Rattle.input.proofs.fault.digits_fault.Goals as goal
use Rattle.input.proofs.fault.digits_fault.Goals.{After-count-digits}

counted : (c : After-count-digits) → c.count-digits.result ≡ prefix_len is_digit c.args.text.now
counted c =
    let t = c.take_while.ensures in
    let text = c.args.text.now in
    count_from_yields_List _ _ c.count-digits.ensures.ran
    (YieldsList-from_take_while _ is_digit (YieldsList-from_slice text cc) t.closure t.done (λ x b q k. search (rules, tests)))
    ∙ length-take-le _ text (prefix_len-le-length is_digit text)

-- what is wrong behind so many digits
behind : (most k : ℕ) (first : Expected) (l : List ℕ) → k ≡ prefix_len is_digit l → (k ≡ 0 → ⊥)
    → digits_fault most first l ≡ fault_with (if nat_le k most then found_at (drop k l) else Found.DigitTooMany) Expected.LineEnd
unfolding digits_fault
behind most k first l e n = let z : eqb k 0 ≡ false = ne_eqb k 0 n in rw (← e, z)

pub returns-then-digits-most : goal.returns-then-digits-most
returns-then-digits-most c =
    let here = (goal.at.returns-then-digits-most c).After-count-digits in
    let text = c.args.text.now in
    let k = c.count-digits.result in
    let whole : take (length text - k) (drop k text) ≡ drop k text = take_all _ _ (simp length-drop (omega arith)) in
    let few = le-leb k c.args.most c.if-digits-most.true in
    rw (behind c.args.most k c.args.first text (counted here) c.if-digits-eq0.false, few, c.found_at-found.ensures, whole)

pub returns-else-digits-most : goal.returns-else-digits-most
returns-else-digits-most c =
    let here = (goal.at.returns-else-digits-most c).After-count-digits in
    let k = c.count-digits.result in
    let many : leb k c.args.most ≡ false = grind (arith, nat_tests) in
    rw (behind c.args.most k c.args.first c.args.text.now (counted here) c.if-digits-eq0.false, many)

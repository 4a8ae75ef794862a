-- Which distances are due: what a row must hold for a distance to be due, by who stands ahead.
-- Assumes nothing.
use mathlib.Core.Path.{◌≡◌, sym, ◌∙◌}
use mathlib.Core.Logic.{◌↔◌, by_cases}
use mathlib.Core.Bool.{true, false}
use mathlib.Core.List.{List}
use Prim.Native.Nat.{ℕ, suc, ◌<◌}
use native.Mathlib.Decide.{dec_lt}
use native.Mathlib.Omega.{arith}
use lib.ListN.{length, get_or}
use lib.Bits.{bit_xor, xor_comm}
use lib.Pow.{pow_pos}
use borrow.Author.Tests.{eq-eqb, ne_eqb, lt-ltb}
use Rattle.lists.proofs.Xor.{xor-cancel}
use Rattle.table.specs.Sizes.{level}
use Rattle.table.proofs.Levels.{level-is, level-bounds}
use Rattle.station.specs.Groups.{distance}
use Rattle.station.specs.Tests.{unsuspected, due}
use Rattle.station.specs.Ahead.{Before}
use Rattle.station.proofs.DueLaws.{unsuspected-at, unsuspected-absent}
use Rattle.station.proofs.AheadLaws.{due-if-nobody-before}
use Rattle.detection.proofs.Near.{Member, Ahead, member-distance}

-- the level of the distance between members
member-level : (h x y : ℕ) → Member h x y → level (bit_xor x y) ≡ suc h
member-level h x y m = let b = (member-distance h x y).0 m in level-is (bit_xor x y) h b.0 b.1

-- who stands ahead of i, by the level of the group and by the distances from x, is who stands before it at its distance to x
pub ahead_before : (h x i y : ℕ) → Member h x i → Ahead h x i y ↔ Before i (distance i x) y
ahead_before h x i y member = (there, back)
  where
    own : level (bit_xor i x) ≡ suc h
    own = rw xor_comm (member-level h x i member)

    there : Ahead h x i y → Before i (bit_xor i x) y
    there a = rw (xor-cancel i x) (member-level h x y a.0 ∙ sym own, rw (xor_comm i x) a.1)

    back : Before i (bit_xor i x) y → Ahead h x i y
    back b =
        let c : (level (bit_xor x y) ≡ level (bit_xor i x)) × (bit_xor x y < bit_xor i x) = rw (xor-cancel i x) at b in
        ((member-distance h x y).1 (level-bounds (bit_xor x y) h (c.0 ∙ own)), rw (xor_comm i x) at c.1)

-- the distance to x, which is present, is due for i where all that stand ahead of i in the group of x are suspected by i, or absent, and i
-- does not suspect itself
pub due-holds : (r : List ℕ) (h x i : ℕ) → i < length r → x < length r → get_or r i 0 ≡ 0 → Member h x i
    → ((y : ℕ) → Ahead h x i y → y < length r → get_or r y 0 ≡ 1) → due r i (bit_xor i x) ≡ true
due-holds r h x i hi hx own member ahead =
    let pos : 0 < bit_xor i x = omega (arith, (member-distance h x i).0 member, xor_comm i x, pow_pos h) in
    let self : unsuspected r i ≡ true = unsuspected-at r i hi ∙ eq-eqb (get_or r i 0) 0 own in
    (due-if-nobody-before r i (bit_xor i x) self pos).1 (rw (xor-cancel i x) (lt-ltb x (length r) hx), before)
  where
    before : (y : ℕ) → Before i (bit_xor i x) y → unsuspected r y ≡ false
    before y b =
        by_cases (dec_lt y (length r))
        (λ g. unsuspected-at r y g ∙ ne_eqb (get_or r y 0) 0 (omega (arith, ahead y ((ahead_before h x i y member).1 b) g)))
        (λ g. unsuspected-absent r y g)

-- Nearness of numbers: a and b are near at h when they differ in their last h binary digits at most.
-- Assumes nothing.
use mathlib.Core.Path.{◌≡◌, sym, ◌∙◌}
use mathlib.Core.Logic.{◌↔◌, by_cases}
use Prim.Native.Nat.{ℕ, zero, suc, ◌/◌, ◌^◌, ◌≤◌, ◌<◌}
use native.Mathlib.Nat.{div-one, not-le_of_lt}
use native.Mathlib.Decide.{ℕ_discrete, dec_lt}
use native.Mathlib.Omega.{arith}
use lib.Bits.{bit_xor, xor_lt, xor_shr}
use lib.Pow.{pow_pos}
use Rattle.lists.proofs.Xor.{Near, div-le, half, near-suc, xor-cancel, near-of-xor, xor-of-near}

pub near-dec : (h a b : ℕ) → Dec (Near h a b)
near-dec h a b = ℕ_discrete (a / 2 ^ h) (b / 2 ^ h)

-- near at 0 is equal
pub near-zero : (a b : ℕ) → Near 0 a b → a ≡ b
near-zero a b n = sym (div-one a) ∙ n ∙ div-one b

-- what is below 2 ^ d is near at d
pub near-below : (d a b : ℕ) → a < 2 ^ d → b < 2 ^ d → Near d a b
near-below d a b la lb = near-of-xor d a b (xor_lt d a b la lb)

-- y stands in the group of x at level h + 1
abbrev pub Member : ℕ → ℕ → ℕ → Type 0
Member h x y = Near (suc h) x y × ¬ (Near h x y)

pub member-sym : (h x y : ℕ) → Member h x y → Member h y x
member-sym h x y m = (sym m.0, λ e. m.1 (sym e))

-- that is, its distance is one of the level's
pub member-distance : (h x y : ℕ) → Member h x y ↔ ((2 ^ h ≤ bit_xor x y) × (bit_xor x y < 2 ^ suc h))
member-distance h x y = (there, λ b. (near-of-xor (suc h) x y b.1, λ n. not-le_of_lt (xor-of-near h x y n) b.0))
  where
    there : Member h x y → (2 ^ h ≤ bit_xor x y) × (bit_xor x y < 2 ^ suc h)
    there m =
        let far : ¬ (bit_xor x y < 2 ^ h) = λ l. m.1 (near-of-xor h x y l) in
        omega (arith, xor-of-near (suc h) x y m.0)

-- the station at such a distance
pub member-at : (h x m : ℕ) → 2 ^ h ≤ m → m < 2 ^ suc h → Member h x (bit_xor x m)
member-at h x m l u = (member-distance h x (bit_xor x m)).1 (rw xor-cancel (l, u))

-- the one at place 0
pub member-first : (h x : ℕ) → Member h x (bit_xor x (2 ^ h))
member-first h x = member-at h x (2 ^ h) (omega arith) (omega (arith, pow_pos h))

-- two members of one group are near at h
pub members-near : (h x a b : ℕ) → Member h x a → Member h x b → Near h a b
members-near h x a b ma mb = omega (arith, half h x, half h a, half h b)

-- what is near at h to a member is a member
pub member-near : (h x a b : ℕ) → Member h x a → Near h a b → Member h x b
member-near h x a b m n = (m.0 ∙ near-suc h a b n, λ e. m.1 (e ∙ sym n))

-- y stands ahead of i in the group of x at level h + 1
abbrev pub Ahead : ℕ → ℕ → ℕ → ℕ → Type 0
Ahead h x i y = Member h x y × (bit_xor x y < bit_xor x i)

-- if x ⊕ a and x ⊕ b are near at t, so are a and b
apart_by : (t x a b : ℕ) → bit_xor x a / 2 ^ t ≡ bit_xor x b / 2 ^ t → Near t a b
apart_by t x a b e = cc (xor_shr x a t, xor_shr x b t, xor-cancel (x / 2 ^ t) (a / 2 ^ t), xor-cancel (x / 2 ^ t) (b / 2 ^ t))

-- with y all that are near at t to it come before i in the order by distance from x, if i is not near at t to it
pub before-near : (t x i y z : ℕ) → Near t y z → ¬ (Near t y i) → bit_xor x y < bit_xor x i → bit_xor x z < bit_xor x i
before-near t x i y z n far l = by_cases (dec_lt (bit_xor x z) (bit_xor x i)) (λ a. a) (λ a. absurd (far (apart_by t x y i (order a))))
  where
    order : ¬ (bit_xor x z < bit_xor x i) → bit_xor x y / 2 ^ t ≡ bit_xor x i / 2 ^ t
    order a =
        let same : bit_xor x y / 2 ^ t ≡ bit_xor x z / 2 ^ t = cc (xor_shr x y t, xor_shr x z t) in
        omega (arith, div-le t (bit_xor x i) (bit_xor x z) (omega arith), div-le t (bit_xor x y) (bit_xor x i) (omega arith))

-- two numbers near at t are equal, or in each other's groups at a level up to t
pub data Parting (t a b : ℕ) : Type 0 where
  same : a ≡ b → Parting t a b
  apart : (h : ℕ) → h < t → Member h a b → Parting t a b

pub parting : (t a b : ℕ) → Near t a b → Parting t a b
parting zero a b n = same (near-zero a b n)
parting (suc t) a b n = go (near-dec t a b) (parting t a b)
  where
    up : Parting t a b → Parting (suc t) a b
    up (same e) = same e
    up (apart h l m) = apart h (omega arith) m

    go : Dec (Near t a b) → (Near t a b → Parting t a b) → Parting (suc t) a b
    go (yes m) below = up (below m)
    go (no m) below = apart t (omega arith) (n, m)

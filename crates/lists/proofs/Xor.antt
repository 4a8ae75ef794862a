-- Laws of the exclusive or that lib.Bits does not have, and of numbers that have the same leading digits.
-- Assumes nothing.
use mathlib.Core.Path.{◌≡◌, refl, sym, ap, ◌∙◌}
use Prim.Native.Nat.{ℕ, zero, suc, ◌+◌, ◌*◌, ◌/◌, ◌%◌, ◌^◌, ◌≤◌, ◌<◌}
use native.Mathlib.Nat.{div-eq_of_lt, lt-div-mul-add, le_trans, div-mul-le_self, le-div_iff_mul-le}
use native.Mathlib.Decide.{le_ind}
use native.Mathlib.Omega.{arith}
use lib.Arith.{bin_ind}
use lib.Pow.{pow_pos, shr-shr}
use lib.Bits.{bit_xor, differ, xor_step, xor_self, xor_zero_r, xor_shr}

differ-lt : (x y : ℕ) → x < 2 → y < 2 → differ x y < 2
differ-lt zero y hx hy = hy
differ-lt (suc x) zero hx hy = hx
differ-lt (suc x) (suc y) hx hy = differ-lt x y (omega arith) (omega arith)

differ-assoc : (x y z : ℕ) → x < 2 → y < 2 → z < 2 → differ (differ x y) z ≡ differ x (differ y z)
differ-assoc zero y z hx hy hz = refl
differ-assoc (suc zero) zero z hx hy hz = refl
differ-assoc (suc zero) (suc zero) zero hx hy hz = refl
differ-assoc (suc zero) (suc zero) (suc zero) hx hy hz = refl
differ-assoc (suc zero) (suc zero) (suc (suc z)) hx hy hz = omega arith
differ-assoc (suc zero) (suc (suc y)) z hx hy hz = omega arith
differ-assoc (suc (suc x)) y z hx hy hz = omega arith

-- the exclusive or by its lowest digit and the others
digits_of : (a b : ℕ) → (bit_xor a b / 2 ≡ bit_xor (a / 2) (b / 2)) × (bit_xor a b % 2 ≡ differ (a % 2) (b % 2))
digits_of a b = omega (arith, xor_step a b, differ-lt (a % 2) (b % 2) (omega arith) (omega arith))

pub xor_assoc : (a b c : ℕ) → bit_xor (bit_xor a b) c ≡ bit_xor a (bit_xor b c)
xor_assoc = bin_ind (λ (a : ℕ). (b c : ℕ) → bit_xor (bit_xor a b) c ≡ bit_xor a (bit_xor b c)) (λ b c. refl) step
  where
    step : (a : ℕ) → ((b c : ℕ) → bit_xor (bit_xor (a / 2) b) c ≡ bit_xor (a / 2) (bit_xor b c))
        → (b c : ℕ) → bit_xor (bit_xor a b) c ≡ bit_xor a (bit_xor b c)
    step a below b c =
        cc (
          xor_step (bit_xor a b) c,
          xor_step a (bit_xor b c),
          (digits_of a b).0,
          (digits_of a b).1,
          (digits_of b c).0,
          (digits_of b c).1,
          below (b / 2) (c / 2),
          differ-assoc (a % 2) (b % 2) (c % 2) (omega arith) (omega arith) (omega arith),
        )

pub xor-cancel : (a b : ℕ) → bit_xor a (bit_xor a b) ≡ b
xor-cancel a b = sym (xor_assoc a a b) ∙ ap (λ (x : ℕ). bit_xor x b) (xor_self a)

pub xor-zero-eq : (a b : ℕ) → bit_xor a b ≡ 0 → a ≡ b
xor-zero-eq a b e = cc (xor_zero_r a, xor-cancel a b)

-- order is kept by leaving off digits
pub div-le : (k a b : ℕ) → a ≤ b → a / 2 ^ k ≤ b / 2 ^ k
div-le k a b l = (le-div_iff_mul-le (pow_pos k)).1 (le_trans (div-mul-le_self a (2 ^ k)) l)

-- to leave off one digit more is to halve once more
pub half : (h a : ℕ) → a / 2 ^ suc h ≡ a / 2 ^ h / 2
half h a = let e : h + 1 ≡ suc h = omega arith in sym (rw e at (shr-shr a h 1))

-- near: the same digits from place h on
abbrev pub Near : ℕ → ℕ → ℕ → Type 0
Near h a b = a / 2 ^ h ≡ b / 2 ^ h

pub near-suc : (h a b : ℕ) → Near h a b → Near (suc h) a b
near-suc h a b n = cc (half h a, half h b)

pub near_le : (h s a b : ℕ) → h ≤ s → Near h a b → Near s a b
near_le h s a b l n = le_ind (λ (t : ℕ). Near t a b) n (λ t k m. near-suc t a b m) s l

pub near-of-xor : (h a b : ℕ) → bit_xor a b < 2 ^ h → Near h a b
near-of-xor h a b l = xor-zero-eq (a / 2 ^ h) (b / 2 ^ h) (sym (xor_shr a b h) ∙ div-eq_of_lt l)

pub xor-of-near : (h a b : ℕ) → Near h a b → bit_xor a b < 2 ^ h
xor-of-near h a b e =
    let z : bit_xor a b / 2 ^ h ≡ 0 = cc (xor_shr a b h, xor_self (b / 2 ^ h)) in
    let l : bit_xor a b < bit_xor a b / 2 ^ h * 2 ^ h + 2 ^ h = lt-div-mul-add (pow_pos h) in
    omega (arith, rw z at l)

pub xor-undo : (a m : ℕ) → bit_xor (bit_xor a m) m ≡ a
xor-undo a m = cc (xor_assoc a m m, xor_self m, xor_zero_r a)

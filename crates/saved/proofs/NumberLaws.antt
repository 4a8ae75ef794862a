-- Laws of numbers in bytes, high byte first.
-- Assumes nothing.
use mathlib.Core.Path.{◌≡◌, refl, ap, ◌∙◌}
use mathlib.Core.List.{List, [], ◌∷◌, ◌++◌}
use Prim.Native.Nat.{ℕ, zero, suc, ◌+◌, ◌*◌, ◌/◌, ◌%◌, ◌^◌, ◌<◌}
use native.Mathlib.Nat.{add-mul, mul_assoc, pow-suc, pow-succ'}
use native.Mathlib.Omega.{arith}
use lib.Arith.{digits_lt}
use lib.Pow.{pow-add}
use lib.ListN.{length, get_or, length-append}
use Rattle.saved.specs.Bytes.{bytes_value, bytes_of}

number_append : (a b : List ℕ) → bytes_value (a ++ b) ≡ bytes_value a * 256 ^ length b + bytes_value b
unfolding bytes_value
number_append [] b = omega arith
number_append (x ∷ a) b =
    rw (length-append a b, pow-add 256 (length a) (length b), number_append a b, add-mul, mul_assoc) (omega arith)

-- of a list of bytes
pub number_lt : (l : List ℕ) → ((k : ℕ) → k < length l → get_or l k 0 < 256) → bytes_value l < 256 ^ length l
unfolding bytes_value
number_lt [] small = omega arith
number_lt (x ∷ l) small =
    let r = number_lt l (λ k h. small (suc k) (omega arith)) in
    let d = digits_lt (small 0 (omega arith)) r in
    rw pow-succ' d

pub bytes-length : (k v : ℕ) → length (bytes_of k v) ≡ k
unfolding bytes_of
bytes-length zero v = refl
bytes-length (suc k) v = omega (arith, length-append (bytes_of k (v / 256)) (v % 256 ∷ []), bytes-length k (v / 256))

pub number-bytes : (k v : ℕ) → v < 256 ^ k → bytes_value (bytes_of k v) ≡ v
unfolding bytes_value bytes_of
number-bytes zero v h = omega arith
number-bytes (suc k) v h =
    rw (number_append (bytes_of k (v / 256)) (v % 256 ∷ []), number-bytes k (v / 256) (omega (arith, pow-suc 256 k))) (omega arith)

-- the high byte is the first
bytes-cons : (k x v : ℕ) → x < 256 → v < 256 ^ k → bytes_of (suc k) (x * 256 ^ k + v) ≡ x ∷ bytes_of k v
unfolding bytes_of
bytes-cons zero x v hx hv = let e : (x * 1 + v) % 256 ≡ x = omega arith in rw e
bytes-cons (suc k) x v hx hv =
    let p : x * 256 ^ suc k ≡ x * 256 ^ k * 256 = rw (pow-suc, ← mul_assoc) refl in
    let q : (x * 256 ^ suc k + v) / 256 ≡ x * 256 ^ k + v / 256 = omega arith in
    let r : (x * 256 ^ suc k + v) % 256 ≡ v % 256 = omega arith in
    rw (q, r) (ap (λ (l : List ℕ). l ++ (v % 256 ∷ [])) (bytes-cons k x (v / 256) hx (omega (arith, pow-suc 256 k))))

pub bytes-number : (l : List ℕ) → ((k : ℕ) → k < length l → get_or l k 0 < 256) → bytes_of (length l) (bytes_value l) ≡ l
unfolding bytes_value bytes_of
bytes-number [] small = refl
bytes-number (x ∷ l) small =
    let rest : (k : ℕ) → k < length l → get_or l k 0 < 256 = λ k h. small (suc k) (omega arith) in
    bytes-cons (length l) x (bytes_value l) (small 0 (omega arith)) (number_lt l rest) ∙ ap {B = List ℕ} (λ r. x ∷ r) (bytes-number l rest)

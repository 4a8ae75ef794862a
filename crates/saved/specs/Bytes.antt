-- Numbers in bytes, the high byte first, and lists one behind the other.
-- Assumes nothing.
use Rattle.std.specs.Prelude.{ℕ, zero, suc, ◌+◌, ◌*◌, ◌/◌, ◌%◌, ◌^◌, List, [], ◌∷◌, ◌++◌, length}

-- the number that some bytes hold, high byte first
unfoldable pub bytes_value : List ℕ → ℕ
bytes_value [] = 0
bytes_value (b ∷ bs) = b * 256 ^ length bs + bytes_value bs

-- a number in k bytes, high byte first
unfoldable pub bytes_of : ℕ → ℕ → List ℕ
bytes_of zero v = []
bytes_of (suc k) v = bytes_of k (v / 256) ++ (v % 256 ∷ [])

-- the lists f 0, f 1, .., f (n − 1), one behind the other
unfoldable pub concat_of : (ℕ → List ℕ) → ℕ → List ℕ
concat_of f zero = []
concat_of f (suc n) = concat_of f n ++ f n

-- A row on the cable: a bit for each station, eight to a byte, the lowest first.
-- Assumes nothing.
use Rattle.std.specs.Prelude.{◌≡◌, ℕ, zero, suc, ◌+◌, ◌*◌, ◌/◌, ◌%◌, ◌<◌, ◌≤◌, List, length, if◌then◌else◌, ◌==◌, slice_index}
use Rattle.std.specs.Int.{bit_at}
use Rattle.lists.specs.Search.{list_of}
use Rattle.lists.specs.Sums.{bit}

-- f k + 2 · f (k + 1) + 4 · f (k + 2) + .., m of them
unfoldable pub bits : (ℕ → ℕ) → ℕ → ℕ → ℕ
bits f k zero = 0
bits f k (suc m) = f k + 2 * bits f (suc k) m

-- 1 if the row suspects station k, else 0
abbrev pub suspicion : List ℕ → ℕ → ℕ
suspicion r k = bit (slice_index r k == 1)

-- Rule Packed row: how many bytes a row of n stations takes, 8 for 64
abbrev pub packed_length : ℕ → ℕ
packed_length n = (n + 7) / 8

-- byte b of a packed row
unfoldable pub packed_byte : List ℕ → ℕ → ℕ
packed_byte r b = bits (suspicion r) (8 * b) 8

-- Rule Packed row: the row packed
unfoldable pub pack : ℕ → List ℕ → List ℕ
pack n r = list_of (packed_byte r) (packed_length n)

-- Rule Heard row: byte k of the row that a packed one from station `from` stands for; that about the sender itself is 0
unfoldable pub heard_byte : ℕ → List ℕ → ℕ → ℕ
heard_byte from p k = if k == from then 0 else bit_at (slice_index p (k / 8)) (k % 8)

-- Rule Heard row: the row of n stations that a packed one from station `from` stands for, whatever its bytes. Bits behind n are not looked at
unfoldable pub heard : ℕ → ℕ → List ℕ → List ℕ
heard n from p = list_of (heard_byte from p) n

-- whatever bytes come are a row of n bytes that are 0 or 1, and 0 about the sender
abbrev pub AnyBytesAreARow : Type 0
AnyBytesAreARow =
    (n from : ℕ) (p : List ℕ)
    → (length (heard n from p) ≡ n) × (slice_index (heard n from p) from ≡ 0) × ((k : ℕ) → k < n → slice_index (heard n from p) k ≤ 1)

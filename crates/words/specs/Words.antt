-- Bytes that are read eight at a time.
-- Assumes nothing.
use Rattle.std.specs.Prelude.{ℕ, ◌+◌, Bool, ◌&&◌, List, length, ◌==◌, nat_le, slice_index}
use Rattle.lists.specs.Search.{every}

-- the byte at place k is 0 or 1
abbrev pub is_bit_at : List ℕ → ℕ → Bool
is_bit_at a k = nat_le (slice_index a k) 1

-- every byte of the list is
unfoldable pub are_bits : List ℕ → Bool
are_bits a = every (is_bit_at a) (length a)

-- eight bytes stand from place p on, and all are 0
unfoldable pub eight_zeros : List ℕ → ℕ → Bool
eight_zeros a p = nat_le (p + 8) (length a) && every (λ j. slice_index a (p + j) == 0) 8

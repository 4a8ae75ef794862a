-- Two lists of bytes, place by place.
-- Assumes nothing.
use Rattle.std.specs.Prelude.{ℕ, max, ◌&&◌, List, length, if◌then◌else◌, ◌==◌, nat_le, slice_index}
use Rattle.std.proofs.lemmas.List.Edits.{sets}
use Rattle.lists.specs.Search.{list_of}

-- the greater of the two bytes at place k; past a list's end its byte is 0
unfoldable pub joined_byte : List ℕ → List ℕ → ℕ → ℕ
joined_byte a b k = max (slice_index a k) (slice_index b k)

-- list a with the greater byte at each of its places
unfoldable pub joined_bytes : List ℕ → List ℕ → List ℕ
joined_bytes a b = list_of (joined_byte a b) (length a)

-- the same at the front of a buffer, for two lists of one length and a buffer with room for them; otherwise the buffer as it was
unfoldable pub with_joined : List ℕ → List ℕ → List ℕ → List ℕ
with_joined a b out = if length a == length b && nat_le (length a) (length out) then sets out 0 (joined_bytes a b) else out

-- What is done to a row by an exchange, and where no reply comes.
-- Assumes nothing.
use Rattle.std.specs.Prelude.{ℕ, Bool, ◌||◌, List, length, set, if◌then◌else◌, ◌==◌, slice_index}
use Rattle.lists.specs.Search.{list_of, every}
use Rattle.lists.specs.Bytes.{joined_byte}

-- byte k of the union: 1 if either row has 1, and the byte about the row's own station as it was
unfoldable pub union_byte : List ℕ → List ℕ → ℕ → ℕ → ℕ
union_byte r other own k = if k == own then slice_index r k else joined_byte r other k

-- Rule Exchange: the union of row r of station `own` with another, but for the byte about `own`, which stays
unfoldable pub union : List ℕ → List ℕ → ℕ → List ℕ
union r other own = list_of (union_byte r other own) (length r)

-- Rule No reply: row r with 1 in the byte about j
unfoldable pub mark : List ℕ → ℕ → List ℕ
mark r j = set r j 1

-- Rule Alone, of one station k, by the row of station `own`, byte by byte: the row suspects k, or k is `own` itself
abbrev pub self_or_suspected_by : (ℕ → ℕ) → ℕ → ℕ → Bool
self_or_suspected_by suspicion own k = k == own || suspicion k == 1

-- Rule Alone: the row suspects all others of n stations
abbrev pub suspects_all : (ℕ → ℕ) → ℕ → ℕ → Bool
suspects_all suspicion own n = every (self_or_suspected_by suspicion own) n

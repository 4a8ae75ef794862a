-- Searches and lists over numbers, by which the other definitions are stated.
-- Assumes nothing.
use Rattle.std.specs.List.{filter, find, list_all, range_with_len, reduce}
use Rattle.std.specs.Prelude.{ℕ, ◌+◌, max, Bool, List, map, unwrap_or}

-- the least of k, k + 1, .., k + n − 1 that passes q; k + n where none does
unfoldable pub least : (ℕ → Bool) → ℕ → ℕ → ℕ
least q n k = unwrap_or (find q (range_with_len k n)) (k + n)

-- whether every number below n passes q
unfoldable pub every : (ℕ → Bool) → ℕ → Bool
every q n = list_all q (range_with_len 0 n)

-- the list f 0, f 1, .., f (n − 1)
unfoldable pub list_of : (ℕ → ℕ) → ℕ → List ℕ
list_of f n = map f (range_with_len 0 n)

-- the numbers below n that pass q, ascending
abbrev pub select : (ℕ → Bool) → ℕ → List ℕ
select q n = filter q (range_with_len 0 n)

-- the greatest of f 0, f 1, .., f (n − 1); 0 where n is 0
unfoldable pub greatest : (ℕ → ℕ) → ℕ → ℕ
greatest f n = unwrap_or (reduce max (list_of f n)) 0

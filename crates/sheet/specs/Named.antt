-- The plant that the arguments name, or what is wrong with them.
-- Assumes nothing.
use Rattle.std.specs.Prelude.{ℕ, ◌+◌, ◌-◌, List, [], ◌∷◌, take, count_by, replicate, nat_lt, ◌==◌, if◌then◌else◌}
use Rattle.std.specs.Prelude.{Option, None, Some, option_and_then, Result, Ok, Err, slice_index_or, slice_set}
use Rattle.table.specs.Sizes.{is_size}
use Rattle.input.specs.Input.{size_of, station_of}
use Rattle.sheet.specs.declared.call.WrongCall.{WrongCall}
use Rattle.sheet.specs.declared.call.WrongCall.TheVariants.{NotASize, NotABoard, NamedAgain, TooFewLive}

-- what follows, where nothing was wrong so far
abbrev pub and_then : {A B : Type 0} → (A → Result B WrongCall) → Result A WrongCall → Result B WrongCall
and_then f (Ok a) = f a
and_then f (Err wrong) = Err wrong

-- the size in a word: one to three digits, from 2 to 64
abbrev pub plant_size : List ℕ → Option ℕ
plant_size word = option_and_then (λ n. if is_size n then Some n else None) (size_of word)

-- the row in which board b of n is dead too. Argument k named it, and may name no board again
unfoldable pub row_with : ℕ → ℕ → List ℕ → Option ℕ → Result (List ℕ) WrongCall
row_with n k row None = Err (NotABoard k (n - 1))
row_with n k row (Some b) =
    if nat_lt b n then (if slice_index_or row b 0 == 0 then Ok (slice_set row b 1) else Err (NamedAgain k)) else Err (NotABoard k (n - 1))

-- the row with the dead boards in words, of one or two digits each, the first of which is argument k
unfoldable pub rows_with : ℕ → ℕ → List (List ℕ) → List ℕ → Result (List ℕ) WrongCall
rows_with n k [] row = Ok row
rows_with n k (word ∷ words) row = and_then (rows_with n (k + 1) words) (row_with n k row (station_of word))

-- a plant with fewer than two live boards has no sheet
abbrev pub with_two_live : ℕ → List ℕ → Result (ℕ × List ℕ) WrongCall
with_two_live n row = if nat_lt (count_by (λ dead. dead == 0) (take n row)) 2 then Err TooFewLive else Ok (n, row)

-- the size and the row of the plant that words name
unfoldable pub plant_of : Option ℕ → List (List ℕ) → Result (ℕ × List ℕ) WrongCall
plant_of None boards = Err NotASize
plant_of (Some n) boards = and_then (with_two_live n) (rows_with n 2 boards (replicate 64 0))

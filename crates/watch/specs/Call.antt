-- What the words of a call ask for, without the program's name.
-- Assumes nothing.
use Rattle.std.specs.Prelude.{ℕ, Bool, ◌||◌, not, List, [], ◌∷◌, filter, codes, nat_eq, string_bytes, if◌then◌else◌}
use Rattle.std.specs.Prelude.{Option, None, Some, option_map, Result, Ok, Err}
use Rattle.std.specs.List.{list_any, starts_with}
use Rattle.std.specs.Str.{bytes_eq}
use Rattle.table.specs.declared.wiring.Wiring.{Wiring}
use Rattle.table.specs.declared.wiring.Wiring.TheVariants.{Cube, Ring}
use Rattle.watch.specs.declared.call.Asked.{Asked}
use Rattle.watch.specs.declared.call.Asked.TheVariants.{Help, Run}
use Rattle.watch.specs.Words.{too_many_words, unknown_option_words}

-- the usage; or a run on a wiring, of the file with this path or, with none, of standard input
pub data Wanted : Type 0 where
  help : Wanted
  run : Wiring → Option (List ℕ) → Wanted

abbrev pub wanted : Asked → Wanted
wanted Help = help
wanted (Run wiring path) = run wiring (option_map (λ p. string_bytes p) path)

-- whether a word is the option --ring
abbrev pub is_ring_option : List ℕ → Bool
is_ring_option word = bytes_eq word (codes "--ring")

-- the ring where the option stands among the words, once or more; else the cube
abbrev pub wiring_in : List (List ℕ) → Wiring
wiring_in words = if list_any is_ring_option words then Ring else Cube

-- what one word besides the option asks for, or what is said of it
abbrev pub asked_by : Wiring → List ℕ → Result Wanted (List ℕ)
asked_by wiring word =
    if bytes_eq word (codes "-h") || bytes_eq word (codes "--help") then Ok help
    else (if starts_with nat_eq word (codes "-") then Err (unknown_option_words word) else Ok (run wiring (Some word)))

-- what the words besides the option ask for: there is one at most
abbrev pub asked_by_others : Wiring → List (List ℕ) → Result Wanted (List ℕ)
asked_by_others w [] = Ok (run w None)
asked_by_others w (word ∷ []) = asked_by w word
asked_by_others w (word ∷ other ∷ rest) = Err too_many_words

-- what all the words ask for, or what is said of them
abbrev pub asked_in : List (List ℕ) → Result Wanted (List ℕ)
asked_in words = asked_by_others (wiring_in words) (filter (λ word. not (is_ring_option word)) words)

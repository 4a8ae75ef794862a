-- What the words of a call ask for, of which the first is the program's name. `clap` reads them: its `fault_of` lists why it does not take words
-- (nothing, where it takes them), its `matches_of` has what it finds in them.
-- Assumes nothing.
use Rattle.std.specs.Prelude.{ℕ, ◌≡◌, ◌≢◌, ◌⊎◌, ◌&&◌, List, [], ◌∷◌, codes, length, ◌==◌, if◌then◌else◌, unwrap_or, Some, Result, Ok, Err}
use Rattle.std.specs.Result.{result_map_both}
use Rattle.clap.specs.Lexer.{usize_max}
use Rattle.clap.specs.Walk.{Row, Rule, all_of, count_of}
use Rattle.clap.specs.Simple.{App, matches_of, new_app, new_rule, with_rule}
use Rattle.clap.specs.Faults.{fault_of}
use Rattle.clap.specs.Kinds.{Kinds, HasKind, IsAmong}
use Rattle.clap.specs.Values.{kind_of}
use Rattle.clap.specs.declared.error.Error.{Error}
use Rattle.clap.specs.declared.builder.action.ArgAction.TheVariants.{Count}
use Rattle.clap.specs.declared.error.kind.ErrorKind.TheVariants.{DisplayHelp}
use Rattle.sheet.specs.declared.call.Call.{Call}
use Rattle.sheet.specs.declared.call.Call.TheVariants.{Help, Sheet, Sizes}
use Rattle.sheet.specs.declared.call.WrongCall.{WrongCall}
use Rattle.sheet.specs.declared.call.WrongCall.TheVariants.{Words, NoSize, MoreThanSizes}
use Rattle.sheet.specs.Named.{plant_size, plant_of}

-- the usage, the sheet of a plant of this size and row, or the table over all sizes
pub data Asked : Type 0 where
  help : Asked
  sheet : ℕ → List ℕ → Asked
  sizes : Asked

abbrev pub asked : Call → Asked
asked Help = help
asked (Sheet plant) = sheet plant.size plant.row
asked Sizes = sizes

-- the flag --sizes
abbrev pub sizes_rule : Rule
sizes_rule = record (new_rule (codes "sizes")) { long = Some (codes "sizes"); action = Some Count }

-- one number or more
abbrev pub numbers_rule : Rule
numbers_rule = record (new_rule (codes "numbers")) {
  range = Some (record { start_inclusive = 1; end_inclusive = usize_max });
}

-- the command, to which clap adds -h and --help
abbrev pub sheet_command : App
sheet_command = with_rule (with_rule (new_app (codes "sheet")) sizes_rule) numbers_rule

-- the sheet of a plant, where its words are right
abbrev pub sheet_of : Result (ℕ × List ℕ) WrongCall → Result Asked WrongCall
sheet_of (Ok plant) = Ok (sheet plant.0 plant.1)
sheet_of (Err wrong) = Err wrong

-- what numbers ask for: the first is the size, the others are the dead boards
abbrev pub plant_in : List (List ℕ) → Result Asked WrongCall
plant_in [] = Err NoSize
plant_in (size ∷ boards) = sheet_of (plant_of (plant_size size) boards)

-- what so many flags --sizes and these numbers ask for: the table by one flag alone
abbrev pub asked_by : ℕ → List (List ℕ) → Result Asked WrongCall
asked_by flags numbers =
    if flags == 0 then plant_in numbers else (if flags == 1 && length numbers == 0 then Ok sizes else Err MoreThanSizes)

-- what words ask for, or what is wrong with them, by what clap finds in them
abbrev pub understood : List Row → Result Asked WrongCall
understood found = asked_by (count_of (codes "sizes") found) (unwrap_or (all_of (codes "numbers") found) [])

-- clap's own refusal of words, for one of these reasons, or since memory ran out
abbrev pub Refuses : Kinds → Result Call WrongCall → Type 0
Refuses kinds answer = (error : Error) × (answer ≡ Err (Words error)) × (kind_of error ≢ DisplayHelp) × HasKind kinds error

-- what is answered to words: what they ask for, where clap takes them; the usage, where that is clap's answer; or clap's refusal
abbrev pub Answers : List (List ℕ) → Result Call WrongCall → Type 0
Answers words answer =
    let kinds = fault_of sheet_command words in
    ((kinds ≡ []) × (result_map_both asked (λ e. e) answer ≡ understood (matches_of sheet_command words)))
    ⊎ (((answer ≡ Ok Help) × IsAmong DisplayHelp kinds) ⊎ Refuses kinds answer)

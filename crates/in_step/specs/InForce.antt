-- That nothing stands in the way: for any entries that a master may make there are happenings after which all are in force at all boards.
-- Assumes nothing.
use Rattle.std.specs.Prelude.{Ok, ◌≡◌, ℕ, ◌<◌, true, List, [], ◌∷◌, length, ⊤}
use Rattle.table.specs.Table.{live}
use Rattle.table.specs.Rules.{table_check}
use Rattle.table.specs.declared.wiring.Wiring.{Wiring}
use Rattle.plant.specs.Turn.{kind_late}
use Rattle.plant.specs.Entry.{Entry, State, is_test, entry_check, after, tested_of}
use Rattle.in_step.specs.System.{System, start}
use Rattle.in_step.specs.Happenings.{Happening, after_happenings}

-- entries as a master makes them: a run takes each, and one of kind 2 tests a live board
abbrev pub AsMade : Wiring → ℕ → State → List Entry → Type 0
AsMade w n s [] = ⊤
AsMade w n s (e ∷ es) =
    (entry_check n s e ≡ Ok tt)
    × (e.kind ≡ kind_late → (is_test w n s.table e ≡ true) × (live n s.table (tested_of w n s.table e) ≡ true))
    × AsMade w n (after w n s e) es

-- the master has made them, and all are in force at each board
pub record AllInForce (n : ℕ) (es : List Entry) (y : System) : Type 0 where
  pub entries : y.entries ≡ es
  pub boards : (k : ℕ) → k < n → (y.boards k).in_force ≡ length es

-- Rule Entries get in force: so it is after some list of happenings, for each list of such entries
abbrev pub EntriesGetInForce : Type 0
EntriesGetInForce =
    (w : Wiring) (n : ℕ) (s : State) (es : List Entry) → table_check w n s.table ≡ Ok tt → AsMade w n s es
    → (hs : List Happening) × AllInForce n es (after_happenings w n s (start n s) hs)

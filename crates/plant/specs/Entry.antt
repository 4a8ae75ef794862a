-- One entry of a schedule: refusals 7 to 11, then what the entry does, for all inputs. w is the wiring.
-- Assumes nothing.
use Rattle.std.specs.Prelude.{ℕ, ◌+◌, Bool, not, ◌&&◌, ◌||◌, List, [], ◌∷◌, if◌then◌else◌, ◌==◌, nat_le}
use Rattle.table.specs.Table.{status, finished, live}
use Rattle.lists.specs.declared.refusal.Refusal.TheVariants.{TallyFull, UnknownKind, NotLive, PassFinished}
use Rattle.lists.specs.Refusal.{Check, ensure, ◌and◌}
use Rattle.table.specs.Rules.{round_over, station_check}
use Rattle.table.specs.declared.wiring.Wiring.{Wiring}
use Rattle.plant.specs.declared.Tally.{Tally}
use Rattle.plant.specs.declared.entry.Entry.{Entry as Known}
use Rattle.plant.specs.Kind.{kind_byte}
use Rattle.plant.specs.Turn.{kind_crash, makes_test, turn, turn_tested, turn_outcome, crash}
use Rattle.station.specs.Outcome.{outcome_finished, outcome_crash, no_station}
use Rattle.plant.specs.Round.{after_round}

-- Rule Entry: two bytes, a kind and a station
pub record Entry : Type 0 where
  pub kind : ℕ
  pub station : ℕ

-- the table, and the tally of closed rounds and of tests beside it
pub record State : Type 0 where
  pub table : List ℕ
  pub rounds : ℕ
  pub tests : ℕ

-- a state by its parts
abbrev pub state_of : List ℕ → ℕ → ℕ → State
state_of t r u = record { table = t; rounds = r; tests = u }

-- the table and the tally that are handed to a call, or that it gives back
abbrev pub state_with : List ℕ → Tally → State
state_with t tally = state_of t tally.rounds tally.tests

-- an entry by its two bytes
abbrev pub entry_of : ℕ → ℕ → Entry
entry_of k i = record { kind = k; station = i }

-- the entry that an entry of a known kind stands for
abbrev pub entry_known : Known → Entry
entry_known e = entry_of (kind_byte e.kind) e.station.0

-- the greatest value of a tally, 32 bits
abbrev pub tally_top : ℕ
tally_top = 4294967295

-- Rule Tally: a counter is full at 4,294,967,295
abbrev pub tally_full : ℕ → ℕ → Bool
tally_full rounds tests = rounds == tally_top || tests == tally_top

-- whether the entry is a crash, and whether it is a turn that makes a test
abbrev pub is_crash : Entry → Bool
is_crash e = e.kind == kind_crash

abbrev pub is_test : Wiring → ℕ → List ℕ → Entry → Bool
is_test w n t e = not (is_crash e) && makes_test w n t e.station

-- Rule Taken, refusals 7 to 11: a counter is full; the kind is not 1, 2 or 3; the station's number is n or more; it is not live; the kind is 1 or 2,
-- and it has finished its pass
unfoldable pub entry_check : ℕ → State → Entry → Check
entry_check n s e =
    ensure (not (tally_full s.rounds s.tests)) TallyFull
    and ensure (nat_le 1 e.kind && nat_le e.kind 3) UnknownKind
    and station_check n e.station
    and ensure (live n s.table e.station) NotLive
    and ensure (not (not (is_crash e) && finished n s.table e.station == 1)) PassFinished

-- the table after the crash or the turn, before the round is looked at
unfoldable pub acted : Wiring → ℕ → List ℕ → Entry → List ℕ
acted w n t e = if is_crash e then crash n t e.station else turn w n t e.kind e.station

-- Rules Count the test, Count the round and Taken: table and tally after an entry that is not refused, with the closing of a round
unfoldable pub after : Wiring → ℕ → State → Entry → State
after w n s e = record {
  table = after_round n (acted w n s.table e);
  rounds = if round_over n (acted w n s.table e) then s.rounds + 1 else s.rounds;
  tests = if is_test w n s.table e then s.tests + 1 else s.tests;
}

-- the tested station or 255, and the outcome
unfoldable pub tested_of : Wiring → ℕ → List ℕ → Entry → ℕ
tested_of w n t e = if is_crash e then no_station else turn_tested w n t e.station

unfoldable pub outcome_of : Wiring → ℕ → List ℕ → Entry → ℕ
outcome_of w n t e = if is_crash e then outcome_crash else turn_outcome w n t e.kind e.station

-- whether the outcome is that of a test
abbrev pub shows_test : ℕ → Bool
shows_test outcome = not (outcome == outcome_finished) && not (outcome == outcome_crash)

-- Rule Run sheet: four bytes, i; the tested station, or 255; the outcome; i's status after the entry
unfoldable pub sheet_line : Wiring → ℕ → State → Entry → List ℕ
sheet_line w n s e =
    e.station ∷ tested_of w n s.table e ∷ outcome_of w n s.table e ∷ status n (after w n s e).table e.station ∷ []

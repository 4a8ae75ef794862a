-- The same from the moment at which a board is dead, which may be in the middle of a round: the rest of that round comes first.
-- Assumes nothing.
use Rattle.std.specs.Prelude.{Ok, ◌≡◌, true, not, List, [], ◌∷◌, ◌++◌, ℕ, ◌+◌, ◌*◌, ◌≤◌, length}
use Rattle.table.specs.Sizes.{is_size}
use Rattle.table.specs.Table.{table_length}
use Rattle.table.specs.Rules.{table_check}
use Rattle.table.specs.Properties.{at_start, live_count, none_suspected}
use Rattle.table.specs.declared.wiring.Wiring.{Wiring}
use Rattle.plant.specs.Entry.{State}
use Rattle.detection.specs.Runs.{Call, Taken, after_runs, taken_all, table_after, crashes, is_late, is_on}
use Rattle.detection.specs.Rounds.{all_taken}
use Rattle.detection.specs.Driven.{RunOrDrive, after_mixed, runs_of_mixed, after_drives}
use Rattle.detection.specs.Claim.{AllKnow}
use Rattle.latency.specs.Bound.{turns_per_round, turns_until_known, grants_of}

-- Rule Turns from any moment: a round that is under way has at most n·n turns left
abbrev pub turns_from_now : Wiring → ℕ → List ℕ → ℕ
turns_from_now w n t = n * n + turns_until_known w n t

-- the detection conditions at any moment of a round: a table that refusals 1 to 4 let through, two live boards at least, no live one
-- suspecting a live one; any tally, any list of runs on that wiring, without crashes and late replies of live boards
pub record AnyMoment (w : Wiring) (n : ℕ) (s : State) (calls : List Call) : Type 0 where
  pub accepted : table_check w n s.table ≡ Ok tt
  pub two_live : 2 ≤ live_count n s.table
  pub accurate : none_suspected n s.table ≡ true
  pub one_wiring : all_taken (is_on w) (taken_all s calls) ≡ true
  pub no_crash : all_taken (λ x. not (crashes x)) (taken_all s calls) ≡ true
  pub no_late : all_taken (λ x. not (is_late x)) (taken_all s calls) ≡ true

-- Rule Turns from any moment: then all is known after the rest of the round and the turns from a round's start
abbrev pub KnownFromAnyMoment : Type 0
KnownFromAnyMoment =
    (w : Wiring) (n : ℕ) (s : State) (calls : List Call) → AnyMoment w n s calls → turns_from_now w n s.table ≤ length (taken_all s calls)
    → AllKnow n s.table (after_runs s calls).table

-- and of drives
abbrev pub DrivesKnownFromAnyMoment : Type 0
DrivesKnownFromAnyMoment =
    (w : Wiring) (n : ℕ) (s : State) (lasts : List ℕ) → AnyMoment w n s [] → turns_from_now w n s.table ≤ grants_of w n s lasts
    → AllKnow n s.table (after_drives w n s lasts).table

-- Rule Turns from a crash: the rest of the round in which a board crashes has no more turns than a whole round without it
abbrev pub turns_from_crash : Wiring → ℕ → List ℕ → ℕ
turns_from_crash w n t = turns_per_round w n t + turns_until_known w n t

-- the detection conditions, but with crashes, of which x is the last: `before` are the taken entries before it and `rest` those after it. Two
-- boards at least are live after it
pub record LastCrash (w : Wiring) (n : ℕ) (s : State) (calls : List Call) (before : List Taken) (x : Taken) (rest : List Taken) : Type 0 where
  pub size : is_size n ≡ true
  pub long : length s.table ≡ table_length n
  pub start : at_start n s.table ≡ true
  pub accurate : none_suspected n s.table ≡ true
  pub one_wiring : all_taken (is_on w) (taken_all s calls) ≡ true
  pub no_late : all_taken (λ y. not (is_late y)) (taken_all s calls) ≡ true
  pub parts : taken_all s calls ≡ before ++ (x ∷ rest)
  pub crash : crashes x ≡ true
  pub no_more : all_taken (λ x. not (crashes x)) rest ≡ true
  pub two_live : 2 ≤ live_count n (table_after x)

-- Rule Turns from a crash: all live boards know all dead ones once so many turns were made since the last crash, wherever in a round it came
abbrev pub KnownFromCrash : Type 0
KnownFromCrash =
    (w : Wiring) (n : ℕ) (s : State) (calls : List Call) (before : List Taken) (x : Taken) (rest : List Taken) → LastCrash w n s calls before x rest
    → turns_from_crash w n (table_after x) ≤ length rest → AllKnow n (table_after x) (after_runs s calls).table

-- and of a list that mixes runs and drives
abbrev pub MixedKnownFromCrash : Type 0
MixedKnownFromCrash =
    (w : Wiring) (n : ℕ) (s : State) (xs : List RunOrDrive) (before : List Taken) (x : Taken) (rest : List Taken)
    → LastCrash w n s (runs_of_mixed s xs) before x rest
    → turns_from_crash w n (table_after x) ≤ length rest → AllKnow n (table_after x) (after_mixed s xs).table

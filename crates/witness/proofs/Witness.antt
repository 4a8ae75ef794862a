-- The claim is not empty, ends in themselves: the plants of specs/Witness.antt, computed.
-- Assumes nothing.
use mathlib.Core.Path.{◌≡◌, refl}
use mathlib.Core.Bool.{true, not}
use mathlib.Core.List.{List}
use Prim.Native.Nat.{ℕ, ◌≤◌}
use native.Mathlib.Omega.{arith}
use lib.ListN.{length}
use Rattle.table.specs.Sizes.{is_size}
use Rattle.table.specs.Table.{table_length}
use Rattle.table.specs.Properties.{at_start, live_count, none_suspected}
use Rattle.table.specs.declared.wiring.Wiring.{Wiring}
use Rattle.plant.specs.Entry.{State}
use Rattle.detection.specs.Runs.{Call, taken_all, crashes, is_late, is_on}
use Rattle.detection.specs.Rounds.{all_taken}
use Rattle.detection.specs.Claim.{DetectionPremises}
use Rattle.witness.specs.Witness.{turns_of, boards, calls, FourBoards, ThreeBoards, ring_boards, ring_calls, FourOnRing}
use Rattle.witness.proofs.Computing.{whole_list}

-- the detection conditions, each computed
met : {w : Wiring} {n : ℕ} {s : State} {calls : List Call} → is_size n ≡ true → length s.table ≡ table_length n
    → at_start n s.table ≡ true → 2 ≤ live_count n s.table → none_suspected n s.table ≡ true → all_taken (is_on w) (taken_all s calls) ≡ true
    → all_taken (λ x. not (crashes x)) (taken_all s calls) ≡ true → all_taken (λ x. not (is_late x)) (taken_all s calls) ≡ true
    → DetectionPremises w n s calls
met size long start two accurate one none never = record {
  size = size;
  long = long;
  start = start;
  two_live = two;
  accurate = accurate;
  one_wiring = one;
  no_crash = none;
  no_late = never;
}

-- four boards
pub witness : FourBoards
unfolding whole_list boards turns_of calls
witness = record {
  premises = met refl refl refl (omega arith) refl refl refl refl;
  closed_tests = refl;
  open_tests = refl;
  counted = refl;
}

-- three boards
pub witness-3 : ThreeBoards
unfolding whole_list turns_of
witness-3 = record {
  premises = met refl refl refl (omega arith) refl refl refl refl;
  closed_tests = refl;
  open_tests = refl;
  counted = refl;
}

-- four boards on the ring
pub witness-ring : FourOnRing
unfolding whole_list ring_boards turns_of ring_calls
witness-ring = record {
  premises = met refl refl refl (omega arith) refl refl refl refl;
  closed_tests = refl;
  open_tests = refl;
  counted = refl;
}

-- The worst-case latency of the cube is reached at any size from 3 on: a computed plant of 3, 5, 9, 17 and 33 boards, and the law for greater sizes.
-- Assumes nothing.
use mathlib.Core.Path.{◌≡◌, refl, sym}
use mathlib.Core.Bool.{true}
use mathlib.Core.List.{List, [], ◌∷◌, ◌++◌}
use Prim.Native.Nat.{ℕ, zero, suc, ◌^◌, ◌≤◌, ◌<◌}
use native.Mathlib.Omega.{arith}
use Rattle.table.specs.Sizes.{is_size, dimension}
use Rattle.table.proofs.SizeLaws.{size-log, size-dimension}
use Rattle.detection.specs.Claim.{worst_latency}
use Rattle.plant.specs.Entry.{State, state_of}
use Rattle.table.specs.Fresh.{fresh_table}
use Rattle.table.specs.declared.wiring.Wiring.TheVariants.{Cube}
use Rattle.witness.proofs.Computing.{whole_list}
use Rattle.witness.specs.WorstCase.{WorstCaseAt}
use Rattle.witness.proofs.Slow.{Goes, goes-append, slow-worst-case}
use Rattle.witness.proofs.Plants.{crashed, first_state, arrives, Arrival, arrival, begins, unseen, Computed, slow-plant, marked, same_list}
use Rattle.witness.proofs.Plants.{same_state, part, behind}
use Rattle.witness.proofs.Greater.{greater}

-- who unfolds this name computes whether turns arrive
unfoldable computes : Unit {0}
unfolding whole_list worst_latency crashed arrives begins unseen marked same_state same_list
computes = tt

-- the plants of samples/slowest.txt without their last round: the dead boards, a live board and a dead one that it does not suspect then, and
-- the turns
slow-3 : Computed 3
unfolding computes
slow-3 =
    slow-plant 3 (2 ∷ []) 1 2 refl
    (1 ∷ 1 ∷ 0 ∷ 0 ∷ 0 ∷ [])
    refl (arrival _ _ _ _ refl)

slow-5 : Computed 5
unfolding computes
slow-5 =
    slow-plant 5 (0 ∷ 1 ∷ 4 ∷ []) 3 4 refl
    (3 ∷ 2 ∷ 3 ∷ 3 ∷ 2 ∷ 2 ∷ 3 ∷ 3 ∷ 3 ∷ 2 ∷ 2 ∷ 2 ∷ 2 ∷ [])
    refl (arrival _ _ _ _ refl)

slow-9 : Computed 9
unfolding computes
slow-9 =
    slow-plant 9 (0 ∷ 1 ∷ 2 ∷ 3 ∷ 8 ∷ []) 5 8 refl
    (5 ∷ 5 ∷ 6 ∷ 6 ∷ 4 ∷ 4 ∷ 7 ∷ 7 ∷ 5 ∷ 5 ∷ 6 ∷ 6 ∷ 4 ∷ 4 ∷ 7 ∷ 7 ∷ 4 ∷ 4 ∷ 4 ∷ 5 ∷ 6 ∷ 5 ∷ 4 ∷ 5 ∷ 7 ∷ 5 ∷ 6 ∷ 7 ∷ 7 ∷ 6 ∷
    7 ∷ 6 ∷ 5 ∷ 5 ∷ 5 ∷ 5 ∷ 6 ∷ 6 ∷ 6 ∷ 6 ∷ 4 ∷ 4 ∷ 4 ∷ 7 ∷ 7 ∷ 7 ∷ 7 ∷ 4 ∷ 4 ∷ [])
    refl (arrival _ _ _ _ refl)

slow-17 : Computed 17
unfolding computes
slow-17 =
    slow-plant 17 (0 ∷ 1 ∷ 2 ∷ 3 ∷ 4 ∷ 5 ∷ 6 ∷ 7 ∷ 12 ∷ 13 ∷ 14 ∷ 15 ∷ 16 ∷ []) 9 16 refl
    (10 ∷ 10 ∷ 9 ∷ 9 ∷ 8 ∷ 8 ∷ 11 ∷ 11 ∷ 10 ∷ 10 ∷ 10 ∷ 9 ∷ 9 ∷ 9 ∷ 8 ∷ 8 ∷ 8 ∷ 11 ∷ 11 ∷ 11 ∷ 11 ∷ 10 ∷ 11 ∷ 9 ∷ 11 ∷ 11 ∷ 8 ∷
    11 ∷ 10 ∷ 10 ∷ 8 ∷ 9 ∷ 9 ∷ 10 ∷ 8 ∷ 9 ∷ 10 ∷ 10 ∷ 9 ∷ 8 ∷ 8 ∷ 8 ∷ 9 ∷ 11 ∷ 10 ∷ 9 ∷ 8 ∷ 9 ∷ 9 ∷ 9 ∷ 9 ∷ 9 ∷ 11 ∷ 11 ∷ 11 ∷
    11 ∷ 11 ∷ 8 ∷ 8 ∷ 8 ∷ 8 ∷ 8 ∷ 10 ∷ 10 ∷ 10 ∷ 10 ∷ 10 ∷ 8 ∷ 8 ∷ 8 ∷ 8 ∷ 8 ∷ 8 ∷ 9 ∷ 10 ∷ 11 ∷ 10 ∷ 10 ∷ 10 ∷ 10 ∷ 10 ∷ 9 ∷
    9 ∷ 9 ∷ 9 ∷ 9 ∷ 11 ∷ 11 ∷ 11 ∷ 11 ∷ 11 ∷ 9 ∷ 9 ∷ 9 ∷ 9 ∷ 9 ∷ 9 ∷ 10 ∷ 10 ∷ 10 ∷ 10 ∷ 10 ∷ 10 ∷ 8 ∷ 8 ∷ 8 ∷ 8 ∷ 8 ∷ 11 ∷
    11 ∷ 11 ∷ 11 ∷ 11 ∷ 11 ∷ 8 ∷ 8 ∷ [])
    refl (arrival _ _ _ _ refl)

-- that of 33 boards round by round
abbrev dead-33 : List ℕ
dead-33 = (0 ∷ 1 ∷ 2 ∷ 3 ∷ 4 ∷ 5 ∷ 6 ∷ 7 ∷ 8 ∷ 9 ∷ 10 ∷ 11 ∷ 12 ∷ 13 ∷ 14 ∷ 15 ∷ 16 ∷ 17 ∷ 18 ∷ 19 ∷ 24 ∷ 25 ∷ 26 ∷ 27 ∷ 28 ∷ 29 ∷
    30 ∷ 31 ∷ 32 ∷ [])

abbrev state-33 : List (ℕ × ℕ) → ℕ → ℕ → State
state-33 suspicions rounds tests = state_of (marked 33 (crashed 33 (fresh_table 33) dead-33 rounds) suspicions) rounds tests

-- who came to suspect whom in which round: (20, 5) is board 20, which came to suspect board 5
abbrev found-0 : List (ℕ × ℕ)
found-0 = ((20, 4) ∷ (20, 16) ∷ (20, 28) ∷ (21, 5) ∷ (21, 17) ∷ (21, 29) ∷ (22, 6) ∷ (22, 18) ∷ (22, 30) ∷ (23, 7) ∷ (23, 19) ∷
    (23, 31) ∷ [])

abbrev found-1 : List (ℕ × ℕ)
found-1 = ((20, 5) ∷ (20, 6) ∷ (20, 7) ∷ (20, 17) ∷ (20, 18) ∷ (20, 19) ∷ (20, 29) ∷ (20, 30) ∷ (20, 31) ∷ (21, 1) ∷ (21, 4) ∷
    (21, 6) ∷ (21, 7) ∷ (21, 16) ∷ (21, 18) ∷ (21, 19) ∷ (21, 25) ∷ (21, 28) ∷ (21, 30) ∷ (21, 31) ∷ (22, 2) ∷ (22, 4) ∷
    (22, 5) ∷ (22, 7) ∷ (22, 16) ∷ (22, 17) ∷ (22, 19) ∷ (22, 26) ∷ (22, 28) ∷ (22, 29) ∷ (22, 31) ∷ (23, 3) ∷ (23, 4) ∷
    (23, 5) ∷ (23, 6) ∷ (23, 16) ∷ (23, 17) ∷ (23, 18) ∷ (23, 27) ∷ (23, 28) ∷ (23, 29) ∷ (23, 30) ∷ [])

abbrev found-2 : List (ℕ × ℕ)
found-2 = ((20, 0) ∷ (20, 1) ∷ (20, 2) ∷ (20, 3) ∷ (20, 8) ∷ (20, 12) ∷ (20, 24) ∷ (20, 25) ∷ (20, 26) ∷ (20, 27) ∷ (21, 2) ∷
    (21, 3) ∷ (21, 26) ∷ (21, 27) ∷ (22, 1) ∷ (22, 3) ∷ (22, 25) ∷ (22, 27) ∷ (23, 1) ∷ (23, 2) ∷ (23, 25) ∷ (23, 26) ∷ [])

abbrev found-3 : List (ℕ × ℕ)
found-3 = ((21, 0) ∷ (21, 8) ∷ (21, 9) ∷ (21, 12) ∷ (21, 13) ∷ (21, 24) ∷ (22, 0) ∷ (22, 8) ∷ (22, 10) ∷ (22, 12) ∷ (22, 14) ∷
    (22, 24) ∷ (23, 0) ∷ (23, 8) ∷ (23, 12) ∷ (23, 24) ∷ [])

abbrev found-4 : List (ℕ × ℕ)
found-4 = ((20, 9) ∷ (20, 10) ∷ (20, 13) ∷ (20, 14) ∷ (21, 10) ∷ (21, 14) ∷ (22, 9) ∷ (22, 13) ∷ (23, 9) ∷ (23, 10) ∷ (23, 11) ∷
    (23, 13) ∷ (23, 14) ∷ (23, 15) ∷ [])

abbrev found-5 : List (ℕ × ℕ)
found-5 = ((20, 11) ∷ (20, 15) ∷ (21, 11) ∷ (21, 15) ∷ (22, 11) ∷ (22, 15) ∷ [])

-- all suspicions behind so many rounds
abbrev known-1 : List (ℕ × ℕ)
known-1 = found-0

abbrev known-2 : List (ℕ × ℕ)
known-2 = known-1 ++ found-1

abbrev known-3 : List (ℕ × ℕ)
known-3 = known-2 ++ found-2

abbrev known-4 : List (ℕ × ℕ)
known-4 = known-3 ++ found-3

abbrev known-5 : List (ℕ × ℕ)
known-5 = known-4 ++ found-4

abbrev known-6 : List (ℕ × ℕ)
known-6 = known-5 ++ found-5

-- the turns of each round
abbrev turns-0 : List ℕ
turns-0 = (22 ∷ 22 ∷ 21 ∷ 21 ∷ 20 ∷ 20 ∷ 23 ∷ 23 ∷ 22 ∷ 22 ∷ 22 ∷ 22 ∷ 21 ∷ 21 ∷ 21 ∷ 21 ∷ 20 ∷ 20 ∷ 20 ∷ 20 ∷ 23 ∷ 23 ∷ 23 ∷ 23 ∷ [])

abbrev turns-1 : List ℕ
turns-1 = (20 ∷ 21 ∷ 20 ∷ 23 ∷ 23 ∷ 21 ∷ 23 ∷ 21 ∷ 20 ∷ 20 ∷ 21 ∷ 22 ∷ 23 ∷ 20 ∷ 21 ∷ 21 ∷ 23 ∷ 21 ∷ 20 ∷ 23 ∷ 23 ∷ 21 ∷ 23 ∷ 22 ∷
    22 ∷ 22 ∷ 22 ∷ 22 ∷ 22 ∷ 22 ∷ [])

abbrev turns-2 : List ℕ
turns-2 = (20 ∷ 21 ∷ 22 ∷ 23 ∷ 22 ∷ 22 ∷ 22 ∷ 22 ∷ 22 ∷ 22 ∷ 22 ∷ 20 ∷ 20 ∷ 20 ∷ 20 ∷ 20 ∷ 20 ∷ 20 ∷ 20 ∷ 20 ∷ 21 ∷ 21 ∷ 21 ∷ 21 ∷
    21 ∷ 21 ∷ 21 ∷ 23 ∷ 23 ∷ 23 ∷ 23 ∷ 23 ∷ 23 ∷ 23 ∷ [])

abbrev turns-3 : List ℕ
turns-3 = (23 ∷ 23 ∷ 23 ∷ 23 ∷ 23 ∷ 23 ∷ 23 ∷ 23 ∷ 20 ∷ 20 ∷ 20 ∷ 20 ∷ 20 ∷ 20 ∷ 20 ∷ 20 ∷ 20 ∷ 20 ∷ 22 ∷ 22 ∷ 22 ∷ 22 ∷ 22 ∷ 22 ∷
    22 ∷ 22 ∷ 22 ∷ 22 ∷ 21 ∷ 21 ∷ 21 ∷ 21 ∷ 21 ∷ 21 ∷ 21 ∷ 21 ∷ 21 ∷ 21 ∷ [])

abbrev turns-4 : List ℕ
turns-4 = (22 ∷ 22 ∷ 22 ∷ 22 ∷ 22 ∷ 22 ∷ 22 ∷ 22 ∷ 22 ∷ 22 ∷ 21 ∷ 21 ∷ 21 ∷ 21 ∷ 21 ∷ 21 ∷ 21 ∷ 21 ∷ 21 ∷ 21 ∷ 23 ∷ 23 ∷ 23 ∷ 23 ∷
    23 ∷ 23 ∷ 23 ∷ 23 ∷ 23 ∷ 23 ∷ 20 ∷ 20 ∷ 20 ∷ 20 ∷ 20 ∷ 20 ∷ 20 ∷ 20 ∷ 20 ∷ 20 ∷ [])

abbrev turns-5 : List ℕ
turns-5 = (20 ∷ 20 ∷ 20 ∷ 20 ∷ 20 ∷ 20 ∷ 20 ∷ 20 ∷ 20 ∷ 20 ∷ 23 ∷ 23 ∷ 23 ∷ 23 ∷ 23 ∷ 23 ∷ 23 ∷ 23 ∷ 23 ∷ 23 ∷ 22 ∷ 22 ∷ 22 ∷ 22 ∷
    22 ∷ 22 ∷ 22 ∷ 22 ∷ 22 ∷ 22 ∷ 21 ∷ 21 ∷ 21 ∷ 21 ∷ 21 ∷ 21 ∷ 21 ∷ 21 ∷ 21 ∷ 21 ∷ [])

abbrev turns-6 : List ℕ
turns-6 = (21 ∷ 21 ∷ 21 ∷ 22 ∷ 20 ∷ 21 ∷ 21 ∷ 21 ∷ 21 ∷ 23 ∷ 21 ∷ 21 ∷ 23 ∷ 21 ∷ 23 ∷ 22 ∷ 22 ∷ 23 ∷ 23 ∷ 23 ∷ 20 ∷ 20 ∷ 23 ∷ 20 ∷
    23 ∷ 23 ∷ 20 ∷ 23 ∷ 20 ∷ 22 ∷ 20 ∷ 22 ∷ 22 ∷ 20 ∷ 20 ∷ 20 ∷ 20 ∷ 22 ∷ 22 ∷ 22 ∷ 22 ∷ [])

round-0 : Goes Cube 33 (first_state 33 dead-33) turns-0 (state-33 known-1 1 20)
unfolding computes
round-0 = part 33 (first_state 33 dead-33) turns-0 (state-33 known-1 1 20) refl

round-1 : Goes Cube 33 (state-33 known-1 1 20) turns-1 (state-33 known-2 2 46)
unfolding computes
round-1 = part 33 (state-33 known-1 1 20) turns-1 (state-33 known-2 2 46) refl

round-2 : Goes Cube 33 (state-33 known-2 2 46) turns-2 (state-33 known-3 3 76)
unfolding computes
round-2 = part 33 (state-33 known-2 2 46) turns-2 (state-33 known-3 3 76) refl

round-3 : Goes Cube 33 (state-33 known-3 3 76) turns-3 (state-33 known-4 4 110)
unfolding computes
round-3 = part 33 (state-33 known-3 3 76) turns-3 (state-33 known-4 4 110) refl

round-4 : Goes Cube 33 (state-33 known-4 4 110) turns-4 (state-33 known-5 5 146)
unfolding computes
round-4 = part 33 (state-33 known-4 4 110) turns-4 (state-33 known-5 5 146) refl

round-5 : Goes Cube 33 (state-33 known-5 5 146) turns-5 (state-33 known-6 6 182)
unfolding computes
round-5 = part 33 (state-33 known-5 5 146) turns-5 (state-33 known-6 6 182) refl

last-round : Arrival 33 (state-33 known-6 6 182) turns-6 (unseen 33 21 32)
unfolding computes
last-round = arrival 33 (state-33 known-6 6 182) turns-6 (unseen 33 21 32) refl

begins-33 : begins 33 dead-33 21 32 ≡ true
unfolding computes
begins-33 = refl

abbrev turns-33 : List ℕ
turns-33 = (turns-0 ++ (turns-1 ++ (turns-2 ++ (turns-3 ++ (turns-4 ++ (turns-5)))))) ++ turns-6

slow-33 : Computed 33
slow-33 =
    slow-plant 33 dead-33 21 32 begins-33 turns-33 refl
    (behind 33 (first_state 33 dead-33) (state-33 known-6 6 182) (turns-0 ++ (turns-1 ++ (turns-2 ++ (turns-3 ++ (turns-4 ++ (turns-5)))))) turns-6
    (unseen 33 21 32)
    (goes-append round-0 (goes-append round-1 (goes-append round-2 (goes-append round-3 (goes-append round-4 (round-5)))))) last-round)

-- a size with as many levels as a computed one
from-computed : (b n : ℕ) → Computed b → is_size n ≡ true → b ≤ n → dimension b ≡ dimension n → WorstCaseAt Cube n
from-computed b n c size low levels = slow-worst-case Cube n (greater b n c.0 size low levels c.1)

-- with as many levels as one of these, from 3 boards on
pub cube-reached : (n : ℕ) → is_size n ≡ true → 3 ≤ n → WorstCaseAt Cube n
unfolding whole_list
cube-reached n size three = go (size-log n size)
  where
    go : (h : ℕ) × (dimension n ≡ suc h) × (2 ^ h < n) × (n ≤ 2 ^ suc h) → WorstCaseAt Cube n
    go (zero, d, low, high) = absurd (omega arith)
    go (suc zero, d, low, high) = from-computed 3 n slow-3 size (omega arith) (sym d)
    go (suc (suc zero), d, low, high) = from-computed 5 n slow-5 size (omega arith) (sym d)
    go (suc (suc (suc zero)), d, low, high) = from-computed 9 n slow-9 size (omega arith) (sym d)
    go (suc (suc (suc (suc zero))), d, low, high) = from-computed 17 n slow-17 size (omega arith) (sym d)
    go (suc (suc (suc (suc (suc zero)))), d, low, high) = from-computed 33 n slow-33 size (omega arith) (sym d)
    go (suc (suc (suc (suc (suc (suc h))))), d, low, high) = absurd (omega (arith, size-dimension n size))

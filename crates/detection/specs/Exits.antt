-- What a test with a reply leads to, as one claim about a taken entry: by who suspects whom before it, which outcome it has and what it leaves,
-- with rule Alone and the closing of a round.
-- Assumes nothing.
use Rattle.std.specs.Prelude.{Ok, ◌≡◌, ◌≢◌, true, List, ℕ, max, ◌<◌, if◌then◌else◌}
use Rattle.lists.specs.Search.{every}
use Rattle.table.specs.Table.{status, suspects, live, status_told, status_alone}
use Rattle.table.specs.Rules.{table_check}
use Rattle.table.specs.declared.wiring.Wiring.{Wiring}
use Rattle.plant.specs.Turn.{replies, self_or_suspected}
use Rattle.station.specs.Outcome.{outcome_exchanged, outcome_told, outcome_tested_told}
use Rattle.plant.specs.Entry.{Entry, State, is_test, entry_check, after, tested_of, outcome_of}

-- a taken entry whose test has a reply. At every entry that a run reaches, refusals 1 to 4 let its table through (`accepted-kept` of
-- plant's proofs/RulesKept.antt)
pub record RepliedTest (w : Wiring) (n : ℕ) (s : State) (e : Entry) : Type 0 where
  pub shape : table_check w n s.table ≡ Ok tt
  pub taken : entry_check n s e ≡ Ok tt
  pub makes : is_test w n s.table e ≡ true
  pub reply : replies n s.table e.kind (tested_of w n s.table e) ≡ true

-- no row changes
abbrev pub SameRows : ℕ → List ℕ → List ℕ → Type 0
SameRows n t t' = (k x : ℕ) → k < n → x < n → suspects n t' k x ≡ suspects n t k x

-- both rows become the union, byte by byte, and no other row changes
abbrev pub RowsJoined : ℕ → List ℕ → List ℕ → ℕ → ℕ → Type 0
RowsJoined n t t' i j =
    ((x : ℕ) → x < n → suspects n t' i x ≡ max (suspects n t i x) (suspects n t j x))
    × ((x : ℕ) → x < n → suspects n t' j x ≡ max (suspects n t j x) (suspects n t i x))
    × ((k x : ℕ) → k < n → x < n → i ≢ k → j ≢ k → suspects n t' k x ≡ suspects n t k x)

-- neither of two stations suspects the other
abbrev pub NeitherSuspects : ℕ → List ℕ → ℕ → ℕ → Type 0
NeitherSuspects n t i j = (suspects n t i j ≡ 0) × (suspects n t j i ≡ 0)

-- i has tested j, which replied: t and t' are the tables before and after, and o is the outcome
pub record ReplyEffect (n : ℕ) (t t' : List ℕ) (i j o : ℕ) : Type 0 where
  -- rule Tester told: if j suspects i, i leaves, j stays live, and no row changes
  pub tester : suspects n t j i ≡ 1 → (o ≡ outcome_told) × (status n t' i ≡ status_told) × (live n t' j ≡ true) × SameRows n t t'
  -- rule Tested told: otherwise, if i suspects j, j leaves, and no row changes. i leaves too if it is alone
  pub tested : suspects n t j i ≡ 0 → suspects n t i j ≡ 1
      → (o ≡ outcome_tested_told) × (status n t' j ≡ status_told) × SameRows n t t'
      × (status n t' i ≡ (if every (self_or_suspected n t i) n then status_alone else 0))
  -- rule Exchange: where neither suspects the other, both rows become the union, and both stay live
  pub neither : NeitherSuspects n t i j → (o ≡ outcome_exchanged) × (live n t' i ≡ true) × (live n t' j ≡ true) × RowsJoined n t t' i j
  -- so not both are live with one suspecting the other
  pub parted : live n t' i ≡ true → live n t' j ≡ true → NeitherSuspects n t' i j

-- Rule Reply ends: the claim
abbrev pub ReplyEnds : Type 0
ReplyEnds =
    (w : Wiring) (n : ℕ) (s : State) (e : Entry) → RepliedTest w n s e
    → ReplyEffect n s.table (after w n s e).table e.station (tested_of w n s.table e) (outcome_of w n s.table e)

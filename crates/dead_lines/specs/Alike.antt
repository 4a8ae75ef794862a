-- That the lines of stations that are not live matter to no run, grant or drive. s and r are two tables, each with its tally, to which the same is
-- done; s' and r' are what is left of them.
-- Assumes nothing.
use Rattle.lists.specs.declared.refusal.Refusal.{Refusal}
use Rattle.std.specs.Prelude.{Ok, Err, Result, IfOk, Option, ℕ, ◌<◌, ◌≡◌, true, List, [], ◌∷◌, All}
use Rattle.table.specs.Table.{stride, cell, status, live}
use Rattle.table.specs.Rules.{table_check}
use Rattle.table.specs.declared.wiring.Wiring.{Wiring}
use Rattle.plant.specs.Entry.{State}
use Rattle.plant.specs.Run.{RunResult, run}
use Rattle.granter.specs.Grant.{grant_answer}
use Rattle.granter.specs.Drive.{DriveResult, drive}
use Rattle.detection.specs.Runs.{Call, run_by, after_run, after_runs}
use Rattle.detection.specs.Driven.{RunOrDrive, a_run, a_drive, drive_by, after_one, after_mixed}

-- line i is the same in both tables, byte by byte
abbrev pub SameLine : ℕ → List ℕ → List ℕ → ℕ → Type 0
SameLine n t u i = (c : ℕ) → c < stride n → cell n t i c ≡ cell n u i c

-- Rule Dead lines, its conditions: refusals 1 to 4 let both tables through on the wiring w, and statuses, live lines and tally are equal
pub record Alike (w : Wiring) (n : ℕ) (s r : State) : Type 0 where
  pub valid : table_check w n s.table ≡ Ok tt
  pub other_valid : table_check w n r.table ≡ Ok tt
  pub statuses : (i : ℕ) → i < n → status n s.table i ≡ status n r.table i
  pub live_lines : (i : ℕ) → i < n → live n s.table i ≡ true → SameLine n s.table r.table i
  pub rounds : s.rounds ≡ r.rounds
  pub tests : s.tests ≡ r.tests

-- Rule Dead lines: so it is afterwards. Each line that was the same in both is so still: of a station that left meanwhile the whole line
pub record StayAlike (w : Wiring) (n : ℕ) (s r s' r' : State) : Type 0 where
  pub alike : Alike w n s' r'
  pub lines : (i : ℕ) → i < n → SameLine n s.table r.table i → SameLine n s'.table r'.table i

-- what a run or a drive answers and writes, but for the table
pub data Answer : Type 0 where
  of_run : (stopped : Option Refusal) (taken rounds tests : ℕ) → (sheet : List ℕ) → Answer
  of_drive : (stopped : Option Refusal) (rounds tests last grants : ℕ) → Answer

abbrev pub run_answer : RunResult → Answer
run_answer o = of_run o.stopped o.taken o.state.rounds o.state.tests o.sheet

abbrev pub drive_answer : DriveResult → Answer
drive_answer o = of_drive o.stopped o.state.rounds o.state.tests o.last o.grants

-- two runs, or two drives, answer the same, and their tables stay alike
pub record SameRun (w : Wiring) (n : ℕ) (s r : State) (a b : RunResult) : Type 0 where
  pub answer : run_answer a ≡ run_answer b
  pub left : StayAlike w n s r a.state b.state

pub record SameDrive (w : Wiring) (n : ℕ) (s r : State) (a b : DriveResult) : Type 0 where
  pub answer : drive_answer a ≡ drive_answer b
  pub left : StayAlike w n s r a.state b.state

-- a run, a grant or a drive is on the wiring w, or refused by 24
abbrev pub IsOn : Wiring → Result Wiring Refusal → Type 0
IsOn w v = IfOk v (λ given. given ≡ w)

-- Rule Dead lines, of such a run, of any size, schedule and run sheet. One of another size than the tables' is refused
abbrev pub RunOfAlike : Type 0
RunOfAlike =
    (w : Wiring) (n : ℕ) (s r : State) → Alike w n s r → (v : Result Wiring Refusal) (m : ℕ) (schedule sheet : List ℕ) → IsOn w v
    → SameRun w n s r (run_by v m s schedule sheet) (run_by v m r schedule sheet)

-- a grant whose wiring may be refused by 24
abbrev pub grant_by : Result Wiring Refusal → ℕ → List ℕ → ℕ → Result ℕ Refusal
grant_by (Ok w) m t last = grant_answer w m t last
grant_by (Err r) m t last = Err r

-- Rule Dead lines, of a grant: the same station, or the same refusal
abbrev pub GrantOfAlike : Type 0
GrantOfAlike =
    (w : Wiring) (n : ℕ) (s r : State) → Alike w n s r → (v : Result Wiring Refusal) (m last : ℕ) → IsOn w v
    → grant_by v m s.table last ≡ grant_by v m r.table last

-- Rule Dead lines, of a drive
abbrev pub DriveOfAlike : Type 0
DriveOfAlike =
    (w : Wiring) (n : ℕ) (s r : State) → Alike w n s r → (v : Result Wiring Refusal) (m last : ℕ) → IsOn w v
    → SameDrive w n s r (drive_by v m s last) (drive_by v m r last)

-- the answers of a list of runs, one behind the other, and of one that mixes runs and drives
unfoldable pub answers_of_runs : State → List Call → List Answer
answers_of_runs s [] = []
answers_of_runs s (c ∷ cs) = run_answer (run_by c.wiring c.size s c.schedule c.sheet) ∷ answers_of_runs (after_run s c) cs

abbrev pub answer_of : State → RunOrDrive → Answer
answer_of s (a_run c) = run_answer (run_by c.wiring c.size s c.schedule c.sheet)
answer_of s (a_drive v n last) = drive_answer (drive_by v n s last)

unfoldable pub answers_of : State → List RunOrDrive → List Answer
answers_of s [] = []
answers_of s (x ∷ xs) = answer_of s x ∷ answers_of (after_one s x) xs

-- the wiring of one of a mixed list, where 24 does not refuse it
abbrev pub wiring_given : RunOrDrive → Result Wiring Refusal
wiring_given (a_run c) = c.wiring
wiring_given (a_drive v n last) = v

-- the list does not mix wirings
abbrev pub RunsOn : Wiring → List Call → Type 0
RunsOn w calls = All (λ c. IsOn w c.wiring) calls

abbrev pub MixedOn : Wiring → List RunOrDrive → Type 0
MixedOn w xs = All (λ x. IsOn w (wiring_given x)) xs

-- Rule Dead lines, of a list of runs
abbrev pub RunsOfAlike : Type 0
RunsOfAlike =
    (w : Wiring) (n : ℕ) (s r : State) → Alike w n s r → (calls : List Call) → RunsOn w calls
    → (answers_of_runs s calls ≡ answers_of_runs r calls) × StayAlike w n s r (after_runs s calls) (after_runs r calls)

-- Rule Dead lines, of a list that mixes runs and drives
abbrev pub MixedOfAlike : Type 0
MixedOfAlike =
    (w : Wiring) (n : ℕ) (s r : State) → Alike w n s r → (xs : List RunOrDrive) → MixedOn w xs
    → (answers_of s xs ≡ answers_of r xs) × StayAlike w n s r (after_mixed s xs) (after_mixed r xs)

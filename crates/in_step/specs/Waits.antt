-- How many rounds it takes until a board's own line shows who is not live.
-- Assumes nothing.
use Rattle.std.specs.Prelude.{Ok, ◌≡◌, ℕ, ◌*◌, ◌≤◌, ◌<◌, true, List, [], ◌∷◌, length, replicate}
use Rattle.lists.specs.Sums.{bit}
use Rattle.table.specs.Table.{live}
use Rattle.table.specs.Line.{is_live}
use Rattle.table.specs.Rules.{not_live, table_check}
use Rattle.table.specs.declared.wiring.Wiring.{Wiring}
use Rattle.plant.specs.Entry.{Entry, State}
use Rattle.board.specs.Board.{suspicion_of}
use Rattle.detection.specs.Runs.{Call, call_of}
use Rattle.detection.specs.Claim.{rounds_of, DetectionPremises, worst_rounds}
use Rattle.in_step.specs.System.{System, start}
use Rattle.in_step.specs.Happenings.{Happening, after_happenings}
use Rattle.in_step.specs.Claims.{schedule_of}
use Rattle.in_step.specs.Causes.{entries_at}

-- entries as a list of one run, which takes them
abbrev pub run_of : Wiring → ℕ → List Entry → List Call
run_of w n es = call_of (Ok w) n (schedule_of es) (replicate (4 * length es) 0) ∷ []

-- board k knows who was not live at first: it is live, and its own line suspects just those
pub record Knows (n : ℕ) (s : State) (y : System) (k : ℕ) : Type 0 where
  pub is_live : is_live (y.boards k).line ≡ true
  pub suspects : (j : ℕ) → j < n → suspicion_of (y.boards k).line j ≡ bit (not_live n s.table j)

-- Rule Wait in step: whatever happens, a board that was live at first knows who was not once enough rounds have closed in the entries in force at it:
-- as many as in the worst case of a run, and where these entries and the first table meet the detection conditions
abbrev pub WaitInStep : Type 0
WaitInStep =
    (w : Wiring) (n : ℕ) (s : State) (hs : List Happening) → table_check w n s.table ≡ Ok tt
    → (let y = after_happenings w n s (start n s) hs in
    (k : ℕ) → k < n → live n s.table k ≡ true
    → (let calls = run_of w n (entries_at y k) in
    DetectionPremises w n s calls → worst_rounds w n ≤ length (rounds_of s calls).closed → Knows n s y k))

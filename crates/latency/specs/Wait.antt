-- How long a dead board may go unseen, by the wiring, the size and the table, for all inputs.
-- Assumes nothing.
use Rattle.std.specs.Prelude.{ℕ, List, Result, Ok}
use Rattle.lists.specs.declared.refusal.Refusal.{Refusal}
use Rattle.lists.specs.Refusal.{◌and◌}
use Rattle.table.specs.Rules.{table_check}
use Rattle.table.specs.declared.wiring.Wiring.{Wiring}
use Rattle.detection.specs.Claim.{worst_rounds}
use Rattle.latency.specs.Bound.{turns_per_round, turns_until_known}
use Rattle.latency.specs.Crash.{turns_from_crash}
use Rattle.latency.specs.declared.wait.Wait.{Wait}

-- Rule Bounds of the wait: the rounds of the worst case, the turns of a round, those until all is known from the start of a round, and those from
-- a crash
abbrev pub wait_on : Wiring → ℕ → List ℕ → Wait
wait_on w n t =
    record {
      rounds = worst_rounds w n;
      turns_per_round = turns_per_round w n t;
      turns_until_known = turns_until_known w n t;
      turns_from_crash = turns_from_crash w n t;
    }

-- Rule Wait call: these four on the wiring w; refusals 1 to 4
unfoldable pub wait_answer : Wiring → ℕ → List ℕ → Result Wait Refusal
wait_answer w n t = table_check w n t and Ok (wait_on w n t)

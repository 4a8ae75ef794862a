-- The grant: which station is granted the next turn, for all inputs.
-- Assumes nothing.
use Rattle.std.specs.Prelude.{ℕ, ◌+◌, ◌-◌, Bool, not, ◌&&◌, List, Option, Some, None, Result, Ok, if◌then◌else◌, ◌==◌, nat_lt, nat_le}
use Rattle.std.specs.Result.{result_unwrap_or}
use Rattle.lists.specs.Search.{least}
use Rattle.table.specs.Table.{finished, live}
use Rattle.table.specs.Rules.{some_live, table_check}
use Rattle.table.specs.declared.Station.{Station}
use Rattle.lists.specs.declared.refusal.Refusal.{Refusal}
use Rattle.lists.specs.declared.refusal.Refusal.TheVariants.{LastGranted, NoneLive}
use Rattle.lists.specs.Refusal.{Check, ensure, ◌and◌}
use Rattle.table.specs.declared.wiring.Wiring.{Wiring}

-- Rule Last number: 255, where none was granted yet
abbrev pub no_grant : ℕ
no_grant = 255

-- the number of the last granted station, if there was one
abbrev pub last_number : Option Station → ℕ
last_number None = no_grant
last_number (Some i) = i.0

-- Rule Waits: station i is live and has not finished its pass. (`finished_if_live` of table says the opposite)
unfoldable pub waits : ℕ → List ℕ → ℕ → Bool
waits n t i = live n t i && not (finished n t i == 1)

-- the first station that waits, from station b on; n, or b if that is greater, where there is none
unfoldable pub first_from : ℕ → List ℕ → ℕ → ℕ
first_from n t b = least (waits n t) (n - b) b

-- the station from which the search begins: the one behind the last granted one, or 0 if the last number is 255
unfoldable pub following : ℕ → ℕ
following last = if last == no_grant then 0 else last + 1

-- Rule Grant: the first station that waits, going round from behind the last granted one. Behind station n − 1 comes station 0, so that the last
-- granted station itself comes last
unfoldable pub granted : ℕ → List ℕ → ℕ → ℕ
granted n t last =
    if nat_lt (first_from n t (following last)) n then first_from n t (following last) else first_from n t 0

-- refusal 16: the last number is n or more, and not 255
abbrev pub last_check : ℕ → ℕ → Check
last_check n last = ensure (not (nat_le n last && not (last == no_grant))) LastGranted

-- refusal 17: no station is live
abbrev pub live_check : ℕ → List ℕ → Check
live_check n t = ensure (some_live n t) NoneLive

-- refusals of the grant, and of a drive at its start, on the wiring w: 1 to 4, 16, 17
unfoldable pub grant_check : Wiring → ℕ → List ℕ → ℕ → Check
grant_check w n t last = table_check w n t and last_check n last and live_check n t

-- Rule Grant call: the station that the grant answers
unfoldable pub grant_answer : Wiring → ℕ → List ℕ → ℕ → Result ℕ Refusal
grant_answer w n t last = grant_check w n t last and Ok (granted n t last)

-- that station, 0 where the grant is refused
abbrev pub grant_station : Wiring → ℕ → List ℕ → ℕ → ℕ
grant_station w n t last = result_unwrap_or (grant_answer w n t last) 0

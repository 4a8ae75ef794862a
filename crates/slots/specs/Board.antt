-- The slot of a station of a table by its own row, for all inputs: its tests a round, and the most with one more dead station.
-- Assumes nothing.
use Rattle.std.specs.Prelude.{ℕ, List, Result, Ok}
use Rattle.table.specs.Table.{row, live}
use Rattle.table.specs.Rules.{table_check, station_check}
use Rattle.lists.specs.declared.refusal.Refusal.{Refusal}
use Rattle.lists.specs.declared.refusal.Refusal.TheVariants.{NotLive}
use Rattle.lists.specs.Refusal.{Check, ensure, ◌and◌}
use Rattle.table.specs.declared.wiring.Wiring.TheVariants.{Cube}
use Rattle.slots.specs.Slots.{tests_due, most_tests}
use Rattle.slots.specs.declared.board.Slot.{Slot}

-- Slot: refusals 1 to 4, 9, 10. 10: the station is not live
unfoldable pub slot_check : ℕ → List ℕ → ℕ → Check
slot_check n t i = table_check Cube n t and station_check n i and ensure (live n t i) NotLive

-- Rules Tests a round and Slot length: both numbers of station i of n by its row
abbrev pub slot_by_row : ℕ → List ℕ → ℕ → Slot
slot_by_row n r i = record { tests = tests_due n r i; most = most_tests n r i }

-- Slot: both numbers, by the station's row in the table
unfoldable pub slot_answer : ℕ → List ℕ → ℕ → Result Slot Refusal
slot_answer n t i = slot_check n t i and Ok (slot_by_row n (row n t i) i)

-- Reading on behind the lines so far gives what reading all gives, and the schedule past the entries read is as it was.
use Rattle.std.proofs.Common.{◌≡◌, ◌*◌, ◌≤◌, length, take, drop}
use Rattle.input.specs.Input.{lines, room_for, read_entries, read_up_to}
use Rattle.input.proofs.reading.parse.Given as goal

abbrev pub invariant-loop-line : goal.invariant-loop-line
invariant-loop-line l = record {
  few : l.entries ≤ l.room;
  room : l.room ≡ room_for (length l.initial.schedule);
  counted : l.entries ≡ length l.yielded;
  kept : drop (2 * l.entries) l.schedule ≡ drop (2 * l.entries) l.initial.schedule;
  read : read_entries (room_for (length l.initial.schedule)) l.size l.entries (take (2 * l.entries) l.schedule)
      (drop l.entries (drop 1 (lines l.input)))
      ≡ read_up_to (room_for (length l.initial.schedule)) l.input;
}

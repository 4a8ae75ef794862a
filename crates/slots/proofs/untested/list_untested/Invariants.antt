-- The distances below m that are not tested are listed, with who stands ahead.
use Rattle.std.proofs.Common.{◌≡◌, map}
use Rattle.lists.specs.Search.{select}
use Rattle.station.specs.Groups.{station_at}
use Rattle.station.specs.Tests.{answer}
use Rattle.station.specs.Calls.{answer_byte}
use Rattle.slots.specs.Slots.{is_untested}
use Rattle.slots.proofs.untested.list_untested.Given as goal

abbrev pub invariant-loop-m : goal.invariant-loop-m
invariant-loop-m l = record {
  boards : map (λ u. u.board.0) l.list.items ≡ map (station_at l.fn.i.0) (select (is_untested l.row l.fn.i.0) l.m);
  ahead : map (λ u. u.ahead.0) l.list.items ≡ map (λ k. answer_byte (answer l.row l.fn.i.0 k)) (select (is_untested l.row l.fn.i.0) l.m);
}

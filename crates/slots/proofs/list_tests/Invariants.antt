-- The stations at the due distances below m are listed.
use Rattle.std.proofs.Common.{◌≡◌, map}
use Rattle.lists.specs.Search.{select}
use Rattle.station.specs.Groups.{station_at}
use Rattle.station.specs.Tests.{due}
use Rattle.slots.proofs.list_tests.Given as goal

abbrev pub invariant-loop-m : goal.invariant-loop-m
invariant-loop-m l = map (λ x. x.0) l.list.items ≡ map (station_at l.fn.i.0) (select (due l.row l.fn.i.0) l.m)

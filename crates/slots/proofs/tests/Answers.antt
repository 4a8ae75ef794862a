-- The due distances are counted.
use Rattle.std.proofs.Common.{◌≡◌, ◌∙◌, ap, length, arith, rules, tests}
use Rattle.std.specs.List.{filter, range_with_len}
use Rattle.std.proofs.lemmas.Iterator.{YieldsList-from_range}
use Rattle.std.proofs.lemmas.Iterator.Consumers.{YieldsList-at, YieldsList-from_filter, count_from_yields_List}
use Rattle.lists.specs.Search.{select}
use Rattle.lists.proofs.Enumerated.{filter-few}
use Rattle.station.specs.Tests.{due, due_distances}
use Rattle.station.proofs.DueLaws.{due-zero}
use Rattle.slots.specs.Slots.{tests_due}
use Rattle.slots.proofs.tests.Goals as goal
use Rattle.slots.proofs.tests.Goals.{After-count}

counted : (c : After-count) → c.count.result ≡ length (filter (due c.args.row.now c.args.i.0) (range_with_len 0 c.distances-end.result))
counted c =
    let filtered = c.filter.ensures in
    let all = YieldsList-from_range 0 c.distances-end.result c.distances-end.result (search rules) (omega arith) in
    let walked = YieldsList-at filtered.source all in
    count_from_yields_List _ _ c.count.ensures.ran
    (YieldsList-from_filter _ (due c.args.row.now c.args.i.0) walked filtered.closure (λ x r q k. search (rules, tests)))

pub overflow_cast-result : goal.overflow_cast-result
overflow_cast-result c =
    let few = filter-few (due c.args.row.now c.args.i.0) c.distances-end.result (due-zero _ _) in
    omega (arith, counted c, few, c.distances-end.ensures.upper_bound)

pub returns : goal.returns
unfolding tests_due due_distances
returns c = counted c ∙ ap (λ end. length (select (due c.args.row.now c.args.i.0) end)) c.distances-end.ensures.number_of_distances

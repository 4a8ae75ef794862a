-- The members of the group are gone through in order, and fill the list.
use Rattle.std.proofs.Common.{ℕ, refl, ◌∙◌, ap, map, length, arith, rules, tests}
use Rattle.std.specs.List.{filter, range_with_len, enumerate_from}
use Rattle.std.proofs.lemmas.Iterator.{YieldsList, YieldsList-from_range, YieldsList-from_map}
use Rattle.std.proofs.lemmas.Iterator.Consumers.{YieldsList-at, YieldsList-from_filter, YieldsList-from_enumerate, YieldsList-turn, YieldsList-end}
use Rattle.lists.proofs.Writing.{sets-all}
use Rattle.lists.proofs.Enumerated.{enumerated, enumerated-all, write-next}
use Rattle.station.specs.Groups.{is_present}
use Rattle.station.proofs.GroupWalk.{placed, group-walk}
use Rattle.station.proofs.groups.write_group.Given as given
use Rattle.station.proofs.groups.write_group.Goals as goal
use Rattle.station.proofs.groups.write_group.Goals.{After-into_iter-k-iterator}

-- the loop goes through the members, numbered from 0
members : (c : After-into_iter-k-iterator)
    → YieldsList given.iterator-loop-k.next_gives (λ (p : ℕ × ℕ). (p.0, p.1)) c.into_iter-k-iterator.result
    (enumerate_from 0 (filter (is_present c.args.n) (map (placed c.args.i.0 c.width_of-w.result) (range_with_len 0 c.width_of-w.result))))
members c =
    YieldsList-at c.into_iter-k-iterator.ensures.into_iter_gives
    (YieldsList-from_enumerate (YieldsList-at c.enumerate-k-items.ensures.source
    (YieldsList-from_filter _ (is_present c.args.n) (YieldsList-at c.filter-members.ensures.source
    (YieldsList-from_map _ (placed c.args.i.0 c.width_of-w.result) (YieldsList-at c.map.ensures.source
    (YieldsList-from_range 0 c.width_of-w.result c.width_of-w.result refl (omega arith)))
    c.map.ensures.closure (λ x r q k. search rules)))
    c.filter-members.ensures.closure (λ x r q k. search (rules, tests))))
    c.enumerate-k-items.ensures.count)

pub loop-k-init : goal.loop-k-init
loop-k-init c = refl

pub bounds-list-k : goal.bounds-list-k
bounds-list-k c =
    let m = members (goal.at.bounds-list-k c).After-into_iter-k-iterator in
    let p = enumerated _ _ _ _ (YieldsList-turn m c.loop-k.yielded _ c.loop-k.yielded_by _ _ _ c.in-Some.is c.next.ensures.steps) in
    omega (
      arith,
      p.0,
      p.1,
      c.requires.list_len,
      c.loop-k.auto.list,
      ap length (group-walk c.args.n c.args.i.0 c.args.s.0 c.width_of-w.result c.width_of-w.ensures.width_of_level),
    )

pub loop-k-preserved : goal.loop-k-preserved
loop-k-preserved c =
    let m = members (goal.at.loop-k-preserved c).After-into_iter-k-iterator in
    let p = enumerated _ _ _ _ (YieldsList-turn m c.loop-k.yielded _ c.loop-k.yielded_by _ _ _ c.in-Some.is c.next.ensures.steps) in
    write-next (λ p. p.1) _ _ c.loop-k.yielded _ _ p.0 c.loop-k.invariant

pub returns : goal.returns
returns c =
    let m = members (goal.at.returns c).After-into_iter-k-iterator in
    let e = YieldsList-end m c.loop-k.yielded _ c.loop-k.yielded_by _ _ c.in-None.is c.next.ensures.steps in
    let all = enumerated-all 0 _ c.loop-k.yielded e.0 ∙ group-walk _ _ _ _ c.width_of-w.ensures.width_of_level in
    rw all at c.loop-k.invariant ∙ sets-all _ _ c.requires.list_len

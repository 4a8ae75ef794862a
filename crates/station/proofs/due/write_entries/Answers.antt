-- The distances of the other stations are gone through in order; their entries fill the list.
use Rattle.std.proofs.Common.{◌≡◌, ℕ, Bool, true, false, Some, None, map, length, length-set, ◌≤◌, ◌<◌, ◌-◌, ◌*◌, ◌+◌}
use Rattle.std.proofs.Common.{refl, sym, ◌∙◌, ap, arith, rules, tests}
use Rattle.std.specs.List.{filter, range_with_len, enumerate_from}
use Rattle.std.specs.Int.{from_bool}
use Rattle.std.proofs.lemmas.Iterator.{YieldsList, YieldsList-from_range}
use Rattle.std.proofs.lemmas.Iterator.Consumers.{YieldsList-at, YieldsList-from_filter, YieldsList-from_enumerate, YieldsList-turn, YieldsList-end}
use Rattle.lists.proofs.Enumerated.{enumerated, enumerated-all}
use Rattle.table.specs.Sizes.{distances}
use Rattle.table.proofs.SizeLaws.{size-distances, size-bounds}
use Rattle.station.specs.Tests.{stands, says_due, due}
use Rattle.station.specs.Calls.{other_distances, assignment_entries}
use Rattle.station.proofs.DueLaws.{due-is}
use Rattle.station.proofs.EntryLaws.{others-walk, others-due, entry-fits, entry-written, entry-counted, entry-few, entry_done}
use Rattle.station.proofs.due.write_entries.Given as given
use Rattle.station.proofs.due.write_entries.Goals as goal
use Rattle.station.proofs.due.write_entries.Goals.{After-next}

pub overflow_cast-end : goal.overflow_cast-end
overflow_cast-end c = omega (arith, size-distances _ c.args.table.now.sized, c.distances-end.ensures.number_of_distances)

pub loop-k-init : goal.loop-k-init
unfolding assignment_entries
loop-k-init c = record { counted = refl; written = refl }

bool-few : (b : Bool) → from_bool b ≤ 1
bool-few true = omega arith
bool-few false = omega arith

-- the loop goes through the distances of the others, numbered from 0
others : (c : After-next)
    → YieldsList given.iterator-loop-k.next_gives (λ (p : ℕ × ℕ). (p.0, p.1)) c.into_iter-k-iterator.result
    (enumerate_from 0 (filter (stands c.row-row.result.now c.args.i.0) (range_with_len 1 (distances c.args.table.now.n - 1))))
others c =
    let len : distances c.args.table.now.n - 1 ≡ c.distances-end.result - 1 = omega (arith, c.distances-end.ensures.number_of_distances) in
    YieldsList-at c.into_iter-k-iterator.ensures.into_iter_gives
    (YieldsList-from_enumerate (YieldsList-at c.enumerate-k-items.ensures.source
    (YieldsList-from_filter _ (stands c.row-row.result.now c.args.i.0) (YieldsList-at c.filter-others.ensures.source
    (YieldsList-from_range 1 c.distances-end.result (distances c.args.table.now.n - 1) (search rules) (omega (arith, len))))
    c.filter-others.ensures.closure (λ x r q k. search (rules, tests))))
    c.enumerate-k-items.ensures.count)

-- the place of an entry, and that it is in the list
turn : (c : After-next) (k m : ℕ) → c.next.result ≡ Some (k, m) → (k ≡ length c.loop-k.yielded) × (2 * k + 1 < length c.args.list.now)
turn c k m is =
    let p = enumerated _ _ _ _ (YieldsList-turn (others c) c.loop-k.yielded _ c.loop-k.yielded_by _ _ _ is c.next.ensures.steps) in
    let q = c.requires in (
      p.0,
      entry-fits _ _ _ c.args.table.now.sized c.row-row.ensures.row_len q.station
          c.args.list.now c.args.list.now c.loop-k.yielded _ m q.list_len p.0 p.1,
    )

pub overflow_mul-list : goal.overflow_mul-list
overflow_mul-list c =
    let t = turn (goal.at.overflow_mul-list c).After-next _ _ c.in-Some.is in
    omega (arith, t.1, c.requires.list_len, size-bounds _ c.args.table.now.sized)

pub bounds-list-k : goal.bounds-list-k
bounds-list-k c = omega (arith, (turn (goal.at.bounds-list-k c).After-next _ _ c.in-Some.is).1, c.loop-k.auto.list)

pub overflow_mul-list-in-loop-k : goal.overflow_mul-list-in-loop-k
overflow_mul-list-in-loop-k c =
    let t = turn (goal.at.overflow_mul-list-in-loop-k c).After-next _ _ c.in-Some.is in
    omega (arith, t.1, c.requires.list_len, size-bounds _ c.args.table.now.sized)

pub overflow_add-list : goal.overflow_add-list
overflow_add-list c =
    let t = turn (goal.at.overflow_add-list c).After-next _ _ c.in-Some.is in
    omega (arith, t.1, c.requires.list_len, size-bounds _ c.args.table.now.sized)

pub bounds-list-k-in-loop-k : goal.bounds-list-k-in-loop-k
bounds-list-k-in-loop-k c =
    let t = turn (goal.at.bounds-list-k-in-loop-k c).After-next _ _ c.in-Some.is in
    omega (arith, t.1, c.loop-k.auto.list, length-set c.loop-k.list (2 * c.in-Some.k) c.in-Some.m)

pub overflow_add-due : goal.overflow_add-due
overflow_add-due c =
    let t = turn (goal.at.overflow_add-due c).After-next _ _ c.in-Some.is in
    let few = entry-few _ c.loop-k.yielded _ c.loop-k.invariant.counted in
    let small = size-bounds _ c.args.table.now.sized in
    omega (arith, t.0, t.1, c.requires.list_len, small, few, bool-few c.is_due.result, c.from-due.ensures)

pub loop-k-preserved : goal.loop-k-preserved
loop-k-preserved c =
    let i = c.loop-k.invariant in
    let t = turn (goal.at.loop-k-preserved c).After-next _ _ c.in-Some.is in
    let q = c.requires in
    let is = c.is_due.ensures ∙ ap says_due c.due_or_ahead-answer.ensures ∙ sym (due-is _ _ _) in
    record {
      counted = rw c.from-due.ensures
          (entry-counted (due c.row-row.result.now c.args.i.0) c.loop-k.yielded c.in-Some.k c.in-Some.m _ c.is_due.result is i.counted);
      written = rw (c.byte.ensures, c.due_or_ahead-answer.ensures)
          (entry-written _ _ _ c.args.table.now.sized c.row-row.ensures.row_len q.station _ _ c.loop-k.yielded _ _ q.list_len t.0 i.written);
    }

-- in the end all distances of the others were gone through
all : (c : After-next) → c.next.result ≡ None → map (λ (p : ℕ × ℕ). p.1) c.loop-k.yielded ≡ other_distances c.args.table.now.n c.args.i.0
all c is =
    let e = YieldsList-end (others c) c.loop-k.yielded _ c.loop-k.yielded_by _ _ is c.next.ensures.steps in
    enumerated-all 0 _ c.loop-k.yielded e.0 ∙ others-walk _ _ _ c.args.table.now.sized c.row-row.ensures.row_len c.requires.station

pub returns-clause-due_counted : goal.returns-clause-due_counted
returns-clause-due_counted c =
    let q = c.requires in
    let through = all (goal.at.returns-clause-due_counted c).After-next c.in-None.is in
    rw (← c.row-row.ensures.row_of_line)
    (c.loop-k.invariant.counted ∙ ap length (ap (filter (due c.row-row.result.now c.args.i.0)) through
    ∙ others-due _ _ _ c.args.table.now.sized c.row-row.ensures.row_len q.station))

pub returns-clause-list_after : goal.returns-clause-list_after
returns-clause-list_after c =
    let q = c.requires in
    let through = all (goal.at.returns-clause-list_after c).After-next c.in-None.is in
    rw (← c.row-row.ensures.row_of_line)
    (rw through at c.loop-k.invariant.written ∙ entry_done _ _ _ c.args.table.now.sized q.station _ q.list_len)

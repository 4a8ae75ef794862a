-- The lines are gone through in order: where reading stops, the entries read are the front of the schedule.
use Rattle.std.proofs.Common.{◌≡◌, ℕ, List, Bor, [], ◌∷◌, ◌++◌, ◌<◌, ◌*◌, ◌+◌, length, get_or, take, drop, if◌then◌else◌, nat_lt, option_map}
use Rattle.std.proofs.Common.{refl, sym, ap, ◌∙◌, add-one, drop-cons, drop_of_length-le, length-append, rules, tests, arith}
use Rattle.std.specs.Prelude.{Option, None, Some, unwrap_or}
use Rattle.std.proofs.lemmas.Iterator.{YieldsList}
use Rattle.std.proofs.lemmas.Iterator.Consumers.{YieldsList-at, YieldsList-turn, YieldsList-end}
use Rattle.std.proofs.lemmas.Iterator.Splits.{YieldsList-from_slice_split}
use Rattle.input.specs.Input.{is_line_feed, lines, pair_of, reading_of, room_for, read_entries, read_lines, read_up_to, entry_in_line, digits_value}
use Rattle.input.proofs.FaultLaws.{read_nothing, fault_nothing, fault-first, fault-further}
use Rattle.input.proofs.ReadLaws.{answer_stop, sets-part, rest-kept, taken-has}
use Rattle.input.proofs.PartLaws.{parts, parts-some, parts-unsized, parts-sized, read-stop, read-next}
use Rattle.input.proofs.reading.parse.Goals as goal
use Rattle.input.proofs.reading.parse.Goals.{After-unwrap_or-first, In-Some-line, In-None}

-- the first item, and the road behind it
started : {S : Type 0} {steps : S → Option (Bor (List ℕ)) → S → Type 0} (ps : List (List ℕ)) (s t : S)
    (o : Option (Bor (List ℕ))) (f d : Bor (List ℕ)) → 0 < length ps → steps s o t → f ≡ unwrap_or o d → YieldsList steps (λ x. x.now) s ps
    → (ps ≡ f.now ∷ drop 1 ps) × YieldsList steps (λ x. x.now) t (drop 1 ps)
started [] s t o f d h k e a = absurd (omega arith)
started (y ∷ ys) s t None f d h k e a = absurd (a.runs.0 t k)
started (y ∷ ys) s t (Some x) f d h k e a = let m = a.runs.1 x t k in (rw e (ap (λ z. z ∷ ys) (sym m.0)), record { runs = m.1 })

-- the lines of an input that has some, and the road through those behind the first
begun : (c : After-unwrap_or-first) → (let ls = lines c.args.input.now in (ls ≡ c.unwrap_or-first.result.now ∷ drop 1 ls))
begun c =
    let text = c.without_last_feed-text.result.now in
    let split = c.split-lines.ensures in
    let same = c.without_last_feed-text.ensures in
    rw same at (started (parts text) _ _ c.next.result c.unwrap_or-first.result _ (parts-some text) c.next.ensures.steps c.unwrap_or-first.ensures
    (YieldsList-from_slice_split _ is_line_feed _ split.rest split.done split.closure (λ x b q k. search (rules, tests)))).0

pub returns-then-is_empty-clause-answer : goal.returns-then-is_empty-clause-answer
returns-then-is_empty-clause-answer c =
    let none : length c.args.input.now ≡ 0 = search rules in
    rw (read_nothing c.args.input.now (room_for (length c.args.schedule.now)) none, fault_nothing c.args.input.now none)

pub returns-then-is_empty-clause-schedule_after : goal.returns-then-is_empty-clause-schedule_after
returns-then-is_empty-clause-schedule_after c =
    let none : length c.args.input.now ≡ 0 = search rules in
    rw (read_nothing c.args.input.now (room_for (length c.args.schedule.now)) none)

unsized : (room : ℕ) (input first : List ℕ) → (let ls = lines input in ls ≡ first ∷ drop 1 ls) → digits_value 3 first ≡ None
    → read_up_to room input ≡ reading_of 1 0 0 []
unfolding read_up_to
unsized room input first e none = ap (read_lines room) e ∙ parts-unsized room first _ none

pub returns-in_default-clause-answer : goal.returns-in_default-clause-answer
returns-in_default-clause-answer c =
    let e = begun (goal.at.returns-in_default-clause-answer c).After-unwrap_or-first in
    let none = sym c.read_size.ensures ∙ c.in_default.is in
    rw (unsized (room_for (length c.args.schedule.now)) c.args.input.now _ e none, fault-first _ _ _ e, c.size_fault.ensures)

pub returns-in_default-clause-schedule_after : goal.returns-in_default-clause-schedule_after
returns-in_default-clause-schedule_after c =
    let e = begun (goal.at.returns-in_default-clause-schedule_after c).After-unwrap_or-first in
    let none = sym c.read_size.ensures ∙ c.in_default.is in
    rw (unsized (room_for (length c.args.schedule.now)) c.args.input.now _ e none)

sized : (room n : ℕ) (input first : List ℕ) → (let ls = lines input in ls ≡ first ∷ drop 1 ls) → digits_value 3 first ≡ Some n
    → read_entries room n 0 [] (drop 1 (lines input)) ≡ read_up_to room input
unfolding read_up_to
sized room n input first e s = sym (ap (read_lines room) e ∙ parts-sized room n first _ s)

pub loop-line-init : goal.loop-line-init
loop-line-init c =
    let here = (goal.at.loop-line-init c).After-unwrap_or-first in
    record {
      few = omega arith;
      room = c.room_for-room.ensures;
      counted = refl;
      kept = refl;
      read = sized _ _ c.args.input.now _ (begun here) (sym c.read_size.ensures ∙ c.in-Some.is);
    }

-- the lines behind the first are gone through
turn : (c : In-Some-line) → (length c.loop-line.yielded < length (drop 1 (lines c.args.input.now)))
    × (c.in-Some-line.line.now ≡ get_or (drop 1 (lines c.args.input.now)) (length c.loop-line.yielded) c.in-Some-line.line.now)
turn c =
    let text = c.without_last_feed-text.result.now in
    let split = c.split-lines.ensures in
    let road = (started (parts text) _ _ c.next.result c.unwrap_or-first.result _ (parts-some text) c.next.ensures.steps c.unwrap_or-first.ensures
    (YieldsList-from_slice_split _ is_line_feed _ split.rest split.done split.closure (λ x b q k. search (rules, tests)))).1 in
    rw c.without_last_feed-text.ensures at (YieldsList-turn (YieldsList-at c.into_iter-line-iterator.ensures.into_iter_gives road)
    c.loop-line.yielded _ c.loop-line.yielded_by _ _ _ c.in-Some-line.is c.next-in-loop-line.ensures.steps)

ended : (c : In-None) → length c.loop-line.yielded ≡ length (drop 1 (lines c.args.input.now))
ended c =
    let text = c.without_last_feed-text.result.now in
    let split = c.split-lines.ensures in
    let road = (started (parts text) _ _ c.next.result c.unwrap_or-first.result _ (parts-some text) c.next.ensures.steps c.unwrap_or-first.ensures
    (YieldsList-from_slice_split _ is_line_feed _ split.rest split.done split.closure (λ x b q k. search (rules, tests)))).1 in
    rw c.without_last_feed-text.ensures at (YieldsList-end (YieldsList-at c.into_iter-line-iterator.ensures.into_iter_gives road)
    c.loop-line.yielded _ c.loop-line.yielded_by _ _ c.in-None.is c.next-in-loop-line.ensures.steps).1

cut : (c : In-Some-line)
    → (let ls = drop 1 (lines c.args.input.now) in drop c.loop-line.entries ls ≡ c.in-Some-line.line.now ∷ drop (c.loop-line.entries + 1) ls)
cut c =
    let t = turn c in
    let l = drop 1 (lines c.args.input.now) in
    let k = c.loop-line.invariant.counted in
    rw (add-one, k, t.1) (drop-cons l (length c.loop-line.yielded) c.in-Some-line.line.now t.0)

-- what is said of the line's entry: it is that of the line, if there is room for one more
abbrev Told : In-Some-line → Option (ℕ × ℕ) → Type 0
Told c o = o ≡ (if nat_lt c.loop-line.entries c.room_for-room.result then entry_in_line c.in-Some-line.line.now else None)

stopped : (c : In-Some-line) (o : Option (ℕ × ℕ)) → Told c o → o ≡ None
    → read_up_to (room_for (length c.args.schedule.now)) c.args.input.now
    ≡ reading_of (c.loop-line.entries + 2) c.in-Some.size c.loop-line.entries (take (2 * c.loop-line.entries) c.loop-line.schedule)
stopped c o told none =
    let i = c.loop-line.invariant in
    let ls = drop 1 (lines c.args.input.now) in
    read-stop _ c.in-Some.size c.loop-line.entries _ c.in-Some-line.line.now ls _ o i.read (cut c) (rw i.room at told) none

gone : (c : In-Some-line) (o : Option (ℕ × ℕ)) (x y : ℕ) → Told c o → o ≡ Some (x, y)
    → (let k = c.loop-line.entries in
    read_entries (room_for (length c.args.schedule.now)) c.in-Some.size (k + 1) (take (2 * k) c.loop-line.schedule ++ (x ∷ y ∷ []))
    (drop (k + 1) (drop 1 (lines c.args.input.now)))
    ≡ read_up_to (room_for (length c.args.schedule.now)) c.args.input.now)
gone c o x y told some =
    let i = c.loop-line.invariant in
    let ls = drop 1 (lines c.args.input.now) in
    read-next _ c.in-Some.size c.loop-line.entries _ c.in-Some-line.line.now ls _ o i.read (cut c) (rw i.room at told) x y some

finished : (c : In-None) → read_up_to (room_for (length c.args.schedule.now)) c.args.input.now
    ≡ reading_of 0 c.in-Some.size c.loop-line.entries (take (2 * c.loop-line.entries) c.loop-line.schedule)
unfolding read_entries
finished c =
    let i = c.loop-line.invariant in
    let ls = drop 1 (lines c.args.input.now) in
    let none : drop c.loop-line.entries ls ≡ [] = drop_of_length-le ls {i = c.loop-line.entries} (omega (arith, ended c, i.counted)) in
    sym i.read ∙ ap (read_entries _ c.in-Some.size c.loop-line.entries (take (2 * c.loop-line.entries) c.loop-line.schedule)) none

pub returns-in_default-entry_with_room-clause-answer : goal.returns-in_default-entry_with_room-clause-answer
returns-in_default-entry_with_room-clause-answer c =
    let p = (goal.at.returns-in_default-entry_with_room-clause-answer c).In-Some-line in
    let none = ap (option_map pair_of) c.in_default-entry_with_room.is in
    let l = c.loop-line in
    let here = (goal.at.returns-in_default-entry_with_room-clause-answer c).After-unwrap_or-first in
    let fault = c.further_fault.ensures ∙ sym (fault-further l.entries (lines c.args.input.now) _ _ _ (begun here) (cut p)) in
    rw (stopped p _ c.entry_with_room.ensures none) (answer_stop c.args.input.now c.in-Some.size l.entries (take (2 * l.entries) l.schedule) _ fault)

pub returns-in_default-entry_with_room-clause-schedule_after : goal.returns-in_default-entry_with_room-clause-schedule_after
returns-in_default-entry_with_room-clause-schedule_after c =
    let p = (goal.at.returns-in_default-entry_with_room-clause-schedule_after c).In-Some-line in
    let none = ap (option_map pair_of) c.in_default-entry_with_room.is in
    let l = c.loop-line in
    rw (stopped p _ c.entry_with_room.ensures none) (sets-part l.schedule _ (2 * l.entries) (omega arith) (omega arith) l.invariant.kept)

pub loop-line-preserved : goal.loop-line-preserved
loop-line-preserved c =
    let p = (goal.at.loop-line-preserved c).In-Some-line in
    let l = c.loop-line in
    let told = c.entry_with_room.ensures in
    let some-is = ap (option_map pair_of) c.in-Some-entry_with_room.is in
    let h = (taken-has _ _ _ _ (sym told ∙ some-is)).0 in
    let w = c.put_entry.ensures in
    let d : 2 * (l.entries + 1) ≡ 2 * l.entries + 2 = omega arith in
    record {
      few = omega (arith, h);
      room = l.invariant.room;
      counted = omega (arith, l.invariant.counted, length-append l.yielded (c.in-Some-line.line ∷ []));
      kept = rest-kept l.entries l.schedule _ _ w.rest_unchanged l.invariant.kept;
      read = rw (d, w.entry_written) (gone p _ _ _ told some-is);
    }

pub returns-clause-answer : goal.returns-clause-answer
returns-clause-answer c = rw (finished c)

pub returns-clause-schedule_after : goal.returns-clause-schedule_after
returns-clause-schedule_after c =
    let l = c.loop-line in
    rw (finished c) (sets-part l.schedule _ (2 * l.entries) (omega arith) (omega arith) l.invariant.kept)

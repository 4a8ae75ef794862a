-- Laws of what comes of an input: the table that is made fresh, a refused size, and the reading.
-- Assumes nothing.
use mathlib.Core.Path.{◌≡◌, refl, ap, ◌∙◌, sym}
use mathlib.Core.Bool.{Bool, true, false}
use mathlib.Core.List.{List, [], ◌∷◌, ◌++◌}
use Rattle.std.specs.Prelude.{Ok, Err, Some}
use Prim.Native.Nat.{ℕ, zero, suc, ◌*◌, ◌≤◌}
use native.Mathlib.Omega.{arith}
use borrow.Author.Tests.{eq-eqb}
use lib.ListN.{length, take, drop, length-take, take-append-drop}
use lib.Seq.{take_at, sets}
use Rattle.lists.proofs.Writing.{sets-front}
use Rattle.lists.specs.declared.refusal.Refusal.TheVariants.{SizeOutOfRange}
use Rattle.table.specs.Sizes.{is_size}
use Rattle.table.specs.Table.{table_length}
use Rattle.table.specs.declared.wiring.Wiring.{Wiring}
use Rattle.table.specs.Rules.{shape_check, table_check}
use Rattle.table.specs.Fresh.{fresh_table, fresh_after}
use Rattle.plant.specs.declared.Ran.{Ran as RanPlant}
use Rattle.plant.specs.Entry.{State, state_of}
use Rattle.plant.specs.Run.{RunResult, run_result, start_check, run}
use Rattle.input.specs.declared.reading.Parsed.{Parsed}
use Rattle.input.specs.declared.reading.Unread.{Unread}
use Rattle.input.specs.Input.{lines, read_input, read_into}
use Rattle.input.specs.Fault.{fault_in, parsed_of}
use Rattle.watch.specs.Watched.{said, says_run, said_with, watched_with, run_answer, carried_out, watched}
use Rattle.input.proofs.ReadLaws.{read_fits}
use Rattle.input.proofs.AnswerLaws.{answer-ok, answer-err, read-whole}

-- a run of what is no size is refused, whatever the table
size-refused : (wiring : Wiring) (n : ℕ) (s : State) (schedule sheet : List ℕ) → is_size n ≡ false
    → run wiring n s schedule sheet ≡ record { stopped = Some SizeOutOfRange; taken = 0; state = s; sheet = sheet }
unfolding run start_check table_check shape_check
size-refused wiring n s schedule sheet e = rw e

-- a part that comes back as it was lent
part-back : (k : ℕ) (l : List ℕ) → sets l 0 (take k l) ≡ l
part-back k l =
    let short : length (take k l) ≤ length l = simp length-take (omega arith) in
    sets-front l (take k l) short ∙ whole k l
  where
    whole : (k : ℕ) (l : List ℕ) → take k l ++ drop (length (take k l)) l ≡ l
    whole zero l = refl
    whole (suc k) [] = refl
    whole (suc k) (x ∷ l) = ap (λ (r : List ℕ). x ∷ r) (whole k l)

-- a refused size: nothing taken, zero tallies; the run sheet is unchanged
abbrev refused : RanPlant
refused = record { stopped = Some SizeOutOfRange; taken = 0; tally = record { rounds = 0; tests = 0 } }

carried-refused : (wiring : Wiring) (n : ℕ) (schedule lent : List ℕ) → is_size n ≡ false
    → carried_out wiring n schedule lent ≡ said_with (says_run refused) lent
carried-refused wiring n schedule lent e =
    rw (size-refused wiring n (state_of (fresh_table n) 0 0) schedule (take (2 * length schedule) lent) e, part-back)

-- a run on the lent table after it was made fresh, with the first k bytes of a lent sheet, answers what a run of a fresh table answers
pub carried : (wiring : Wiring) (n : ℕ) (t schedule lent : List ℕ) (r : RanPlant) (t' s' : List ℕ) (k : ℕ)
    → (is_size n ≡ true → length t ≡ table_length n) → k ≡ 2 * length schedule → length s' ≡ k → k ≤ length lent
    → run_result r t' s' ≡ run wiring n (state_of (fresh_after n t) 0 0) schedule (take k lent)
    → watched_with (Ok r) (s' ++ drop k lent) ≡ carried_out wiring n schedule lent
unfolding fresh_after shape_check
carried wiring n t schedule lent r t' s' k shaped twice long fits e = pick (is_size n) refl
  where
    front : sets lent 0 s' ≡ s' ++ drop k lent
    front = rw (← long) (sets-front lent s' (omega arith))

    pick : (b : Bool) → is_size n ≡ b → watched_with (Ok r) (s' ++ drop k lent) ≡ carried_out wiring n schedule lent
    pick true y =
        let f : fresh_after n t ≡ fresh_table n =
        rw (y, eq-eqb (length t) (table_length n) (shaped y)) in
        let g = rw f at e in
        rw (← twice, ← g) (rw (sym front))
    pick false y =
        let g = e ∙ size-refused wiring n (state_of (fresh_after n t) 0 0) schedule (take k lent) y in
        let p : said (Ok r) ≡ says_run refused = ap (λ (o : RunResult). says_run (run_answer o)) g in
        let q : s' ≡ take k lent = ap (λ (o : RunResult). o.sheet) g in
        rw (carried-refused wiring n schedule lent y, p, q, take-append-drop)

-- an input that is read into a schedule with room for all entries
module _ (wiring : Wiring) (lent input schedule₀ schedule : List ℕ) (room : length schedule₀ ≡ 8192)
    (read : schedule ≡ sets schedule₀ 0 (read_into schedule₀ input).schedule) where
  whole : read_into schedule₀ input ≡ read_input input
  whole = read-whole schedule₀ input room

  pub watched_unread : (u : Unread) → Err u ≡ parsed_of input (read_into schedule₀ input)
      → (watched_with (Err u) lent ≡ watched wiring lent input) × (u.fault ≡ fault_in u.line (lines input))
  unfolding watched
  watched_unread u e = let f = answer-err input (read_input input) u (rw whole at e) in (rw (f.unread, f.line), f.fault)

  module _ (p : Parsed) (e : Ok p ≡ parsed_of input (read_into schedule₀ input)) where
    parts : ((read_input input).unread ≡ 0) × (p.size ≡ (read_input input).size) × (p.entries ≡ (read_input input).entries)
    parts = answer-ok input (read_input input) p (rw whole at e)

    pub entries_within : p.entries ≤ 4096
    entries_within = let f = read_fits 4096 input in omega (arith, parts.2)

    pub watched_ran : carried_out wiring p.size (take (2 * p.entries) schedule) lent ≡ watched wiring lent input
    unfolding watched
    watched_ran =
        let s = (read_input input).schedule in
        let n : length s ≡ 2 * p.entries = rw parts.2 (read_fits 4096 input).pairs in
        let f = sets-front schedule₀ s (omega (arith, entries_within)) in
        let t : take (2 * p.entries) schedule ≡ s = rw (read, whole, f) (take_at s _ (2 * p.entries) n) in
        rw (parts.0, parts.1, t)

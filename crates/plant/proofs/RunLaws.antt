-- Laws of the entries of a schedule, of an entry's line of the sheet, and of a run step by step.
-- Assumes nothing.
use mathlib.Core.Path.{◌≡◌, refl, sym}
use mathlib.Core.Bool.{Bool, true, false, cond, not, ◌&&◌}
use mathlib.Core.List.{List, [], ◌∷◌, ◌++◌, append_assoc}
use Prim.Native.Nat.{ℕ, zero, suc, ◌+◌, ◌*◌, ◌-◌, ◌/◌, ◌%◌, ◌≤◌, ◌<◌}
use native.Mathlib.Numerals.{add-one}
use native.Mathlib.Omega.{arith}
use borrow.Author.Tests.{eqb-true, eqb-false, eq-eqb, not-true}
use lib.ListN.{length, get_or, take, drop, drop_of_length-le}
use lib.Seq.{drop-drop, sets-eq}
use Rattle.station.specs.Wired.{wired_station}
use Rattle.table.specs.Rules.{shape_check, table_check}
use Rattle.table.specs.Table.{table_length}
use Rattle.lists.proofs.BoolLaws.{choice}
use Rattle.table.proofs.Accepting.{Accepted, table_ok}
use Rattle.std.specs.Prelude.{Ok, Err, None, Some}
use Rattle.std.specs.Simd.{first_chunks}
use Rattle.lists.specs.declared.refusal.Refusal.{Refusal}
use Rattle.lists.proofs.RefusalLaws.{ensure_ok, and_ok}
use Rattle.table.specs.declared.wiring.Wiring.{Wiring}
use Rattle.plant.specs.Turn.{replies, is_told, reply_outcome, test_outcome, makes_test, next_test, turn_outcome}
use Rattle.plant.specs.Entry.{Entry, State, entry_of, is_crash, is_test, entry_check, after, shows_test, outcome_of, sheet_line}
use Rattle.plant.specs.Run.{RunResult, entries, write_line, go_on, start_check, run}

-- a table that obeys the rules gets no refusal
pub accepted-number : (w : Wiring) (n : ℕ) (t : List ℕ) → Accepted w n t → table_check w n t ≡ Ok tt
unfolding table_check shape_check
accepted-number w n t a = rw (a.size, eq-eqb (length t) (table_length n) a.long, a.lines, a.unclosed)

-- the entries of a schedule
entries-length : (s : List ℕ) → length (entries s) ≡ length s / 2
unfolding entries
entries-length [] = refl
entries-length (k ∷ []) = refl
entries-length (k ∷ i ∷ rest) = omega (arith, entries-length rest)

-- the kth of them, by its pair of bytes
abbrev pub entry_at : List ℕ → ℕ → Entry
entry_at s k = let pair = get_or (first_chunks 2 (length s / 2) s) k [] in entry_of (get_or pair 0 0) (get_or pair 1 0)

pairs-at : (m k : ℕ) (s : List ℕ) → k < m → 2 * m ≤ length s
    → (let pair = get_or (first_chunks 2 m s) k [] in drop k (entries s) ≡ entry_of (get_or pair 0 0) (get_or pair 1 0) ∷ drop (suc k) (entries s))
unfolding entries
pairs-at zero k s h fits = absurd (omega arith)
pairs-at (suc m) k [] h fits = absurd (omega arith)
pairs-at (suc m) k (a ∷ []) h fits = absurd (omega arith)
pairs-at (suc m) zero (a ∷ b ∷ rest) h fits = refl
pairs-at (suc m) (suc k) (a ∷ b ∷ rest) h fits = pairs-at m k rest (omega arith) (omega arith)

entries_at : (s : List ℕ) (k : ℕ) → k < length s / 2 → drop k (entries s) ≡ entry_at s k ∷ drop (suc k) (entries s)
entries_at s k h = pairs-at (length s / 2) k s h (omega arith)

-- the outcome tells whether a test was made
some-outcome : (n : ℕ) (t : List ℕ) (kind i j : ℕ) → shows_test (test_outcome n t kind i j) ≡ true
unfolding test_outcome reply_outcome
some-outcome n t kind i j =
    let P : ℕ → Type 0 = λ o. shows_test o ≡ true in
    choice P (replies n t kind j) (choice P (is_told n t i j) refl (choice P (is_told n t j i) refl refl)) refl

pub made-test : (w : Wiring) (n : ℕ) (t : List ℕ) (e : Entry) → shows_test (outcome_of w n t e) ≡ is_test w n t e
unfolding outcome_of turn_outcome
made-test w n t e = pick (is_crash e) (makes_test w n t e.station)
  where
    j : ℕ
    j = wired_station w n e.station (next_test w n t e.station)

    pick : (b c : Bool) → shows_test (cond b 4 (cond c (test_outcome n t e.kind e.station j) 0)) ≡ (not b && c)
    pick true c = refl
    pick false true = rw (some-outcome n t e.kind e.station j)
    pick false false = refl

-- a line that is lent as a part of the sheet and comes back as that of an entry
pub line-back : (w : Wiring) (n : ℕ) (s : State) (e : Entry) (sheet : List ℕ) (k : ℕ) (line : List ℕ) → line ≡ sheet_line w n s e
    → 4 * k + 4 ≤ length sheet
    → take (4 * k) sheet ++ (line ++ drop (4 * k + 4 - 4 * k) (drop (4 * k) sheet)) ≡ write_line sheet k (sheet_line w n s e)
unfolding sheet_line
line-back w n s e sheet k line same fits =
    let four : 4 * k + 4 - 4 * k ≡ 4 = omega arith in
    rw (four, drop-drop, same) (sym (rw append_assoc at (sets-eq (sheet_line w n s e) sheet (4 * k) fits)))

-- the run from entry k on
module _ (w : Wiring) (n k : ℕ) (s : State) (sheet schedule : List ℕ) where
  abbrev pub from-here : RunResult
  from-here = go_on w n k s sheet (drop k (entries schedule))

  pub go-taken : (e : Entry) (s' : State) (sheet' : List ℕ) → k < length schedule / 2 → e ≡ entry_at schedule k → entry_check n s e ≡ Ok tt
      → s' ≡ after w n s e → sheet' ≡ write_line sheet k (sheet_line w n s e)
      → go_on w n (k + 1) s' sheet' (drop (k + 1) (entries schedule)) ≡ from-here
  unfolding go_on
  go-taken e s' sheet' h at z a b = rw (a, b, entries_at schedule k h, ← at, z, add-one k)

  pub go-stopped : (r : Refusal) → k < length schedule / 2 → entry_check n s (entry_at schedule k) ≡ Err r
      → from-here ≡ record { stopped = Some r; taken = k; state = s; sheet = sheet }
  unfolding go_on
  go-stopped r h e = rw (entries_at schedule k h, e)

  pub go-done : length schedule / 2 ≤ k → from-here ≡ record { stopped = None; taken = k; state = s; sheet = sheet }
  unfolding go_on
  go-done h = rw (drop_of_length-le (entries schedule) {i = k} (omega (arith, entries-length schedule)))

-- a run of one entry, which is taken
pub start-one : (w : Wiring) (n : ℕ) (t : List ℕ) → table_check w n t ≡ Ok tt → start_check w n t 2 4 ≡ Ok tt
unfolding start_check
start-one w n t z = rw (z)

pub go-one : (w : Wiring) (n : ℕ) (s : State) (sheet : List ℕ) (k i : ℕ) → entry_check n s (entry_of k i) ≡ Ok tt
    → (go_on w n 0 s sheet (entries (k ∷ i ∷ []))).state ≡ after w n s (entry_of k i)
unfolding go_on entries
go-one w n s sheet k i z = rw z

-- what a run has that refusals 1 to 6 let through
start_ok : (w : Wiring) (n : ℕ) (t : List ℕ) (a b : ℕ) (x : Unit {0}) → start_check w n t a b ≡ Ok x → Accepted w n t × (a % 2 ≡ 1 → ⊥) × (b ≡ 2 * a)
unfolding start_check
start_ok w n t a b x e =
    let p = and_ok _ _ x e in
    let q = and_ok _ _ x p.1 in
    (table_ok w n t _ p.0, eqb-false _ _ (not-true _ (ensure_ok _ _ _ q.0)), eqb-true _ _ (ensure_ok _ _ _ q.1))

pub start-facts : (w : Wiring) (n : ℕ) (t : List ℕ) (a b : ℕ) → start_check w n t a b ≡ Ok tt → Accepted w n t × (a % 2 ≡ 1 → ⊥) × (b ≡ 2 * a)
start-facts w n t a b z = start_ok w n t a b _ (z)

module _ (w : Wiring) (n : ℕ) (s : State) (schedule sheet : List ℕ) where
  pub run-refused : (r : Refusal) → start_check w n s.table (length schedule) (length sheet) ≡ Err r
      → run w n s schedule sheet ≡ record { stopped = Some r; taken = 0; state = s; sheet = sheet }
  unfolding run
  run-refused r e = rw e

  pub run-goes : start_check w n s.table (length schedule) (length sheet) ≡ Ok tt → run w n s schedule sheet ≡ go_on w n 0 s sheet (entries schedule)
  unfolding run
  run-goes z = rw z

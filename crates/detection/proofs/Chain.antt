-- The taken entries of a list of runs are one chain: each entry finds the table and tally that the one before it left.
-- Assumes nothing.
use mathlib.Core.Path.{◌≡◌, refl, sym, ◌∙◌}
use mathlib.Core.Logic.{◌⊎◌, inl, inr}
use mathlib.Core.List.{List, [], ◌∷◌, ◌++◌}
use mathlib.Core.Bool.{true}
use Prim.Native.Nat.{ℕ, suc, ◌+◌, ◌≤◌, ◌<◌}
use native.Mathlib.Nat.{mul-le-mul, suc-mul}
use native.Mathlib.Omega.{arith}
use lib.ListN.{length}
use Rattle.table.specs.Table.{stride, table_length}
use Rattle.table.proofs.Accepting.{Accepted}
use Rattle.plant.proofs.RunLaws.{start-facts}
use Rattle.plant.specs.Entry.{Entry, State, entry_check, after, sheet_line}
use Rattle.plant.specs.Run.{entries, write_line, go_on, start_check, run}
use Rattle.plant.proofs.RulesKept.{accepted-kept}
use Rattle.detection.specs.Runs.{Call, call_of, Taken, CountsTaken, run_by, after_run, after_runs, taken_from, taken_by, taken_all, is_on}
use Rattle.detection.specs.Rounds.{all_taken}
use Rattle.lists.proofs.SearchLaws.{both}
use Rattle.table.specs.declared.wiring.Wiring.{Wiring}
use Rattle.detection.proofs.TakenLaws.{taken_at}
use Rattle.table.proofs.WiringLaws.{same-is}
use Rattle.table.specs.Wiring.{same_wiring}
use Rattle.lists.specs.declared.refusal.Refusal.{Refusal}
use Rattle.std.specs.Prelude.{Result, Ok, Err}
use Rattle.lists.proofs.RefusalLaws.{by_check}

-- entries taken one behind the other at size n, each on the wiring of its run, from a state to a state
pub data Chain (n : ℕ) : State → List Taken → State → Type 0 where
  done : {s : State} → Chain n s [] s
  more : {s s' : State} {xs : List Taken} (w : Wiring) (e : Entry) → Accepted w n s.table → entry_check n s e ≡ Ok tt → Chain n (after w n s e) xs s'
      → Chain n s (taken_at w n s e ∷ xs) s'

-- all on one wiring
pub data WiredChain (w : Wiring) (n : ℕ) : State → List Taken → State → Type 0 where
  ends : {s : State} → WiredChain w n s [] s
  next : {s s' : State} {xs : List Taken} (e : Entry) → Accepted w n s.table → entry_check n s e ≡ Ok tt → WiredChain w n (after w n s e) xs s'
      → WiredChain w n s (taken_at w n s e ∷ xs) s'

pub on-wiring : {w : Wiring} {n : ℕ} {s s' : State} {xs : List Taken} → Chain n s xs s' → all_taken (is_on w) xs ≡ true → WiredChain w n s xs s'
unfolding all_taken
on-wiring done one = ends
on-wiring {w} (more {xs = xs} v e a z c) one =
    let p = both (same_wiring v w) (all_taken (is_on w) xs) one in
    let same = same-is v w p.0 in
    rw same (next e (rw same at a) z (rw same at (on-wiring c p.1)))

-- two chains, one behind the other
chain-append : {n : ℕ} {s s' s'' : State} {xs ys : List Taken} → Chain n s xs s' → Chain n s' ys s'' → Chain n s (xs ++ ys) s''
chain-append done d = d
chain-append (more w e a z c) d = more w e a z (chain-append c d)

-- the table keeps its length
chain-long : {n : ℕ} {s s' : State} {xs : List Taken} → Chain n s xs s' → length s.table ≡ table_length n
    → length s'.table ≡ table_length n
chain-long done long = long
chain-long {n} (more {s} w e a z c) long = chain-long c (accepted-kept w n s e a z).long

-- an entry is taken in an accepted table only
pub chain_first : {w : Wiring} {n : ℕ} {s s' : State} {xs : List Taken} → WiredChain w n s xs s' → ((xs ≡ []) × (s' ≡ s)) ⊎ Accepted w n s.table
chain_first ends = inl (refl, refl)
chain_first (next e a z c) = inr a

-- the entries that a run takes
chain-entries : (w : Wiring) (n k : ℕ) (s : State) (sheet : List ℕ) (es : List Entry) → Accepted w n s.table
    → Chain n s (taken_from w n s es) (go_on w n k s sheet es).state
unfolding taken_from go_on
chain-entries w n k s sheet [] a = done
chain-entries w n k s sheet (e ∷ es) a =
    by_check (entry_check n s e)
    (λ z.
    rw z (more w e a z (chain-entries w n (suc k) (after w n s e) (write_line sheet k (sheet_line w n s e)) es (accepted-kept w n s e a z))))
    (λ r z. rw z done)

-- a table's length fits one size only
not-less : (n m : ℕ) → table_length n ≡ table_length m → ¬ (n < m)
unfolding table_length
not-less n m e l = let more : stride n ≤ stride m = omega arith in omega (arith, mul-le-mul l more, suc-mul n (stride n))

pub size-unique : (n m : ℕ) → table_length n ≡ table_length m → n ≡ m
size-unique n m e = omega (arith, not-less n m e, not-less m n (sym e))

-- the entries of one run: a run of another size, or on a table that is not accepted, is turned away, and takes none
chain_run : (n : ℕ) (s : State) (v : Result Wiring Refusal) (m : ℕ) (schedule sheet : List ℕ) → length s.table ≡ table_length n
    → Chain n s (taken_by v m s schedule sheet) (run_by v m s schedule sheet).state
unfolding taken_by run start_check
chain_run n s (Ok w) m schedule sheet long =
    by_check (start_check w m s.table (length schedule) (length sheet))
    (λ t.
    let fits = (start-facts w m s.table (length schedule) (length sheet) t).0 in
    let same : m ≡ n = size-unique m n (sym fits.long ∙ long) in
    rw (t, same) (chain-entries w n 0 s sheet (entries schedule) (rw same at fits)))
    (λ r t. rw t done)
chain_run n s (Err r) m schedule sheet long = done

-- the entries of all runs
pub chain-all : (n : ℕ) (s : State) (calls : List Call) → length s.table ≡ table_length n
    → Chain n s (taken_all s calls) (after_runs s calls)
unfolding taken_all after_runs
chain-all n s [] long = done
chain-all n s (c ∷ calls) long =
    let first = chain_run n s c.wiring c.size c.schedule c.sheet long in
    chain-append first (chain-all n (after_run s c) calls (chain-long first long))

taken-from : (w : Wiring) (n k : ℕ) (s : State) (sheet : List ℕ) (es : List Entry) → (go_on w n k s sheet es).taken ≡ k + length (taken_from w n s es)
unfolding taken_from go_on
taken-from w n k s sheet [] = omega arith
taken-from w n k s sheet (e ∷ es) =
    by_check (entry_check n s e)
    (λ t. rw t (omega (arith, taken-from w n (suc k) (after w n s e) (write_line sheet k (sheet_line w n s e)) es))) (λ r t. rw t (omega arith))

-- a run answers how many entries it takes
pub taken_is : (s : State) (v : Result Wiring Refusal) (n : ℕ) (schedule sheet : List ℕ)
    → CountsTaken (call_of v n schedule sheet) s (run_by v n s schedule sheet).taken
unfolding taken_by run
taken_is s (Ok w) n schedule sheet =
    by_check (start_check w n s.table (length schedule) (length sheet))
    (λ t. rw t (omega (arith, taken-from w n 0 s sheet (entries schedule)))) (λ r t. rw t)
taken_is s (Err r) n schedule sheet = refl

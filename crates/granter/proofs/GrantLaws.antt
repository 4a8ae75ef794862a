-- Laws of the granting rule: who waits, and that the granted station does.
-- Assumes nothing.
use mathlib.Core.Path.{◌≡◌, refl, ◌∙◌}
use mathlib.Core.Bool.{Bool, true, false, not, ◌&&◌, ◌||◌, and-true, true≢false}
use mathlib.Core.List.{List}
use Prim.Native.Nat.{ℕ, ◌-◌, ◌<◌}
use native.Mathlib.Omega.{arith}
use borrow.Author.Tests.{ltb-true, ltb-false, lt-ltb, lt-leb, leb-false, not-true, not-false}
use lib.Dec.{ltb, leb, eqb}
use Rattle.lists.specs.Search.{least, every}
use Rattle.lists.specs.Refusal.{◌and◌}
use Rattle.table.specs.Table.{finished, live}
use Rattle.table.specs.Rules.{some_live, finished_if_live, live_finished, round_over, table_check}
use Rattle.lists.proofs.BoolLaws.{by_bool}
use Rattle.lists.proofs.SearchLaws.{both, every-all, least-between, least-passes, least-before}
use Rattle.table.proofs.Accepting.{Accepted, table_ok}
use Rattle.std.specs.Prelude.{Ok}
use Rattle.lists.proofs.RefusalLaws.{ensure_ok, and_ok}
use Rattle.table.specs.declared.wiring.Wiring.{Wiring}
use Rattle.plant.specs.Turn.{kind_turn}
use Rattle.plant.specs.Entry.{State, entry_of, tally_full, entry_check}
use Rattle.granter.specs.Grant.{no_grant, waits, first_from, following, granted, last_check, grant_check}

-- who waits is live and not finished
pub waits-is : (n : ℕ) (t : List ℕ) (i : ℕ) → not (finished_if_live n t i) ≡ waits n t i
unfolding waits
waits-is n t i = cases (live n t i) (eqb (finished n t i) 1)
  where
    cases : (a b : Bool) → not (not a || b) ≡ (a && not b)
    cases true true = refl
    cases true false = refl
    cases false b = refl

pub waits-parts : (n : ℕ) (t : List ℕ) (i : ℕ) → waits n t i ≡ true → (live n t i ≡ true) × (eqb (finished n t i) 1 ≡ false)
unfolding waits
waits-parts n t i w =
    let b = both (live n t i) (not (eqb (finished n t i) 1)) w in
    (b.0, not-true (eqb (finished n t i) 1) b.1)

-- what a grant has that is not refused
pub record Grantable (w : Wiring) (n : ℕ) (t : List ℕ) (last : ℕ) : Type 0 where
  pub ok : Accepted w n t
  pub last_fits : last_check n last ≡ Ok tt
  pub someone : some_live n t ≡ true

pub grant_ok : (w : Wiring) (n : ℕ) (t : List ℕ) (last : ℕ) (x : Unit {0}) → grant_check w n t last ≡ Ok x → Grantable w n t last
unfolding grant_check
grant_ok w n t last x e =
    let a = and_ok _ _ x e in
    let b = and_ok _ _ x a.1 in
    record { ok = table_ok w n t _ a.0; last_fits = b.0; someone = ensure_ok _ _ _ b.1 }

-- its round is not over
pub grantable_open : (w : Wiring) (n : ℕ) (t : List ℕ) (last : ℕ) → Grantable w n t last → round_over n t ≡ false
grantable_open w n t last g = g.ok.unclosed

pub grantable : (w : Wiring) (n : ℕ) (t : List ℕ) (last : ℕ) → grant_check w n t last ≡ Ok tt → Grantable w n t last
grantable w n t last z = grant_ok w n t last _ z

pub grant-zero : (w : Wiring) (n : ℕ) (t : List ℕ) (last : ℕ) → table_check w n t ≡ Ok tt → last_check n last ≡ Ok tt → some_live n t ≡ true
    → grant_check w n t last ≡ Ok tt
unfolding grant_check
grant-zero w n t last z fits someone = rw (z, fits, someone)

-- a station is a last number that is let through
pub station-fits : (n g : ℕ) → g < n → last_check n g ≡ Ok tt
station-fits n g h = rw (lt-leb n g h)

-- a last number that is let through and is not 255 is a station
pub last-below : (n last : ℕ) → last_check n last ≡ Ok tt → eqb last no_grant ≡ false → last < n
last-below n last fits e =
    let low : (leb n last && not (eqb last no_grant)) ≡ false = not-true _ (ensure_ok _ _ _ fits) in
    leb-false n last (simp and-true at (rw e at low))

-- in a table whose round is not over, with a live station
module _ (n : ℕ) (t : List ℕ) (unclosed : round_over n t ≡ false) (someone : some_live n t ≡ true) where
  -- somebody waits
  pub first-waits : first_from n t 0 < n
  unfolding first_from live_finished
  first-waits = by_bool (ltb q n) (ltb-true q n) (λ e. absurd (closed (every-all (finished_if_live n t) n (λ i h. done e i h))))
    where
      q : ℕ
      q = least (waits n t) (n - 0) 0

      done : ltb q n ≡ false → (i : ℕ) → i < n → finished_if_live n t i ≡ true
      done e i h =
          let none = least-before (waits n t) (n - 0) 0 i (omega arith) (omega (arith, ltb-false q n e)) in
          not-false _ (waits-is n t i ∙ none)

      closed : every (finished_if_live n t) n ≡ true → ⊥
      closed e = true≢false (rw (someone, e) at unclosed)

  -- the granted station is one of the plant's and waits
  pub granted-waits : (last : ℕ) → (granted n t last < n) × (waits n t (granted n t last) ≡ true)
  unfolding granted first_from
  granted-waits last = by_bool (ltb p n) (λ e. rw e (ltb-true p n e, found e)) (λ e. rw e (first-waits, begun))
    where
      b : ℕ
      b = following last

      p : ℕ
      p = least (waits n t) (n - b) b

      found : ltb p n ≡ true → waits n t p ≡ true
      found e = least-passes (waits n t) (n - b) b (omega (arith, ltb-true p n e, least-between (waits n t) (n - b) b))

      begun : waits n t (least (waits n t) (n - 0) 0) ≡ true
      begun = least-passes (waits n t) (n - 0) 0 (omega (arith, first-waits))

-- a station that waits takes its turn, where no tally is full
pub turn-taken : (n : ℕ) (s : State) (i : ℕ) → tally_full s.rounds s.tests ≡ false → i < n → waits n s.table i ≡ true
    → entry_check n s (entry_of kind_turn i) ≡ Ok tt
unfolding entry_check
turn-taken n s i fits h w = let b = waits-parts n s.table i w in rw (fits, lt-ltb i n h, b.0, b.1)

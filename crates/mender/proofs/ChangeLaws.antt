-- The list of changes between two tables.
-- Assumes nothing.
use mathlib.Core.Path.{◌≡◌, refl, sym, ap, ◌∙◌}
use mathlib.Core.Bool.{true}
use mathlib.Core.List.Memᴰ
use mathlib.Core.List.{List, [], ◌∷◌, map, Memᴰ}
use mathlib.Core.Logic.{◌≢◌, by_cases}
use Prim.Native.Nat.{ℕ}
use native.Mathlib.Decide.{dec_lt}
use native.Mathlib.Omega.{arith}
use borrow.Author.Tests.{eqb-true, eqb-false, eq-eqb, not-true}
use lib.Dec.{eqb}
use lib.ListN.{length, get_or}
use Rattle.std.proofs.lemmas.List.{get_or_past}
use Rattle.std.specs.List.{filter, range_with_len, All}
use Rattle.std.proofs.lemmas.List.Elements.{All-map, All-weaker, filter_passes, All-head, All-tail}
use Rattle.lists.specs.Search.{select}
use Rattle.lists.proofs.BoolLaws.{by_bool}
use Rattle.lists.proofs.FilterLaws.{select-stays, range-mem}
use Rattle.mender.specs.declared.report.Change.{Change}
use Rattle.mender.specs.Report.{differs, change_at, changes}

-- a table has no changes against itself
pub changes-none : (t : List ℕ) → changes t t ≡ []
unfolding changes
changes-none t =
    ap (map (change_at t t)) (select-stays (differs t t) 0 (length t) (omega arith) (λ p a b. rw (eq-eqb (get_or t p 0) (get_or t p 0) refl) refl))

-- what c says of the byte at its offset is so, and the byte is another one now
abbrev IsChange : List ℕ → List ℕ → Change → Type 0
IsChange t u c = (get_or t c.offset 0 ≡ c.before) × (get_or u c.offset 0 ≡ c.after) × (c.before ≢ c.after)

-- each listed change is one
pub changes-true : (t u : List ℕ) → All (IsChange t u) (changes t u)
unfolding changes
changes-true t u =
    All-map (IsChange t u) (change_at t u) (select (differs t u) (length t))
    (All-weaker (λ p. differs t u p ≡ true) (λ p. IsChange t u (change_at t u p))
    (λ p e. (refl, refl, eqb-false (get_or t p 0) (get_or u p 0) (not-true (eqb (get_or t p 0) (get_or u p 0)) e))) (select (differs t u) (length t))
    (filter_passes (differs t u) (range_with_len 0 (length t))))

-- where none is listed the byte is the same
pub changes-all : (t u : List ℕ) (p : ℕ) → length u ≡ length t → All (λ c. c.offset ≢ p) (changes t u) → get_or u p 0 ≡ get_or t p 0
unfolding changes
changes-all t u p l none =
    by_cases (dec_lt p (length t))
    (λ h. by_bool (eqb (get_or t p 0) (get_or u p 0)) (λ e. sym (eqb-true (get_or t p 0) (get_or u p 0) e))
    (λ e. absurd (among (range_with_len 0 (length t)) (range-mem (length t) p h) (rw e refl) none)))
    (λ h. get_or_past u p 0 (omega arith) ∙ sym (get_or_past t p 0 (omega arith)))
  where
    away : Change → Type 0
    away c = c.offset ≢ p

    among : (ps : List ℕ) → Memᴰ p ps → differs t u p ≡ true → All away (map (change_at t u) (filter (differs t u) ps)) → ⊥
    among [] m e none = Memᴰ.not-nil m
    among (q ∷ ps) (Memᴰ.head s) e none =
        let d : differs t u q ≡ true = ap (differs t u) (sym s) ∙ e in
        All-head away (change_at t u q) (map (change_at t u) (filter (differs t u) ps)) (rw d at none) (sym s)
    among (q ∷ ps) (Memᴰ.tail m) e none =
        by_bool (differs t u q)
        (λ d. among ps m e (All-tail away (change_at t u q) (map (change_at t u) (filter (differs t u) ps)) (rw d at none)))
        (λ d. among ps m e (rw d at none))

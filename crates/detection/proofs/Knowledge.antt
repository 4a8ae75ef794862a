-- What live stations know within a round on the cube, with t₀ the table at its start and t the table now, where no live station suspects a live
-- one.
-- Assumes nothing.
use mathlib.Core.Path.{◌≡◌, refl, sym, ap, ◌∙◌}
use mathlib.Core.Logic.{by_cases}
use mathlib.Core.Bool.{Bool, true, false, cond, not, ◌&&◌, and-false, true≢false}
use mathlib.Core.List.{List}
use Prim.Native.Nat.{ℕ, ◌+◌, ◌^◌, ◌≤◌, ◌<◌}
use native.Mathlib.Decide.{dec_lt, ℕ_discrete}
use native.Mathlib.Omega.{arith}
use borrow.Author.Tests.{lt-ltb, le-ltb, ltb-true}
use lib.ListN.{length, get_or}
use lib.Bits.{bit_xor, xor_comm}
use lib.Dec.{eqb, ltb}
use lib.Pow.{pow_pos}
use Rattle.station.specs.Groups.{station_at, is_present, member}
use Rattle.table.specs.Sizes.{level}
use Rattle.table.specs.Wiring.{end_distance}
use Rattle.station.specs.Wired.{wired_due}
use Rattle.station.proofs.WiredLaws.{cube_due, cube-station}
use Rattle.table.specs.Table.{next_column, tests_column, next_distance, tests_made, row}
use Rattle.station.specs.Tests.{unsuspected, due}
use Rattle.lists.proofs.Xor.{xor-cancel}
use Rattle.lists.proofs.SearchLaws.{both}
use Rattle.table.proofs.CellLaws.{row-length, row_at}
use Rattle.plant.specs.Turn.{next_test, makes_test}
use Rattle.station.specs.Wired.{next_after}
use Rattle.plant.specs.Entry.{Entry, State}
use Rattle.plant.proofs.NextTest.{not-due-before, none-due}
use Rattle.detection.specs.Runs.{Taken}
use Rattle.plant.proofs.RoundLaws.{Reset}
use Rattle.plant.proofs.StepLines.{Lines}
use Rattle.lists.specs.Sums.{sum_below, bit}
use Rattle.lists.proofs.BoolLaws.{by_bool}
use Rattle.lists.proofs.SumLaws.{sum_by, sum-zero}
use Rattle.table.specs.declared.wiring.Wiring.TheVariants.{Cube}
use Rattle.detection.proofs.Count.{leads, leads-zero, leads-same}
use Rattle.station.proofs.DueLaws.{unsuspected-at, unsuspected-absent, due-first}
use Rattle.detection.proofs.DueLaw.{due-holds}
use Rattle.plant.proofs.TurnHeads.{Heads, passed-dues}
use Rattle.detection.proofs.Near.{Member, Ahead, member-distance}
use Rattle.detection.proofs.Pass.{InPass, had, stays, finds, hears, Tests}
use Rattle.detection.proofs.TurnEffect.{Plain, Grown, Exact, Row, Tested, tested-more, TurnKept}
use Rattle.detection.proofs.RoundKnowledge.{InRound, TurnTaken}

-- the live stations among the n
abbrev pub LiveOf : ℕ → (ℕ → Bool) → ℕ → Bool
LiveOf n L i = is_present n i && L i

-- i suspects j, or j is absent
abbrev pub RowOf : ℕ → List ℕ → ℕ → ℕ → Type 0
RowOf n t i j = j < n → Row n t i j

pub live_of : (n : ℕ) (L : ℕ → Bool) (i : ℕ) → LiveOf n L i ≡ true → (i < n) × (L i ≡ true)
live_of n L i l = let v = both (ltb i n) (L i) l in (ltb-true i n v.0, v.1)

-- what i knows in its pass of the round that started with t₀, and whom it tests
abbrev pub InPassOf : ℕ → (ℕ → Bool) → List ℕ → ℕ → ℕ → ℕ → Type 0
InPassOf n L t₀ i h j = InPass (LiveOf n L) (RowOf n t₀) i h j

abbrev Asks : ℕ → (ℕ → Bool) → List ℕ → ℕ → ℕ → ℕ → Type 0
Asks n L t₀ i h x = Tests (LiveOf n L) (RowOf n t₀) i h x

-- what the live i has done at the distances below `reach`: a present station in whose group it knew all ahead of it was tested
abbrev Met : ℕ → (ℕ → Bool) → List ℕ → List ℕ → ℕ → ℕ → Type 0
Met n L t₀ t i reach =
    (h x : ℕ) → x < n → bit_xor i x < reach → Asks n L t₀ i h x → Tested n L (InPassOf n L t₀ i h) (Row n t₀ x) t i x

met-later : (n : ℕ) (L : ℕ → Bool) (t₀ t t' : List ℕ) (i reach : ℕ) → Grown n t t' → i < n → Met n L t₀ t i reach → Met n L t₀ t' i reach
met-later n L t₀ t t' i reach grows hi met h x hx below asks =
    tested-more n L t t' i x hi hx grows (λ j a s. s) (λ j a s. s) (met h x hx below asks)

-- whether a station stands at distance m from i and i leads its group
abbrev pub leads_at : ℕ → (ℕ → Bool) → ℕ → ℕ → Bool
leads_at n L i m = is_present n (station_at i m) && leads (LiveOf n L) i m

-- what is known within a round
pub record Knows (n : ℕ) (L : ℕ → Bool) (t₀ t : List ℕ) : Type 0 where
  pub met : (i : ℕ) → i < n → L i ≡ true → Met n L t₀ t i (next_distance n t i)
  -- in a round that starts exact byte 3 counts the distances passed at which i leads the group of a station
  pub counted : Exact n L t₀ → (i : ℕ) → i < n → tests_made n t i ≡ sum_below (λ m. bit (leads_at n L i m)) (next_distance n t i)

-- where a round starts
pub knows_start : (n : ℕ) (L : ℕ → Bool) (t : List ℕ) → ((i : ℕ) → i < n → Reset n t i) → Knows n L t t
knows_start n L t fresh = record {
  met = λ i a l h x hx below asks.
      absurd (omega (arith, pow_pos h, (fresh i a).next, xor_comm i x, (member-distance h x i).0 asks.0));
  counted = λ exact i a.
      rw ((fresh i a).untested, (fresh i a).next)
      (sym (sum-zero 1 (λ m l. let e : m ≡ 0 = omega arith in rw (e, leads-zero (LiveOf n L) i, and-false))));
}

-- by a row that suspects exactly the stations that are not live, the distances due are those at which i leads the group of a station
pub row-due : (n : ℕ) (L : ℕ → Bool) (r : List ℕ) → length r ≡ n → ((x : ℕ) → x < n → get_or r x 0 ≡ bit (not (L x))) → (i m : ℕ)
    → due r i m ≡ leads_at n L i m
row-due n L r long bytes i m =
    rw (due-first r i m, long, leads-same (unsuspected r) (LiveOf n L) i m (λ k h. same (member (station_at i m) (level m) k)))
  where
    same : (x : ℕ) → unsuspected r x ≡ LiveOf n L x
    same x =
        by_cases (dec_lt x n)
        (λ h. rw (lt-ltb x n h)
        (unsuspected-at r x (omega (arith, long)) ∙ ap (λ (v : ℕ). eqb v 0) (bytes x h) ∙ by_bool (L x) (λ e. rw e) (λ e. rw e)))
        (λ h. rw (le-ltb x n (omega arith)) (unsuspected-absent r x (λ g. h (omega (arith, long)))))

-- in an exact table that holds of the row of each live station
pub exact-due : (n : ℕ) (L : ℕ → Bool) (t : List ℕ) → Plain Cube n L t → Exact n L t → (i m : ℕ) → i < n → L i ≡ true
    → due (row n t i) i m ≡ leads_at n L i m
exact-due n L t p exact i m hi l =
    row-due n L (row n t i) (row-length n t i p.lines.0 hi)
    (λ x h. row_at n t i x h ∙ by_bool (L x) (λ e. rw e (p.accurate i x hi h l e)) (λ e. rw e (exact i x hi h l e))) i m

-- where i suspects all present ahead of it in the group of x the distance to x is due
due-now : (n : ℕ) (t : List ℕ) (h x i : ℕ) → Lines Cube n t → i < n → x < n → Member h x i → ((y : ℕ) → Ahead h x i y → RowOf n t i y)
    → due (row n t i) i (bit_xor i x) ≡ true
due-now n t h x i lines hi hx m ahead =
    let long = row-length n t i lines.0 hi in
    due-holds (row n t i) h x i (omega arith) (omega arith) (row_at n t i i hi ∙ (lines.1 i hi).own) m
    (λ y a l. let y<n = rw long at l in row_at n t i y y<n ∙ ahead y a y<n)

-- where no distance below M, from i's next one on, is due, i suspects all present that it knows in its pass through distances below M
module _ (n : ℕ) (L : ℕ → Bool) (t₀ t : List ℕ) (cur : List Taken) (inv : InRound Cube n L t₀ cur t) (know : Knows n L t₀ t)
    (i : ℕ) (hi : i < n) (li : L i ≡ true) (M : ℕ)
    (undue : (m : ℕ) → next_distance n t i ≤ m → m < M → due (row n t i) i m ≡ false) where
  met-now : (h x : ℕ) → x < n → bit_xor i x < M → Asks n L t₀ i h x → ((y : ℕ) → Ahead h x i y → RowOf n t i y)
      → Tested n L (InPassOf n L t₀ i h) (Row n t₀ x) t i x
  met-now h x hx below asks ahead =
      by_cases (dec_lt (bit_xor i x) (next_distance n t i)) (λ l. know.met i hi li h x hx l asks)
      (λ l.
      let is_due = due-now n t h x i inv.plain.lines hi hx asks.0 ahead in
      absurd (true≢false (sym is_due ∙ undue (bit_xor i x) (omega arith) below)))

  pub known-now : (h j : ℕ) → ((x : ℕ) → x < n → bit_xor i x < 2 ^ h → bit_xor i x < M) → InPassOf n L t₀ i h j → RowOf n t i j
  known-now h j below (had r) = λ l. inv.grown i j hi l (r l)
  known-now h j below (stays k) = known-now _ j (λ x l b. below x l (omega arith)) k
  known-now h j below (finds m ahead f) = λ l.
      (met-now _ j l (below j l (omega (arith, (member-distance _ j i).0 m, xor_comm i j))) (m, ahead)
      (λ y a. known-now _ y (λ x l b. below x l (omega arith)) (ahead y a))).finds (rw (lt-ltb j n l) at f)
  known-now h j below (hears {x = x} m ahead b r) = λ l.
      let v = live_of n L x b in
      (met-now _ x v.0 (below x v.0 (omega (arith, (member-distance _ x i).0 m, xor_comm i x))) (m, ahead)
      (λ y a. known-now _ y (λ x l b. below x l (omega arith)) (ahead y a))).hears v.1 j l (r l)

-- on the cube
undue-at : (r : List ℕ) (i y : ℕ) → wired_due Cube r i y ≡ due r i y
undue-at r i y = cube_due Cube r i y refl

-- of the distances that a turn passes none before the last was due, and at one that was due it tested
module _ (n : ℕ) (L : ℕ → Bool) (t t' : List ℕ) (i o : ℕ) (turned : TurnKept Cube n L t t' i o)
    (heads : Heads Cube n t t' i o (makes_test Cube n t i)) (high : next_distance n t i ≤ end_distance Cube n) where
  next-is : next_distance n t' i ≡ cond (makes_test Cube n t i) (next_test Cube n t i + 1) (end_distance Cube n)
  unfolding next_after
  next-is = heads.next

  undue-passed : (m k : ℕ) → next_distance n t i ≤ k → k < m → m < next_distance n t' i → due (row n t i) i k ≡ false
  undue-passed m k lo l below =
      by_bool (makes_test Cube n t i)
      (λ e. sym (undue-at (row n t i) i k) ∙ not-due-before Cube n t i k lo (omega (arith, rw e at next-is)))
      (λ e. sym (undue-at (row n t i) i k) ∙ none-due Cube n t i e high k lo (omega (arith, rw e at next-is)))

  tested-passed : (m : ℕ) → next_distance n t i ≤ m → m < next_distance n t' i → due (row n t i) i m ≡ true
      → Tested n L (Row n t i) (Row n t (station_at i m)) t' i (station_at i m)
  tested-passed m lo below is_due =
      by_bool (makes_test Cube n t i)
      (λ e.
      by_cases (dec_lt m (next_test Cube n t i))
      (λ l. absurd (true≢false (sym is_due ∙ (sym (undue-at (row n t i) i m) ∙ not-due-before Cube n t i m lo l))))
      (λ l.
      let last : m ≡ next_test Cube n t i = omega (arith, rw e at next-is) in
      rw last (rw (cube-station Cube n i (next_test Cube n t i) refl) at (turned.tests e))))
      (λ e. absurd (true≢false (sym is_due ∙ (sym (undue-at (row n t i) i m)
      ∙ none-due Cube n t i e high m lo (omega (arith, rw e at next-is))))))

-- a turn of a live station keeps it
module _ (n : ℕ) (L : ℕ → Bool) (t₀ t' : List ℕ) (cur : List Taken) (s : State) (e : Entry) (inv : InRound Cube n L t₀ cur s.table)
    (turn : TurnTaken Cube n L s e t') (know : Knows n L t₀ s.table) where
  abbrev t : List ℕ
  t = s.table

  abbrev i : ℕ
  i = e.station

  high : next_distance n t i ≤ end_distance Cube n
  high = (inv.plain.lines.1 i turn.below).pass.next_high

  -- at a distance that the turn passes
  newly-met : (h x : ℕ) → x < n → next_distance n t i ≤ bit_xor i x → bit_xor i x < next_distance n t' i → Asks n L t₀ i h x
      → Tested n L (InPassOf n L t₀ i h) (Row n t₀ x) t' i x
  newly-met h x hx lo passed asks =
      let is_due = due-now n t h x i inv.plain.lines turn.below hx asks.0 (λ y a. now y (asks.1 y a)) in
      tested-more n L t' t' i x turn.below hx (λ k y a b s. s) (λ j a known. now j known a) (λ j a s. inv.grown x j hx a s)
      (rw xor-cancel at (tested-passed n L t t' i turn.outcome turn.kept turn.heads high (bit_xor i x) lo passed is_due))
    where
      undue : (m : ℕ) → next_distance n t i ≤ m → m < bit_xor i x → due (row n t i) i m ≡ false
      undue m a b = undue-passed n L t t' i turn.outcome turn.kept turn.heads high (bit_xor i x) m a b passed

      now : (j : ℕ) → InPassOf n L t₀ i h j → RowOf n t i j
      now j =
          known-now n L t₀ t cur inv know i turn.below turn.is_live (bit_xor i x) undue h j
          (λ y l b. omega (arith, (member-distance h x i).0 asks.0, xor_comm i x))

  own-met : Met n L t₀ t' i (next_distance n t' i)
  own-met h x hx passed asks =
      by_cases (dec_lt (bit_xor i x) (next_distance n t i))
      (λ l. met-later n L t₀ t t' i _ turn.kept.grows turn.below (know.met i turn.below turn.is_live) h x hx l asks)
      (λ l. newly-met h x hx (omega arith) passed asks)

  -- in an exact round: t is exact as t₀ was
  own-counted : Exact n L t₀ → tests_made n t' i ≡ sum_below (λ m. bit (leads_at n L i m)) (next_distance n t' i)
  own-counted exact =
      let exact_now : Exact n L t = λ k j g c q f. inv.grown k j g c (exact k j g c q f) in
      let dues : (a : ℕ) → sum_below (λ m. bit (due (row n t i) i m)) a ≡ sum_below (λ m. bit (leads_at n L i m)) a =
      λ a. sum_by a (λ m l. ap bit (exact-due n L t inv.plain exact_now i m turn.below turn.is_live)) in
      let passed = passed-dues n t t' i turn.outcome turn.heads high in
      omega (arith, turn.heads.tests, know.counted exact i turn.below, passed, dues (next_distance n t i), dues (next_distance n t' i))

  pub turn-knows : Knows n L t₀ t'
  turn-knows = record {
    met = λ k hk l. by_cases (ℕ_discrete k i) (λ q. rw q own-met)
        (λ q.
        let next = turn.heads.others k next_column q (omega arith) in
        rw next (met-later n L t₀ t t' k _ turn.kept.grows hk (know.met k hk l)));
    counted = λ exact k h. by_cases (ℕ_discrete k i) (λ q. rw q (own-counted exact))
        (λ q.
        let tests = turn.heads.others k tests_column q (omega arith) in
        let next = turn.heads.others k next_column q (omega arith) in
        rw (tests, next) (know.counted exact k h));
  }

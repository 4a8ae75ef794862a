-- What a turn does to status and rows, in a table in which no live board suspects a live one.
-- Assumes nothing.
use mathlib.Core.Path.{◌≡◌, refl, sym, ◌∙◌}
use mathlib.Core.Logic.{◌≢◌, by_cases}
use mathlib.Core.Bool.{Bool, true, false, cond, and-false, true≢false}
use mathlib.Core.List.{List}
use Prim.Native.Nat.{ℕ, ◌+◌, max, ◌≤◌, ◌<◌}
use native.Mathlib.Decide.{ℕ_discrete}
use native.Mathlib.Omega.{arith}
use borrow.Author.Tests.{eq-eqb, ne_eqb}
use lib.ListN.{length}
use Rattle.station.specs.Wired.{wired_station}
use Rattle.table.specs.Table.{head, stride, table_length, cell, status_column, status, finished, suspects, live}
use Rattle.station.proofs.WiredLaws.{station-apart}
use Rattle.lists.proofs.SearchLaws.{every-not}
use Rattle.plant.specs.Turn.{outcome_at, kind_turn, next_test, makes_test, finish_pass, count_test, replies, is_told, exchange_rows, suspect}
use Rattle.plant.specs.Turn.{reply_outcome, test_outcome, after_outcome, after_test, self_or_suspected, is_alone, after_alone, testing, turn}
use Rattle.station.specs.Outcome.{outcome_exchanged, outcome_no_reply}
use Rattle.plant.proofs.StepCells.{finish_pass-other, count_test-other, suspect-same, suspect-other, exchange-other}
use Rattle.plant.proofs.StepCells.{exchange-tester, exchange-tested, exchange-tester-own, exchange-tested-own}
use Rattle.plant.proofs.StepLines.{Lines, finish_pass-lines, count_test-lines, suspect-lines, exchange-lines}
use Rattle.plant.proofs.NextTest.{next_test-low, test_below, test-station}
use Rattle.lists.proofs.BoolLaws.{by_bool}
use Rattle.table.proofs.CellLaws.{TurnCounts, ClosingChanges}
use Rattle.table.specs.declared.wiring.Wiring.{Wiring}

-- a table that obeys the line rules, with live set L, in which no live station suspects a live one
pub record Plain (w : Wiring) (n : ℕ) (L : ℕ → Bool) (t : List ℕ) : Type 0 where
  pub lines : Lines w n t
  pub lives : (i : ℕ) → i < n → live n t i ≡ L i
  pub accurate : (i j : ℕ) → i < n → j < n → L i ≡ true → L j ≡ true → suspects n t i j ≡ 0

-- each live station has another live one
abbrev pub Company : ℕ → (ℕ → Bool) → Type 0
Company n L = (i : ℕ) → i < n → L i ≡ true → (j : ℕ) × (j < n) × (i ≢ j) × (L j ≡ true)

-- rows only grow
abbrev pub Grown : ℕ → List ℕ → List ℕ → Type 0
Grown n t t' = (k y : ℕ) → k < n → y < n → suspects n t k y ≡ 1 → suspects n t' k y ≡ 1

-- station x, tested by i, which had `mine` where x had `its`: if x is not live, i suspects it at t; if it is live, each has at t what the
-- other had
pub record Tested (n : ℕ) (L : ℕ → Bool) (mine its : ℕ → Type 0) (t : List ℕ) (i x : ℕ) : Type 0 where
  pub finds : L x ≡ false → suspects n t i x ≡ 1
  pub tells : L x ≡ true → (j : ℕ) → j < n → mine j → suspects n t x j ≡ 1
  pub hears : L x ≡ true → (j : ℕ) → j < n → its j → suspects n t i j ≡ 1

-- each live station suspects each station that is not live
abbrev pub Exact : ℕ → (ℕ → Bool) → List ℕ → Type 0
Exact n L t = (i j : ℕ) → i < n → j < n → L i ≡ true → L j ≡ false → suspects n t i j ≡ 1

-- what i suspects
abbrev pub Row : ℕ → List ℕ → ℕ → ℕ → Type 0
Row n t i j = suspects n t i j ≡ 1

-- where they had less, and in a later table
pub tested-more : (n : ℕ) (L : ℕ → Bool) {mine its mine' its' : ℕ → Type 0} (t t' : List ℕ) (i x : ℕ) → i < n → x < n → Grown n t t'
    → ((j : ℕ) → j < n → mine' j → mine j) → ((j : ℕ) → j < n → its' j → its j) → Tested n L mine its t i x → Tested n L mine' its' t' i x
tested-more n L t t' i x hi hx grows m s w = record {
  finds = λ e. grows i x hi hx (w.finds e);
  tells = λ e j h k. grows x j hx h (w.tells e j h (m j h k));
  hears = λ e j h k. grows i j hi h (w.hears e j h (s j h k));
}

-- a table with other bytes only where a turn counts or closing a round changes them
pub same_rows : (w : Wiring) (n : ℕ) (L : ℕ → Bool) (t t' : List ℕ) → Lines w n t'
    → ((k c : ℕ) → c < stride n → ¬ (TurnCounts c) → ¬ (ClosingChanges c) → cell n t' k c ≡ cell n t k c)
    → Plain w n L t → Plain w n L t' × Grown n t t'
same_rows w n L t t' lines same p = (
  record {
    lines = lines;
    lives = λ i h. rw (same i status_column (omega arith) (λ p. omega arith) (λ p. omega arith)) (p.lives i h);
    accurate = λ i j h g a b. same i (head + j) (omega arith) (λ p. omega arith) (λ p. omega arith) ∙ p.accurate i j h g a b;
  },
  λ k y hk hy s. same k (head + y) (omega arith) (λ p. omega arith) (λ p. omega arith) ∙ s,
)

-- where two rows are exchanged, a byte of a row grows by the bytes of the two at most
module _ (n : ℕ) (t : List ℕ) (i x : ℕ) (long : length t ≡ table_length n) (hi : i < n) (hx : x < n) (apart : i ≢ x) where
  abbrev t' : List ℕ
  t' = exchange_rows n t i x

  between : (k y : ℕ) → y < n → Dec (i ≡ k) → Dec (x ≡ k) → Dec (y ≡ k)
      → (suspects n t k y ≤ suspects n t' k y) × (suspects n t' k y ≤ max (suspects n t k y) (max (suspects n t i y) (suspects n t x y)))
  between k y h (yes e) f (yes g) = rw (g, ← e) (omega (arith, exchange-tester-own n t i long hi x hx apart))
  between k y h (yes e) f (no g) = rw (← e) (omega (arith, exchange-tester n t i long hi x hx apart y h (λ q. g (q ∙ e))))
  between k y h (no e) (yes f) (yes g) = rw (g, ← f) (omega (arith, exchange-tested-own n t i long hi x hx apart))
  between k y h (no e) (yes f) (no g) = rw (← f) (omega (arith, exchange-tested n t i long hi x hx apart y h (λ q. g (q ∙ f))))
  between k y h (no e) (no f) g =
      omega (arith, exchange-other n t i long hi x hx apart k (head + y) (omega arith) (λ q. absurd (e q)) (λ q. absurd (f q)))

  pub exchange-between : (k y : ℕ) → y < n
      → (suspects n t k y ≤ suspects n t' k y) × (suspects n t' k y ≤ max (suspects n t k y) (max (suspects n t i y) (suspects n t x y)))
  exchange-between k y h = between k y h (ℕ_discrete i k) (ℕ_discrete x k) (ℕ_discrete y k)

-- the test of x by the live i
module _ (w : Wiring) (n : ℕ) (L : ℕ → Bool) (t : List ℕ) (i x : ℕ) (p : Plain w n L t) (hi : i < n) (hx : x < n) (apart : i ≢ x)
    (li : L i ≡ true) where
  long : length t ≡ table_length n
  long = p.lines.0

  abbrev Step : List ℕ → Type 0
  Step t' = Plain w n L t' × Grown n t t' × Tested n L (Row n t i) (Row n t x) t' i x

  -- what is to be shown of byte y of the row of k
  abbrev Byte : List ℕ → ℕ → ℕ → Type 0
  Byte t' k y = (suspects n t k y ≤ suspects n t' k y) × (L k ≡ true → L y ≡ true → suspects n t' k y ≡ 0)

  step : (t' : List ℕ) → Lines w n t' → ((k : ℕ) → status n t' k ≡ status n t k)
      → ((k y : ℕ) → k < n → y < n → Byte t' k y) → Tested n L (Row n t i) (Row n t x) t' i x → Step t'
  step t' lines same bytes done = (
    record { lines = lines; lives = λ k h. rw (same k) (p.lives k h); accurate = λ k y hk hy. (bytes k y hk hy).1 },
    λ k y hk hy s. omega (arith, (bytes k y hk hy).0, (lines.1 k hk).range y hy),
    done,
  )

  -- a station that is not live is marked
  marked : L x ≡ false → Step (suspect n t i x)
  marked f =
      step t' lines (λ k. suspect-other n t i long hi x k status_column (omega arith) (λ e. omega arith))
      (λ k y hk hy. by_cases (ℕ_discrete y x)
      (λ g. by_cases (ℕ_discrete i k)
      (λ e. rw (← e, g) (omega (arith, now, (p.lines.1 i hi).range x hx), λ a b. absurd (true≢false (sym b ∙ f))))
      (λ e. as_before k y hk hy (λ q. absurd (e q))))
      (λ g. as_before k y hk hy (λ q. g)))
      (record { finds = λ q. now; tells = λ q. absurd (true≢false (sym q ∙ f)); hears = λ q. absurd (true≢false (sym q ∙ f)) })
    where
      t' : List ℕ
      t' = suspect n t i x

      lines : Lines w n t'
      lines = suspect-lines w n t i p.lines hi x hx apart

      now : suspects n t' i x ≡ 1
      now = suspect-same n t i long hi x hx

      as_before : (k y : ℕ) → k < n → y < n → (i ≡ k → y ≢ x) → Byte t' k y
      as_before k y hk hy out =
          let e : suspects n t' k y ≡ suspects n t k y =
          suspect-other n t i long hi x k (head + y) (omega arith) (λ q r. out q (omega arith)) in
          (omega arith, λ a b. e ∙ p.accurate k y hk hy a b)

  -- two live stations exchange their rows
  exchanged : L x ≡ true → Step (exchange_rows n t i x)
  exchanged lx =
      step t' lines (λ k. exchange-other n t i long hi x hx apart k status_column (omega arith) (λ e. omega arith) (λ e. omega arith))
      (λ k y hk hy.
      let v = exchange-between n t i x long hi hx apart k y hy in
      (v.0, λ a b. omega (arith, v.1, p.accurate k y hk hy a b, p.accurate i y hi hy li b, p.accurate x y hx hy lx b))) (record {
        finds = λ q. absurd (true≢false (sym lx ∙ q));
        tells = λ q y hy s.
            let v = exchange-tested n t i long hi x hx apart y hy (λ e. omega (arith, rw e at s, p.accurate i x hi hx li lx)) in
            omega (arith, v, (lines.1 x hx).range y hy);
        hears = λ q y hy s.
            let v = exchange-tester n t i long hi x hx apart y hy (λ e. omega (arith, rw e at s, p.accurate x i hx hi lx li)) in
            omega (arith, v, (lines.1 i hi).range y hy);
      })
    where
      t' : List ℕ
      t' = exchange_rows n t i x

      lines : Lines w n t'
      lines = exchange-lines w n t i p.lines hi x hx apart

  -- neither of two live stations suspects the other: a test with a reply tells nobody
  pub none_told : L x ≡ true → reply_outcome n t i x ≡ outcome_exchanged
  unfolding reply_outcome is_told
  none_told e = rw (p.accurate x i hx hi e li, p.accurate i x hi hx li e)

  -- the outcome, where the reply of a live station is not late
  pub outcome-is : (kind : ℕ) → (L x ≡ true → kind ≡ kind_turn) → test_outcome n t kind i x ≡ cond (L x) outcome_exchanged outcome_no_reply
  unfolding test_outcome replies
  outcome-is kind prompt =
      by_bool (L x) (λ e. rw (p.lives x hx ∙ e, eq-eqb kind kind_turn (prompt e), none_told e, e)) (λ e. rw (p.lives x hx ∙ e, e))

  -- what comes of it
  pub outcome-effect : Step (after_outcome n t i x (cond (L x) outcome_exchanged outcome_no_reply))
  unfolding after_outcome
  outcome-effect = by_bool (L x) (λ e. rw e (exchanged e)) (λ e. rw e (marked e))

-- a turn of i, whatever the wiring, of whose test o is the outcome: where it makes a test, it tests the station there
pub record TurnKept (w : Wiring) (n : ℕ) (L : ℕ → Bool) (t t' : List ℕ) (i o : ℕ) : Type 0 where
  pub plain : Plain w n L t'
  pub grows : Grown n t t'
  pub outcome : makes_test w n t i ≡ true
      → o ≡ cond (L (wired_station w n i (next_test w n t i))) outcome_exchanged outcome_no_reply
  pub tests : makes_test w n t i ≡ true
      → Tested n L (Row n t i) (Row n t (wired_station w n i (next_test w n t i))) t' i (wired_station w n i (next_test w n t i))

-- a station with a live one beside it that it does not suspect is not alone
pub not-alone : (w : Wiring) (n : ℕ) (L : ℕ → Bool) (t : List ℕ) (i : ℕ) → Plain w n L t → Company n L → i < n → L i ≡ true → after_alone n t i ≡ t
unfolding after_alone is_alone self_or_suspected
not-alone w n L t i p company hi li =
    let o = company i hi li in
    let fails : self_or_suspected n t i o.0 ≡ false = rw (ne_eqb o.0 i (λ e. o.2 (sym e)), p.accurate i o.0 hi o.1 li o.3) in
    rw (every-not (self_or_suspected n t i) n o.0 o.1 fails, and-false)

-- a turn of a live station, where the reply of a live station is not late
pub turn-effect : (w : Wiring) (n : ℕ) (L : ℕ → Bool) (t : List ℕ) (kind i : ℕ) → Plain w n L t → Company n L → i < n → L i ≡ true
    → finished n t i ≡ 0
    → (makes_test w n t i ≡ true → L (wired_station w n i (next_test w n t i)) ≡ true → kind ≡ kind_turn)
    → TurnKept w n L t (turn w n t kind i) i (outcome_at w n t kind i (next_test w n t i))
unfolding turn testing after_test
turn-effect w n L t kind i p company hi li going prompt = by_bool (makes_test w n t i) makes (λ e. rw e (finishes e))
  where
    m : ℕ
    m = next_test w n t i

    o : ℕ
    o = outcome_at w n t kind i m

    finishes : makes_test w n t i ≡ false → TurnKept w n L t (finish_pass w n t i) i o
    finishes e =
        let lines = finish_pass-lines w n t i p.lines hi in
        let same =
        same_rows w n L t _ lines
        (λ k c h counts _. finish_pass-other n t i w k c h (λ _. (λ e. counts (omega arith), λ e. counts (omega arith)))) p in
        record { plain = same.0; grows = same.1; outcome = λ m. absurd (true≢false (sym m ∙ e)); tests = λ m. absurd (true≢false (sym m ∙ e)) }

    makes : makes_test w n t i ≡ true → TurnKept w n L t (turn w n t kind i) i o
    makes e =
        let x : ℕ = wired_station w n i m in
        let b : ℕ = cond (L x) outcome_exchanged outcome_no_reply in
        let t₁ : List ℕ = count_test w n t i m b in
        let m<n = test_below w n t i e in
        let low = next_test-low w n t i in
        let lines₁ = count_test-lines w n t i p.lines hi m b (λ f. omega arith) low m<n in
        let same =
        same_rows w n L t t₁ lines₁
        (λ k c h counts _. count_test-other n t i w m b k c h (λ _. (λ e. counts (omega arith), λ e. counts (omega arith)))) p in
        let apart = station-apart w n i m hi (omega (arith, (p.lines.1 i hi).pass.next_low)) m<n in
        let x<n = test-station w n t i e p.lines.0 hi in
        let is = outcome-is w n L t i x p hi x<n apart li kind (prompt e) in
        let done = outcome-effect w n L t₁ i x same.0 hi x<n apart li in
        let stays = not-alone w n L _ i done.0 company hi li in
        rw (e, is, stays) (record {
          plain = done.0;
          grows = λ k y hk hy s. done.1 k y hk hy (same.1 k y hk hy s);
          outcome = λ _. refl;
          tests = λ _. tested-more n L _ _ i _ hi x<n (λ k y a b s. s) (λ k a. same.1 i k hi a) (λ k a. same.1 _ k x<n a) done.2;
        })

-- One board crashes in a plant whose boards are all live: where the drive stands then, and when the board is known.
-- Assumes nothing.
use mathlib.Core.Path.{◌≡◌, refl, sym, ap, ◌∙◌}
use mathlib.Core.Logic.{◌≢◌, by_cases}
use mathlib.Core.Bool.{Bool, true, false, not, true≢false}
use mathlib.Core.List.{List}
use Prim.Native.Nat.{ℕ, ◌+◌, ◌≤◌, ◌<◌}
use native.Mathlib.Decide.{ℕ_discrete}
use native.Mathlib.Omega.{arith}
use borrow.Author.Tests.{eq-eqb, ne_eqb}
use lib.Dec.{eqb}
use lib.ListN.{get_or}
use lib.Seq.{ext_get_or}
use Rattle.lists.specs.Sums.{bit}
use Rattle.lists.proofs.BoolLaws.{by_bool}
use Rattle.lists.specs.Search.{list_of}
use Rattle.lists.proofs.SearchLaws.{both, list_of-length, list_of-at}
use Rattle.table.specs.Sizes.{is_size}
use Rattle.table.specs.Table.{head, stride, cell, status_column, next_column, finished_column, tests_column, finished, suspects, live, row}
use Rattle.table.specs.Table.{status_crashed}
use Rattle.table.specs.Rules.{not_live, round_over}
use Rattle.table.specs.Properties.{exact_row}
use Rattle.table.proofs.SizeLaws.{size-bounds}
use Rattle.table.proofs.CellLaws.{cell_same, cell_other, row-length, row_at, accepted-line}
use Rattle.table.specs.declared.wiring.Wiring.{Wiring}
use Rattle.plant.specs.Turn.{crash}
use Rattle.plant.specs.Round.{after_round}
use Rattle.plant.specs.Entry.{acted, after}
use Rattle.plant.proofs.RoundLaws.{Reset}
use Rattle.plant.proofs.StepLines.{leave-lines}
use Rattle.granter.specs.Grant.{waits, following}
use Rattle.granter.specs.Drive.{Stand}
use Rattle.granter.proofs.GrantLaws.{grantable}
use Rattle.detection.proofs.TurnEffect.{Plain, Exact}
use Rattle.detection.proofs.RoundKnowledge.{all-finished}
use Rattle.detection.proofs.DetectionClaim.{first_round}
use Rattle.single_crash.specs.Sweeps.{turns_made}
use Rattle.single_crash.specs.Setting.{Sound, crash_at, KnownDead}
use Rattle.single_crash.proofs.Sweeps.{sweep-fewer}
use Rattle.single_crash.proofs.Running.{Crew, Running, Closed, WentOn, begin, closing, SamePass}

-- every board, and every board but b
abbrev pub everyone : ℕ → Bool
everyone i = true

abbrev pub all_but : ℕ → ℕ → Bool
all_but b i = not (eqb i b)

pub other-lives : (b i : ℕ) → i ≢ b → all_but b i ≡ true
other-lives b i d = rw (ne_eqb i b d) refl

pub but-dead : (b : ℕ) → all_but b b ≡ false
but-dead b = rw (eq-eqb b b refl) refl

pub but-apart : (b i : ℕ) → all_but b i ≡ true → i ≢ b
but-apart b i l e = true≢false (sym l ∙ rw e (but-dead b))

everyone-crew : (w : Wiring) (n : ℕ) → is_size n ≡ true → Crew w n everyone
everyone-crew w n size =
    let two = (size-bounds n size).0 in
    record {
      size = size;
      company = λ i h l. by_cases (ℕ_discrete i 0) (λ e. (1, omega arith, omega arith, refl)) (λ d. (0, omega arith, d, refl));
      someone = (0, omega arith, refl);
    }

pub others-crew : (w : Wiring) (n b : ℕ) → is_size n ≡ true → 3 ≤ n → Crew w n (all_but b)
others-crew w n b size three = record {
  size = size;
  company = λ i h l. third i;
  someone = let z = third b in (z.0, z.1, z.3);
}
  where
    Third : ℕ → Type 0
    Third i = (j : ℕ) × (j < n) × (i ≢ j) × (all_but b j ≡ true)

    at : (i j : ℕ) → j < n → i ≢ j → b ≢ j → Third i
    at i j h d e = (j, h, d, rw (ne_eqb j b (λ q. e (sym q))) refl)

    -- some board is neither i nor b
    third : (i : ℕ) → Third i
    third i =
        by_cases (ℕ_discrete i 0)
        (λ e. by_cases (ℕ_discrete b 1) (λ f. at i 2 (omega arith) (omega arith) (omega arith)) (λ f. at i 1 (omega arith) (omega arith) f))
        (λ d. by_cases (ℕ_discrete b 0)
        (λ f. by_cases (ℕ_discrete i 1) (λ e. at i 2 (omega arith) (omega arith) (omega arith)) (λ e. at i 1 (omega arith) e (omega arith)))
        (λ f. at i 0 (omega arith) d f))

-- a sound plant
pub sound-fresh : {w : Wiring} {n : ℕ} {p : Stand} → Sound w n p → (i : ℕ) → i < n → Reset n p.state.table i
sound-fresh {w = w} {n = n} {p = p} given =
    (first_round w n p.state.table (grantable w n p.state.table p.last given.granted).ok given.start (λ i j h k a c. given.nobody i j h k)).fresh

pub sound-run : {w : Wiring} {n : ℕ} {p : Stand} → Sound w n p → Running w n everyone (following p.last) p
sound-run {w = w} {n = n} {p = p} given =
    let g = grantable w n p.state.table p.last given.granted in
    begin (everyone-crew w n g.ok.size) p (record {
      lines = (g.ok.long, accepted-line w n p.state.table g.ok);
      lives = given.all_live;
      accurate = λ i j h k a c. given.nobody i j h k;
    }) (sound-fresh given) g.last_fits

-- b crashes in a plant whose boards are all live, and in which nobody suspects anybody
module _ {w : Wiring} {n : ℕ} (b : ℕ) {begins : ℕ} {q : Stand} (crew : Crew w n (all_but b)) (hb : b < n) (r : Running w n everyone begins q) where
  abbrev t : List ℕ
  t = q.state.table

  abbrev t' : List ℕ
  t' = crash n t b

  same : (k c : ℕ) → c < stride n → (b ≡ k → c ≢ status_column) → cell n t' k c ≡ cell n t k c
  unfolding crash
  same k c h out = cell_other n t b status_column status_crashed k c (omega arith) h (λ e f. out e (sym f))

  gone : live n t' b ≡ false
  unfolding crash
  gone = rw (cell_same n t b status_column status_crashed r.plain.lines.0 hb (omega arith)) refl

  crashed-lives : (i : ℕ) → i < n → live n t' i ≡ all_but b i
  crashed-lives i h =
      by_cases (ℕ_discrete i b) (λ e. rw (e, eq-eqb b b refl) gone)
      (λ d. rw (ne_eqb i b d, same i status_column (omega arith) (λ e. absurd (d (sym e)))) (r.plain.lives i h))

  pub crash-plain : Plain w n (all_but b) t'
  unfolding crash
  crash-plain = record {
    lines = leave-lines w n t b r.plain.lines hb (r.plain.lives b hb) status_crashed (omega arith) (omega arith) (omega arith);
    lives = crashed-lives;
    accurate = λ i j h g x y. same i (head + j) (omega arith) (λ e. omega arith) ∙ r.plain.accurate i j h g refl refl;
  }

  -- columns of the pass stay
  pub crash-same : (k c : ℕ) → 1 ≤ c → c < stride n → cell n t' k c ≡ cell n t k c
  crash-same k c lo h = same k c h (λ e. omega arith)

  pub crash-pass : (i : ℕ) → SamePass n t t' i
  crash-pass i = record {
    next = crash-same i next_column (omega arith) (omega arith);
    made = crash-same i tests_column (omega arith) (omega arith);
    done = crash-same i finished_column (omega arith) (omega arith);
  }

  -- who waits then waited before
  crash-waited : (i : ℕ) → i < n → waits n t' i ≡ true → waits n t i ≡ true
  unfolding waits
  crash-waited i h e =
      let done = (both (live n t' i) (not (eqb (finished n t' i) 1)) e).1 in
      rw (r.plain.lives i h, ← (crash-pass i).done) done

  abbrev q' : Stand
  q' = crash_at w n q b

  pub crash-closes : round_over n t' ≡ true → Closed w n (all_but b) t' q.last q q'
  unfolding crash_at after acted after_round
  crash-closes over = rw over (closing crew t' crash-plain q _ q.last r.last_fits)

  pub crash-goes_on : round_over n t' ≡ false → WentOn w n (all_but b) t' begins q q'
  unfolding crash_at after acted after_round
  crash-goes_on unclosed =
      rw unclosed (record {
        table = refl;
        rounds = refl;
        running = record {
          crew = crew;
          plain = crash-plain;
          unclosed = unclosed;
          last_fits = r.last_fits;
          fits = r.fits;
          sweep =
              sweep-fewer n begins (waits n t) (waits n t') (turns_made n t) (turns_made n t') q.last crash-waited
              (λ i h. omega (arith, (crash-pass i).done, (crash-pass i).made))
              r.sweep;
        };
      })

  pub crash-runs : (c : ℕ) × Running w n (all_but b) c q'
  crash-runs =
      by_bool (round_over n t') (λ over. (_, (crash-closes over).running)) (λ unclosed. (_, (crash-goes_on unclosed).running))

  -- where another board has not finished the round does not close with it
  pub stays-open : (i : ℕ) → i < n → i ≢ b → finished n t i ≢ 1 → round_over n t' ≡ false
  stays-open i h d f =
      by_bool (round_over n t')
      (λ over.
      let ended = all-finished w n (all_but b) t' crash-plain over i h (other-lives b i d) in
      absurd (f (sym (crash-pass i).done ∙ ended)))
      (λ unclosed. unclosed)

  -- it makes no turn
  pub crash-turns : round_over n t' ≡ false → (i : ℕ) → turns_made n q'.state.table i ≡ turns_made n t i
  crash-turns unclosed i = rw (crash-goes_on unclosed).table (omega (arith, (crash-pass i).done, (crash-pass i).made))

-- where every live board suspects every dead one, b is known
pub known-dead : (w : Wiring) (n b : ℕ) (t : List ℕ) → Plain w n (all_but b) t → Exact n (all_but b) t → KnownDead n t b
unfolding exact_row
known-dead w n b t p exact = record {
  others_live = p.lives;
  exact = λ i h l.
      let others : ℕ → ℕ = λ j. bit (not_live n t j) in
      let mine : all_but b i ≡ true = sym (p.lives i h) ∙ l in
      let byte : (k : ℕ) → k < n → suspects n t i k ≡ others k =
      λ k g. by_bool (all_but b k) (λ e. rw (p.lives k g, e) (p.accurate i k h g mine e)) (λ e. rw (p.lives k g, e) (exact i k h g mine e)) in
      let long = row-length n t i p.lines.0 h in
      ext_get_or 0 (row n t i) _ (long ∙ sym (list_of-length others n))
      (λ k l. let g : k < n = omega arith in row_at n t i k g ∙ (byte k g ∙ sym (list_of-at others n k g)));
}

-- and where one does not suspect b, b is not
pub not-known : (n i b : ℕ) (t : List ℕ) → i < n → b < n → i ≢ b → suspects n t i b ≡ 0 → ¬ (KnownDead n t b)
unfolding exact_row
not-known n i b t hi hb apart unaware known =
    let exact : ℕ → ℕ = λ j. bit (not_live n t j) in
    let mine : live n t i ≡ true = known.others_live i hi ∙ other-lives b i apart in
    let dead : not_live n t b ≡ true = rw (known.others_live b hb, but-dead b) refl in
    let row = ap (λ (r : List ℕ). get_or r b 0) (known.exact i hi mine) in
    let one : get_or (list_of exact n) b 0 ≡ 1 = list_of-at exact n b hb ∙ ap bit dead in
    omega (arith, unaware, row_at n t i b hb, row, one)

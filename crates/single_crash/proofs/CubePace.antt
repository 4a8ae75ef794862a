-- On the cube of 2^d boards: a board whose row suspects at most one board, and not the one beside it, makes its test of level t as its t-th.
-- Assumes nothing.
use mathlib.Core.Path.{◌≡◌, refl, sym, ◌∙◌}
use mathlib.Core.Logic.{◌≢◌, by_cases}
use mathlib.Core.Bool.{Bool, true, false, true≢false}
use mathlib.Core.List.{List}
use Prim.Native.Nat.{ℕ, suc, ◌+◌, ◌-◌, ◌^◌, ◌≤◌, ◌<◌}
use native.Mathlib.Decide.{ℕ_discrete, dec_lt}
use native.Mathlib.Numerals.{add-one}
use native.Mathlib.Omega.{arith}
use borrow.Author.Tests.{eq-eqb, lt-ltb, le-ltb}
use lib.Bits.{xor_lt}
use lib.Pow.{pow_pos, pow_mono}
use Rattle.lists.proofs.BoolLaws.{by_bool}
use Rattle.lists.proofs.SearchLaws.{least-is}
use Rattle.table.specs.Sizes.{is_size}
use Rattle.table.specs.Wiring.{end_distance}
use Rattle.table.proofs.SizeLaws.{size-distances, distances-le}
use Rattle.table.proofs.WiringLaws.{end-cube}
use Rattle.table.specs.Table.{next_distance, finished, tests_made, suspects, row}
use Rattle.table.proofs.CellLaws.{row-length}
use Rattle.table.specs.declared.wiring.Wiring.TheVariants.{Cube}
use Rattle.station.specs.Groups.{station_at}
use Rattle.station.specs.Tests.{due}
use Rattle.station.specs.Wired.{next_after}
use Rattle.plant.specs.Turn.{next_test, makes_test}
use Rattle.plant.proofs.NextTest.{cube-next}
use Rattle.plant.proofs.RoundLaws.{Reset}
use Rattle.plant.proofs.StepLines.{Lines}
use Rattle.plant.proofs.TurnHeads.{Heads}
use Rattle.detection.proofs.TestsDue.{row-unsuspected}
use Rattle.detection.proofs.TurnEffect.{Plain}
use Rattle.single_crash.proofs.Running.{SamePass}
use Rattle.single_crash.proofs.CubeDue.{pace, pace_zero, pace_suc, Few, next-level, next-none, next-first}

-- a size of 2^d boards, 4 at least
pub record Cubic (n d : ℕ) : Type 0 where
  pub size : is_size n ≡ true
  pub power : n ≡ 2 ^ d
  pub levels : 2 ≤ d

-- its end distance
end-power : {n d : ℕ} → Cubic n d → end_distance Cube n ≡ 2 ^ d
end-power {n = n} {d = d} c =
    let most = distances-le d n (omega (arith, c.power)) in
    end-cube n ∙ omega (arith, (size-distances n c.size).0, c.power, most)

-- a row that suspects nobody suspects at most an absent board, which is beside nobody
pub few-none : {n d : ℕ} → Cubic n d → (t : List ℕ) → Lines Cube n t → (i : ℕ) → i < n → ((x : ℕ) → x < n → suspects n t i x ≡ 0)
    → Few d (row n t i) i n
few-none {n = n} {d = d} c t lines i hi none = record {
  long = row-length n t i lines.0 hi ∙ c.power;
  here = omega (arith, c.power);
  apart = omega arith;
  clear = λ x h q.
      let hx : x < n = omega (arith, c.power) in
      row-unsuspected n t i x lines.0 hi hx ∙ eq-eqb (suspects n t i x) 0 (none x hx);
}

pub beside-none : {n d : ℕ} → Cubic n d → (i : ℕ) → i < n → station_at i 1 ≢ n
beside-none {d = d} c i hi e =
    omega (arith, e, c.power, xor_lt d i 1 (omega (arith, c.power)) (omega (arith, pow_mono {i = 1} {j = d} (omega (arith, c.levels)))))

-- where all but b are live and no live board suspects a live one, rows suspect b at most
pub few-but : {n d : ℕ} (b : ℕ) {L : ℕ → Bool} {t : List ℕ} → Cubic n d → ((x : ℕ) → x < n → x ≢ b → L x ≡ true) → Plain Cube n L t
    → (i : ℕ) → i < n → i ≢ b → Few d (row n t i) i b
few-but {n = n} {d = d} b {t = t} c others p i hi apart = record {
  long = row-length n t i p.lines.0 hi ∙ c.power;
  here = omega (arith, c.power);
  apart = apart;
  clear = λ x h q.
      let hx : x < n = omega (arith, c.power) in
      row-unsuspected n t i x p.lines.0 hi hx ∙ eq-eqb (suspects n t i x) 0 (p.accurate i x hi hx (others i hi apart) (others x hx q));
}

-- board i has made a test at each level up to its next distance, and once it has finished one at each of d levels
pub record OnPace (n d : ℕ) (t : List ℕ) (i : ℕ) : Type 0 where
  pub going : finished n t i ≡ 0 → (tests_made n t i ≤ d) × (next_distance n t i ≡ pace (tests_made n t i))
  pub ended : finished n t i ≡ 1 → tests_made n t i ≡ d

-- in any case its first test is at distance 1
pub record Begins (n : ℕ) (t : List ℕ) (i : ℕ) : Type 0 where
  pub first : finished n t i ≡ 0 → tests_made n t i ≡ 0 → next_distance n t i ≡ 1
  pub some : finished n t i ≡ 1 → 1 ≤ tests_made n t i

-- where b is dead the board beside it may fall behind
pub record Paced (n d b : ℕ) (t : List ℕ) (i : ℕ) : Type 0 where
  pub far : station_at i 1 ≢ b → OnPace n d t i
  pub begins : Begins n t i

pace-begins : {n d : ℕ} {t : List ℕ} {i : ℕ} → Cubic n d → OnPace n d t i → Begins n t i
pace-begins c p = record { first = λ f z. rw z at (p.going f).1 ∙ pace_zero; some = λ f. omega (arith, p.ended f, c.levels) }

pub pace-paced : {n d : ℕ} (b : ℕ) {t : List ℕ} {i : ℕ} → Cubic n d → OnPace n d t i → Paced n d b t i
pace-paced b c p = record { far = λ _. p; begins = pace-begins c p }

-- at the start of a round
pub pace-start : {n : ℕ} (d : ℕ) {t : List ℕ} {i : ℕ} → Reset n t i → OnPace n d t i
pace-start d r = record {
  going = λ f. (omega (arith, r.untested), rw r.untested (r.next ∙ sym pace_zero));
  ended = λ f. absurd (omega (arith, r.unfinished));
}

-- a line of which no such byte changes
pub pace-same : {n d : ℕ} {t t' : List ℕ} {i : ℕ} → SamePass n t t' i → OnPace n d t i → OnPace n d t' i
pace-same s p = record { going = rw (s.done, s.made, s.next) p.going; ended = rw (s.done, s.made) p.ended }

pub paced-same : {n d b : ℕ} {t t' : List ℕ} {i : ℕ} → SamePass n t t' i → Paced n d b t i → Paced n d b t' i
paced-same s p = record {
  far = λ far. pace-same s (p.far far);
  begins = record { first = rw (s.done, s.made, s.next) p.begins.first; some = rw (s.done, s.made) p.begins.some };
}

-- the own turn of board i, which suspects board z at most
module _ {n d : ℕ} (c : Cubic n d) (t : List ℕ) (i z : ℕ) (few : Few d (row n t i) i z) where
  end : end_distance Cube n ≡ 2 ^ d
  end = end-power c

  -- the next test of a board that has made τ tests
  test-at : (τ : ℕ) → τ < d → station_at i 1 ≢ z → next_distance n t i ≡ pace τ → next_test Cube n t i ≡ 2 ^ τ
  test-at τ l far e = cube-next Cube n t i refl ∙ rw (end, e) (next-level d (row n t i) i z few τ l far)

  none-at : station_at i 1 ≢ z → next_distance n t i ≡ pace d → next_test Cube n t i ≡ 2 ^ d
  none-at far e = cube-next Cube n t i refl ∙ rw (end, e) (next-none d (row n t i) i z few far)

  first-at : next_distance n t i ≡ 1 → next_test Cube n t i ≡ 1
  first-at e = cube-next Cube n t i refl ∙ rw (end, e) (next-first d (row n t i) i z few (omega (arith, c.levels)))

  makes : next_test Cube n t i < 2 ^ d → makes_test Cube n t i ≡ true
  unfolding makes_test
  makes l = rw end (lt-ltb (next_test Cube n t i) (2 ^ d) l)

  makes-none : next_test Cube n t i ≡ 2 ^ d → makes_test Cube n t i ≡ false
  unfolding makes_test
  makes-none e = rw (end, e) (le-ltb (2 ^ d) (2 ^ d) (omega arith))

  -- where its next distance is due it tests there
  pub due-now : (m : ℕ) → next_distance n t i ≡ m → m < 2 ^ d → due (row n t i) i m ≡ true
      → (makes_test Cube n t i ≡ true) × (next_test Cube n t i ≡ m)
  due-now m e l is_due =
      let at : next_test Cube n t i ≡ m =
      cube-next Cube n t i refl
      ∙ rw (end, e) (least-is (due (row n t i) i) (2 ^ d - m) m m (omega arith) (omega arith) is_due (λ y lo hi. absurd (omega arith))) in
      (makes (omega (arith, at)), at)

  module _ (unfinished : finished n t i ≡ 0) where
    -- a test of a board that is on pace
    pub pace-test : station_at i 1 ≢ z → OnPace n d t i → makes_test Cube n t i ≡ true
        → (tests_made n t i < d) × (next_test Cube n t i ≡ 2 ^ tests_made n t i)
    pace-test far paced e =
        let g = paced.going unfinished in
        by_cases (dec_lt (tests_made n t i) d) (λ l. (l, test-at (tests_made n t i) l far g.1))
        (λ l.
        let last : tests_made n t i ≡ d = omega (arith, g.0) in
        absurd (true≢false (sym e ∙ makes-none (none-at far (rw last at g.1)))))

    -- where it makes none it has made all
    pace-end : station_at i 1 ≢ z → OnPace n d t i → makes_test Cube n t i ≡ false → tests_made n t i ≡ d
    pace-end far paced e =
        let g = paced.going unfinished in
        by_cases (dec_lt (tests_made n t i) d)
        (λ l.
        let next = test-at (tests_made n t i) l far g.1 in
        absurd (true≢false (sym (makes (omega (arith, next, pow_mono {i = suc (tests_made n t i)} {j = d} l, pow_pos (tests_made n t i)))) ∙ e)))
        (λ l. omega (arith, g.0))

    -- its first test
    pub first-test : Begins n t i → tests_made n t i ≡ 0 → next_test Cube n t i ≡ 1
    first-test b z = first-at (b.first unfinished z)

    first-made : Begins n t i → makes_test Cube n t i ≡ false → 1 ≤ tests_made n t i
    first-made b e =
        by_cases (ℕ_discrete (tests_made n t i) 0)
        (λ z.
        let next = first-test b z in
        absurd (true≢false (sym (makes (omega (arith, next, pow_mono {i = 1} {j = d} (omega (arith, c.levels))))) ∙ e)))
        (λ z. omega arith)

    module _ (t' : List ℕ) (o : ℕ) (heads : Heads Cube n t t' i o (makes_test Cube n t i)) where
      -- what its turn makes of the bytes of its pass
      made : makes_test Cube n t i ≡ true
          → (tests_made n t' i ≡ suc (tests_made n t i)) × (finished n t' i ≡ 0) × (next_distance n t' i ≡ next_test Cube n t i + 1)
      unfolding next_after
      made e = (rw e at heads.tests ∙ add-one (tests_made n t i), rw e at heads.finish ∙ unfinished, rw e at heads.next)

      none : makes_test Cube n t i ≡ false → (tests_made n t' i ≡ tests_made n t i) × (finished n t' i ≡ 1)
      none e = (omega (arith, rw e at heads.tests), rw e at heads.finish)

      pub pace-own : station_at i 1 ≢ z → OnPace n d t i → OnPace n d t' i
      pace-own far paced =
          by_bool (makes_test Cube n t i)
          (λ e.
          let m = made e in
          let at = pace-test far paced e in
          record {
            going = λ f. (omega (arith, m.0, at.0), rw m.0 (m.2 ∙ (rw at.1 (pace_suc (tests_made n t i)))));
            ended = λ f. absurd (omega (arith, m.1));
          })
          (λ e. let m = none e in record { going = λ f. absurd (omega (arith, m.1)); ended = λ f. m.0 ∙ pace-end far paced e })

      begins-own : Begins n t i → Begins n t' i
      begins-own b =
          by_bool (makes_test Cube n t i)
          (λ e. let m = made e in record { first = λ f z. absurd (omega (arith, m.0)); some = λ f. absurd (omega (arith, m.1)) })
          (λ e. let m = none e in record { first = λ f z. absurd (omega (arith, m.1)); some = λ f. omega (arith, m.0, first-made b e) })

      pub paced-own : Paced n d z t i → Paced n d z t' i
      paced-own p = record { far = λ far. pace-own far (p.far far); begins = begins-own p.begins }

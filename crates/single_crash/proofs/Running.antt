-- A plant under the bus master in which no live board suspects a live one: what a grant with its turn does, and a crash, whatever the wiring.
-- Assumes nothing.
use mathlib.Core.Path.{◌≡◌, refl, sym, ◌∙◌}
use mathlib.Core.Logic.{◌≢◌}
use mathlib.Core.Bool.{Bool, true, false}
use mathlib.Core.List.{List}
use Prim.Native.Nat.{ℕ, zero, suc, ◌+◌, ◌≤◌, ◌<◌}
use native.Mathlib.Numerals.{add-one}
use native.Mathlib.Omega.{arith}
use Rattle.lists.specs.Sums.{sum_below}
use Rattle.lists.proofs.BoolLaws.{by_bool}
use Rattle.lists.proofs.SearchLaws.{every-all, every-not}
use Rattle.table.specs.Sizes.{is_size}
use Rattle.table.specs.Table.{next_column, finished_column, tests_column, next_distance, finished, tests_made, suspects}
use Rattle.table.specs.Rules.{line_rules, not_live, some_live, round_over}
use Rattle.table.proofs.SizeLaws.{size-bounds}
use Rattle.table.proofs.Accepting.{Accepted}
use Rattle.table.proofs.CellLaws.{line-holds}
use Rattle.table.specs.declared.wiring.Wiring.{Wiring}
use Rattle.station.specs.Wired.{wired_station}
use Rattle.plant.specs.Turn.{kind_turn, next_test, makes_test}
use Rattle.plant.specs.Round.{reset_lines, after_round}
use Rattle.plant.specs.Entry.{state_of, acted, after}
use Rattle.plant.proofs.RulesKept.{unfinished-open}
use Rattle.plant.proofs.RoundLaws.{Reset, reset-cells}
use Rattle.plant.proofs.TurnHeads.{Heads}
use Rattle.granter.specs.Grant.{waits, following, last_check}
use Rattle.granter.specs.Fairness.{stations_before}
use Rattle.granter.specs.Drive.{Stand, stand_at, grant_turn, after_grants}
use Rattle.granter.proofs.GrantLaws.{waits-parts, station-fits}
use Rattle.detection.proofs.TurnEffect.{Plain, Company, Grown, Exact, TurnKept, turn-effect}
use Rattle.detection.proofs.RoundKnowledge.{reset-rows, all-finished}
use Rattle.witness.proofs.Moves.{byte_after, finish-bytes, test-bytes}
use Rattle.single_crash.specs.Sweeps.{turns_made}
use Rattle.single_crash.proofs.Sweeps.{InSweep, sweep-start, Next, Moved, sweep-next, sweep-fewest, sweep-first, sweep-most}
use Rattle.single_crash.proofs.Passes.{turns_left, left-turn}
use Rattle.single_crash.proofs.SweepLaw.{Going, grant_of}
use Rattle.granter.proofs.Fair.{following-most}
use Rattle.single_crash.proofs.SweepLaw as law
use Rattle.std.specs.Prelude.{Ok}

-- wiring and size, and who is live: each live board has another one beside it
pub record Crew (w : Wiring) (n : ℕ) (L : ℕ → Bool) : Type 0 where
  pub size : is_size n ≡ true
  pub company : Company n L
  pub someone : (z : ℕ) × (z < n) × (L z ≡ true)

-- where the drive stands in a round that began at place `begins`
pub record Running (w : Wiring) (n : ℕ) (L : ℕ → Bool) (begins : ℕ) (p : Stand) : Type 0 where
  pub crew : Crew w n L
  pub plain : Plain w n L p.state.table
  pub unclosed : round_over n p.state.table ≡ false
  pub last_fits : last_check n p.last ≡ Ok tt
  pub fits : begins ≤ n
  pub sweep : InSweep n begins (waits n p.state.table) (turns_made n p.state.table) p.last

-- from p to p' a round closes, with last number g behind it; t' is the table before the closing
pub record Closed (w : Wiring) (n : ℕ) (L : ℕ → Bool) (t' : List ℕ) (g : ℕ) (p p' : Stand) : Type 0 where
  pub table : p'.state.table ≡ reset_lines n t'
  pub rounds : p'.state.rounds ≡ suc p.state.rounds
  pub fresh : (i : ℕ) → i < n → Reset n p'.state.table i
  pub grown : Grown n t' p'.state.table
  pub running : Running w n L (following g) p'

-- or it goes on
pub record WentOn (w : Wiring) (n : ℕ) (L : ℕ → Bool) (t' : List ℕ) (begins : ℕ) (p p' : Stand) : Type 0 where
  pub table : p'.state.table ≡ t'
  pub rounds : p'.state.rounds ≡ p.state.rounds
  pub running : Running w n L begins p'

pub some-live : {w : Wiring} {n : ℕ} {L : ℕ → Bool} {t : List ℕ} → Crew w n L → Plain w n L t → some_live n t ≡ true
unfolding some_live
some-live {n = n} {t = t} crew p =
    let z = crew.someone in
    let lives : not_live n t z.0 ≡ false = rw (p.lives z.0 z.1 ∙ z.2) refl in
    rw (every-not (not_live n t) n z.0 z.1 lives)

accepted : {w : Wiring} {n : ℕ} {L : ℕ → Bool} {t : List ℕ} → Crew w n L → Plain w n L t → round_over n t ≡ false → Accepted w n t
accepted {w = w} {n = n} {t = t} crew p unclosed = record {
  size = crew.size;
  long = p.lines.0;
  lines = every-all (line_rules w n t) n (λ i h. line-holds w n t i (p.lines.1 i h));
  unclosed = unclosed;
}

-- where a round begins
pub begin : {w : Wiring} {n : ℕ} {L : ℕ → Bool} → Crew w n L → (p : Stand) → Plain w n L p.state.table
    → ((i : ℕ) → i < n → Reset n p.state.table i) → last_check n p.last ≡ Ok tt → Running w n L (following p.last) p
begin {n = n} crew p plain fresh fits = record {
  crew = crew;
  plain = plain;
  unclosed = unfinished-open n p.state.table (λ i h. (fresh i h).unfinished);
  last_fits = fits;
  fits = following-most n p.last fits;
  sweep =
      sweep-start n p.last (waits n p.state.table) (turns_made n p.state.table) (following-most n p.last fits)
      (λ i h. omega (arith, (fresh i h).untested, (fresh i h).unfinished));
}

-- the bytes of board i's pass are the same in both tables
pub record SamePass (n : ℕ) (t t' : List ℕ) (i : ℕ) : Type 0 where
  pub next : next_distance n t' i ≡ next_distance n t i
  pub made : tests_made n t' i ≡ tests_made n t i
  pub done : finished n t' i ≡ finished n t i

-- how many turns are left in the round
abbrev pub left_of : ℕ → (ℕ → Bool) → (ℕ → ℕ) → List ℕ → ℕ
left_of n L reach t = sum_below (turns_left L reach (turns_made n t)) n

-- where a round closes, with last number g behind it
pub closing : {w : Wiring} {n : ℕ} {L : ℕ → Bool} → Crew w n L → (t' : List ℕ) → Plain w n L t' → (p : Stand) (tests g : ℕ)
    → last_check n g ≡ Ok tt → Closed w n L t' g p (stand_at (state_of (reset_lines n t') (p.state.rounds + 1) tests) g)
closing {w = w} {n = n} {L = L} crew t' plain p tests g fits =
    let fresh = reset-cells n t' plain.lines.0 in
    let rows = reset-rows w n L t' plain in
    record {
      table = refl;
      rounds = add-one p.state.rounds;
      fresh = fresh;
      grown = rows.1;
      running = begin crew (stand_at (state_of (reset_lines n t') _ _) g) rows.0 fresh fits;
    }

-- the next grant, with its turn
module _ {w : Wiring} {n : ℕ} {L : ℕ → Bool} {begins : ℕ} {p : Stand} (r : Running w n L begins p) where
  open grant_of w n p use {before as t, board as g, turned as t', outcome, stand as p'}

  now : Going w n begins p
  now = record {
    ok = accepted r.crew r.plain r.unclosed;
    someone = some-live r.crew r.plain;
    last_fits = r.last_fits;
    sweep = r.sweep;
  }

  pub chosen : (g < n) × (waits n t g ≡ true)
  chosen = law.chosen now

  pub is_live : L g ≡ true
  is_live = sym (r.plain.lives g chosen.0) ∙ (waits-parts n t g chosen.1).0

  pub going : finished n t g ≡ 0
  going = law.going now

  pub kept : TurnKept w n L t t' g outcome
  kept = turn-effect w n L t kind_turn g r.plain r.crew.company chosen.0 is_live going (λ a b. refl)

  pub heads : Heads w n t t' g outcome (makes_test w n t g)
  heads = law.heads now

  pub others-same : (i : ℕ) → i ≢ g → SamePass n t t' i
  others-same i d = record {
    next = heads.others i next_column d (omega arith);
    made = heads.others i tests_column d (omega arith);
    done = heads.others i finished_column d (omega arith);
  }

  pub next : Next n (waits n t) p.last g
  next = law.next now

  pub moved : Moved n (waits n t) (waits n t') (turns_made n t) (turns_made n t') g
  moved = law.moved now

  -- of those that wait nobody has made fewer turns than the board granted, and it comes first of those that have made as many
  pub grant-fewest : (i : ℕ) → i < n → waits n t i ≡ true → turns_made n t g ≤ turns_made n t i
  grant-fewest = sweep-fewest r.fits r.sweep next

  pub grant-first : (i : ℕ) → i < n → waits n t i ≡ true → turns_made n t g ≡ turns_made n t i
      → stations_before n begins g ≤ stations_before n begins i
  grant-first = sweep-first r.fits r.sweep next

  -- nobody has made two turns more
  pub grant-most : (i : ℕ) → i < n → turns_made n t i ≤ suc (turns_made n t g)
  grant-most = sweep-most r.fits r.sweep next

  -- a live board that has not finished waits
  pub live-waits : (i : ℕ) → i < n → L i ≡ true → finished n t i ≡ 0 → waits n t i ≡ true
  unfolding waits
  live-waits i h l f = rw (r.plain.lives i h, l, f) refl

  -- a pass is finished or not
  pub has-ended : (i : ℕ) → i < n → finished n t i ≢ 0 → finished n t i ≡ 1
  has-ended i h f = omega (arith, f, (r.plain.lines.1 i h).pass.finished_range)

  -- the rows after a turn that makes no test, and after one that makes one
  pub rows-same : makes_test w n t g ≡ false → (k j : ℕ) → j < n → suspects n t' k j ≡ suspects n t k j
  rows-same = finish-bytes w n L t g r.crew.size r.plain r.crew.company chosen.0 is_live going

  pub rows-tested : makes_test w n t g ≡ true → (k j : ℕ) → k < n → j < n
      → let y = wired_station w n g (next_test w n t g) in suspects n t' k j ≡ byte_after (L y) (suspects n t) g y k j
  rows-tested = test-bytes w n L t g r.crew.size r.plain r.crew.company chosen.0 is_live going

  -- where the round closes all live boards have finished
  pub all-ended : round_over n t' ≡ true → (i : ℕ) → i < n → L i ≡ true → finished n t' i ≡ 1
  all-ended = all-finished w n L t' kept.plain

  -- the turns left, where each live board i is to make reach(i) and one more
  pub turn-less : (reach : ℕ → ℕ) → turns_made n t g ≤ reach g → suc (left_of n L reach t') ≡ left_of n L reach t
  turn-less reach left = left-turn n L reach (turns_made n t) (turns_made n t') g chosen.0 is_live left moved.own moved.others

  -- by it the round closes, or goes on
  pub closes : round_over n t' ≡ true → Closed w n L t' g p p'
  unfolding grant_turn after acted after_round
  closes over = rw over (closing r.crew t' kept.plain p _ g (station-fits n g chosen.0))

  pub goes_on : round_over n t' ≡ false → WentOn w n L t' begins p p'
  unfolding grant_turn after acted after_round
  goes_on unclosed =
      rw unclosed (record {
        table = refl;
        rounds = refl;
        running = record {
          crew = r.crew;
          plain = kept.plain;
          unclosed = unclosed;
          last_fits = station-fits n g chosen.0;
          fits = r.fits;
          sweep =
              sweep-next r.fits r.sweep next
              (size-bounds n r.crew.size).1 moved;
        };
      })

  pub by_round : {A : Type 0} → (round_over n t' ≡ true → Closed w n L t' g p p' → A) → (round_over n t' ≡ false → WentOn w n L t' begins p p' → A)
      → A
  by_round over on = by_bool (round_over n t') (λ e. over e (closes e)) (λ e. on e (goes_on e))

  -- what was known stays known
  pub stays_known : Exact n L t → Exact n L p'.state.table
  stays_known exact =
      let now : Exact n L t' = λ i j h g a b. kept.grows i j h g (exact i j h g a b) in
      by_round (λ over z. λ i j h g a b. z.grown i j h g (now i j h g a b)) (λ unclosed o. rw o.table now)

  -- and a drive runs on
  pub runs_on : (b : ℕ) × Running w n L b p'
  runs_on = by_round (λ over z. (_, z.running)) (λ unclosed o. (_, o.running))

-- after any number of grants
pub runs-after : {w : Wiring} {n : ℕ} {L : ℕ → Bool} {begins : ℕ} {p : Stand} → Running w n L begins p → (k : ℕ)
    → (b : ℕ) × Running w n L b (after_grants w n p k)
unfolding after_grants
runs-after r zero = (_, r)
runs-after r (suc k) = runs_on (runs-after r k).1

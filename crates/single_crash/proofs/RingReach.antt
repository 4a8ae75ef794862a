-- On the ring the bound is reached at every size, by a fresh plant of which only boards 0 and 1 have made a turn when board 2 crashes.
-- Assumes nothing.
use mathlib.Core.Path.{◌≡◌, refl, sym, ap, ◌∙◌}
use mathlib.Core.Logic.{◌≢◌, inl, by_cases}
use mathlib.Core.Bool.{Bool, true, false, ◌||◌, or-false}
use mathlib.Core.List.{List}
use Prim.Native.Nat.{ℕ, suc, ◌+◌, ◌-◌, ◌*◌, ◌≤◌, ◌<◌}
use native.Mathlib.Decide.{dec_lt, ℕ_discrete}
use native.Mathlib.Omega.{arith}
use borrow.Author.Tests.{le-ltb, ne_eqb}
use lib.Dec.{leb, eqb}
use Rattle.lists.specs.Sums.{bit}
use Rattle.lists.proofs.BoolLaws.{by_bool}
use Rattle.lists.proofs.SumLaws.{sum_by, sum-add, sum-const}
use Rattle.table.specs.Sizes.{is_size}
use Rattle.table.specs.Table.{head, stride, cell, finished, tests_made, suspects}
use Rattle.table.specs.Rules.{round_over}
use Rattle.table.specs.Fresh.{fresh_table}
use Rattle.table.specs.declared.wiring.Wiring.TheVariants.{Ring}
use Rattle.plant.specs.Entry.{state_of}
use Rattle.station.proofs.WiredLaws.{place_before, place_behind}
use Rattle.plant.specs.Turn.{crash}
use Rattle.granter.specs.Grant.{no_grant, waits, following, last_check}
use Rattle.granter.specs.Fairness.{stations_before}
use Rattle.granter.specs.Drive.{Stand, stand_at, grant_turn, after_grants}
use Rattle.single_crash.specs.Sweeps.{turns_made}
use Rattle.single_crash.specs.Setting.{Sound, crash_at, behind_crash, RoundsSince, KnownDead}
use Rattle.single_crash.specs.Ring.{RingNoFewerGrants, RingNoFewerRounds}
use Rattle.single_crash.proofs.SweepLaw.{none-made}
use Rattle.single_crash.proofs.SweepLaw.{grant_of}
use Rattle.single_crash.proofs.Running.{Running, chosen, moved, goes_on, grant-first, grant-fewest, live-waits, left_of}
use Rattle.single_crash.proofs.Crashing.{everyone, all_but, crash-same, crash-turns, crash-goes_on, stays-open, not-known, crash-pass}
use Rattle.single_crash.proofs.Passes.{made-most, turns_left, at_place, sum-at}
use Rattle.single_crash.proofs.Around as around
use Rattle.single_crash.proofs.OnRing.{one, Before, one-less, none-left, before-on}
use Rattle.single_crash.proofs.RingStages.{Board, crew, crash-waiting}
use Rattle.single_crash.proofs.RingKnown.{sound-before}
use Rattle.single_crash.proofs.RingSlow.{WaitingSlow, Slow, slow_waiting, slow-unaware, slow-rounds, slow-after}
use Rattle.single_crash.proofs.FreshSound.{fresh-is-sound}
use Rattle.std.specs.Prelude.{Ok}

-- a plant that has just been started: a fresh table, and nobody was granted yet
abbrev started : ℕ → Stand
started n = stand_at (state_of (fresh_table n) 0 0) no_grant

none-fits : (n : ℕ) → last_check n no_grant ≡ Ok tt
none-fits n = by_bool (leb n no_grant) (λ e. rw e refl) (λ e. rw e refl)

module _ (n : ℕ) (size : is_size n ≡ true) (four : 4 ≤ n) where
  hb : 2 < n
  hb = omega arith

  board : Board n 2
  board = record { size = size; four = four; hb = hb }

  -- the boards before board 2
  a-is : around.before n 2 ≡ 1
  a-is = let e : 2 + (n - 1) ≡ n + 1 = omega arith in rw e (place_behind n (n + 1) (omega arith) (omega arith) ∙ omega arith)

  d-is : around.before n (around.before n 2) ≡ 0
  d-is = let e : 1 + (n - 1) ≡ n = omega arith in rw (a-is, e) (place_behind n n (omega arith) (omega arith) ∙ omega arith)

  z-is : around.before n (around.before n (around.before n 2)) ≡ n - 1
  z-is = rw d-is (place_before n (0 + (n - 1)) (omega arith) ∙ omega arith)

  -- where the drive stands in the first round, after so many turns of each
  pub record First (p : Stand) (made : ℕ → ℕ) : Type 0 where
    pub before : Before n 0 p
    pub turns : (i : ℕ) → i < n → turns_made n p.state.table i ≡ made i

  -- the going round begins with board 0
  place-is : (i : ℕ) → i < n → stations_before n 0 i ≡ i
  unfolding stations_before
  place-is i h = rw (le-ltb i 0 (omega arith)) (omega arith)

  -- the next grant goes to board x, where the boards before it have made a turn and it has made none
  module _ (p : Stand) (made : ℕ → ℕ) (s : First p made) (x : ℕ) (hx : x + 2 < n) (none : made x ≡ 0) (had : (i : ℕ) → i < x → 1 ≤ made i)
      (left : 2 ≤ left_of n everyone one p.state.table) where
    open grant_of Ring n p use {before as t, board as g, turned as t'}

    x-waits : waits n t x ≡ true
    x-waits = live-waits s.before.run x (omega arith) refl (omega (arith, s.turns x (omega arith), none))

    at-x : g ≡ x
    at-x =
        let r = s.before.run in
        let g<n = (chosen r).0 in
        let zero : turns_made n t x ≡ 0 = s.turns x (omega arith) ∙ none in
        let few = grant-fewest r x (omega arith) x-waits in
        let same : turns_made n t g ≡ 0 = omega arith in
        let first = grant-first r x (omega arith) x-waits (same ∙ sym zero) in
        let low : g ≤ x = omega (arith, place-is g g<n, place-is x (omega arith)) in
        by_cases (dec_lt g x) (λ l. absurd (omega (arith, had g l, s.turns g g<n))) (λ l. omega arith)

    one-open : round_over n t' ≡ false
    one-open =
        let r = s.before.run in
        by_bool (round_over n t')
        (λ over.
        absurd (omega (arith, none-left r one s.before.passes over, one-less r one s.before.passes)))
        (λ o. o)

    first-on : (made' : ℕ → ℕ) → made' x ≡ 1 → ((i : ℕ) → i ≢ x → made' i ≡ made i) → First (grant_turn Ring n p) made'
    first-on made' own same =
        let r = s.before.run in
        let m = moved r in
        let o = goes_on r one-open in
        record {
          before = before-on s.before one-open;
          turns = λ i h. rw o.table (by_cases (ℕ_discrete i x)
              (λ e. ap (turns_made n t') (e ∙ sym at-x) ∙ omega (arith, m.own, ap (turns_made n t) at-x, s.turns x (omega arith), own, ap made' e))
              (λ d. m.others i h (λ e. d (e ∙ at-x)) ∙ (s.turns i h ∙ sym (same i d))));
        }

    first-left : suc (left_of n everyone one (grant_turn Ring n p).state.table) ≡ left_of n everyone one t
    first-left =
        let r = s.before.run in
        rw (goes_on r one-open).table (one-less r one s.before.passes)

  -- nobody has made a turn, then board 0 has, then board 1
  none-yet : ℕ → ℕ
  none-yet i = 0

  first-start : First (started n) none-yet
  unfolding none-yet following
  first-start =
      let sound = fresh-is-sound Ring n 0 0 no_grant size (none-fits n) in
      record { before = sound-before sound; turns = none-made Ring n (started n) sound.granted sound.start }

  left-start : left_of n everyone one (started n).state.table ≡ n * 2
  unfolding turns_left none-yet
  left-start =
      sum_by {f = turns_left everyone one (turns_made n (started n).state.table)} {g = λ i. 2} n (λ i h. omega (arith, first-start.turns i h))
      ∙ sum-const 2 n

  abbrev p₁ : Stand
  p₁ = grant_turn Ring n (started n)

  abbrev p₂ : Stand
  p₂ = grant_turn Ring n p₁

  only-0 : ℕ → ℕ
  only-0 i = bit (eqb i 0)

  both-made : ℕ → ℕ
  both-made i = bit (eqb i 0 || eqb i 1)

  first-0 : First p₁ only-0
  unfolding none-yet only-0
  first-0 =
      first-on (started n) none-yet first-start 0 (omega arith) refl (λ i h. absurd (omega arith)) (omega (arith, left-start)) only-0 refl
      (λ i d. rw (ne_eqb i 0 d) refl)

  left-0 : suc (left_of n everyone one p₁.state.table) ≡ n * 2
  unfolding none-yet
  left-0 =
      first-left (started n) none-yet first-start 0 (omega arith) refl (λ i h. absurd (omega arith)) (omega (arith, left-start)) ∙ left-start

  first-1 : First p₂ both-made
  unfolding only-0 both-made
  first-1 =
      first-on p₁ only-0 first-0 1 (omega arith) refl (λ i h. let e : i ≡ 0 = omega arith in rw e (omega arith)) (omega (arith, left-0))
      both-made refl (λ i d. rw (ne_eqb i 1 d, or-false) refl)

  -- board 2 crashes
  abbrev v : List ℕ
  v = p₂.state.table

  abbrev v' : List ℕ
  v' = crash n v 2

  abbrev L : ℕ → Bool
  L = all_but 2

  abbrev run : Running Ring n everyone 0 p₂
  run = first-1.before.run

  unmade : (i : ℕ) → i < n → 2 ≤ i → finished n v i ≡ 0
  unfolding both-made
  unmade i h l =
      let none : both-made i ≡ 0 = rw (ne_eqb i 0 (λ e. omega arith), ne_eqb i 1 (λ e. omega arith)) refl in
      omega (arith, first-1.turns i h)

  crash-open : round_over n v' ≡ false
  crash-open = stays-open 2 (crew board) hb run 3 (omega arith) (omega arith) (λ e. omega (arith, e, unmade 3 (omega arith) (omega arith)))

  abbrev q : Stand
  q = crash_at Ring n p₂ 2

  turns-now : (i : ℕ) → i < n → turns_made n q.state.table i ≡ both-made i
  turns-now i h = crash-turns 2 (crew board) hb run crash-open i ∙ first-1.turns i h

  -- 2n − 4 turns are left
  left-now : left_of n L one q.state.table + 4 ≡ n * 2
  unfolding turns_left both-made
  left-now =
      let f : ℕ → ℕ = turns_left L one (turns_made n q.state.table) in
      let each : (i : ℕ) → i < n → (f i + at_place 2 2 i) + (at_place 0 1 i + at_place 1 1 i) ≡ 2 =
      λ i h. by_cases (ℕ_discrete i 2) (λ e. rw e refl)
      (λ k. by_cases (ℕ_discrete i 0) (λ e. rw e (omega (arith, turns-now 0 (omega arith))))
      (λ l. by_cases (ℕ_discrete i 1) (λ e. rw e (omega (arith, turns-now 1 (omega arith))))
      (λ m.
      let none : turns_made n q.state.table i ≡ 0 = turns-now i h ∙ rw (ne_eqb i 0 l, ne_eqb i 1 m) refl in
      rw (ne_eqb i 2 k, ne_eqb i 0 l, ne_eqb i 1 m) (omega arith)))) in
      omega (
        arith,
        sum_by {f = λ i. (f i + at_place 2 2 i) + (at_place 0 1 i + at_place 1 1 i)} {g = λ i. 2} n each,
        sum-add (λ i. f i + at_place 2 2 i) (λ i. at_place 0 1 i + at_place 1 1 i) n,
        sum-add f (at_place 2 2) n,
        sum-add (at_place 0 1) (at_place 1 1) n,
        sum-at n 2 2 hb,
        sum-at n 0 1 (omega arith),
        sum-at n 1 1 (omega arith),
        sum-const 2 n,
      )

  tested : 1 ≤ tests_made n v (around.before n 2)
  unfolding both-made
  tested =
      let turns : turns_made n v 1 ≡ 1 = first-1.turns 1 (omega arith) in
      let made = made-most first-1.before.passes 1 (omega arith) refl in
      let one-test : tests_made n v 1 ≡ 1 =
      by_cases (ℕ_discrete (finished n v 1) 1) (λ e. absurd (omega (arith, made.1 e)))
      (λ e. omega (arith, first-1.before.passes.range 1 (omega arith))) in
      omega (arith, ap (λ (i : ℕ). tests_made n v i) a-is, one-test)

  slow : WaitingSlow board 0 q
  slow =
      let o = crash-goes_on 2 (crew board) hb run crash-open in
      let same : (k c : ℕ) → 1 ≤ c → c < stride n → cell n v' k c ≡ cell n v k c = crash-same 2 (crew board) hb run in
      record {
        waiting = crash-waiting board first-1.before crash-open tested;
        from = record { below = omega (arith, d-is); place = inl (sym d-is) };
        unfinished =
            rw (o.table, z-is)
            ((crash-pass 2 (crew board) hb run (n - 1)).done ∙ unmade (n - 1) (omega arith) (omega arith));
        unaware = λ k h l. rw o.table (same k (head + 2) (omega arith) (omega arith) ∙ run.plain.accurate k 2 h hb refl refl);
      }

  slow-plant : Slow board p₂.state.rounds (5 * n - 9) q
  slow-plant =
      let o = crash-goes_on 2 (crew board) hb run crash-open in
      slow_waiting 0 slow o.rounds (omega (arith, left-now))

  slow-end : Slow board p₂.state.rounds 0 (after_grants Ring n q (5 * n - 9))
  slow-end =
      let most : ℕ = 5 * n - 9 in
      let e : 0 + most ≡ most = omega arith in
      slow-after board p₂.state.rounds 0 most q (rw e slow-plant)

-- so one grant fewer is not enough, nor are two rounds: ends in themselves
module _ (n : ℕ) (size : is_size n ≡ true) (four : 4 ≤ n) where
  abbrev end : List ℕ
  end = (behind_crash Ring n (started n) 2 2 (5 * n - 9)).state.table

  unaware : suspects n end 0 2 ≡ 0
  unfolding after_grants
  unaware = rw (d-is n size four) at (slow-unaware (board n size four) _ 0 _ (slow-end n size four))

  rounds-closed : RoundsSince Ring n (started n) 2 2 (5 * n - 9) 2
  unfolding after_grants
  rounds-closed = let two = slow-rounds (board n size four) _ _ (slow-end n size four) in omega (arith, two)

  unknown : ¬ (KnownDead n end 2)
  unknown = not-known n 0 2 end (omega arith) (hb n size four) (omega arith) unaware

  sound : Sound Ring n (started n)
  sound = fresh-is-sound Ring n 0 0 no_grant size (none-fits n)

pub ring-no-fewer-grants : RingNoFewerGrants
ring-no-fewer-grants n size four claim = unknown n size four (claim (started n) 2 2 (5 * n - 9) (sound n size four) (omega arith) (omega arith))

pub ring-no-fewer-rounds : RingNoFewerRounds
ring-no-fewer-rounds n size four claim =
    unknown n size four (claim (started n) 2 2 (5 * n - 9) (sound n size four) (omega arith) (rounds-closed n size four))

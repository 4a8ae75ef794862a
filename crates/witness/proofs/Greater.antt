-- If the worst-case latency is reached at size n by turns of a plant, it is at any greater size with as many levels: the boards from n on
-- are dead, and every live board suspects them from the start.
-- Assumes nothing.
use mathlib.Core.Path.{◌≡◌, refl, sym, ap, ◌∙◌}
use mathlib.Core.Bool.{Bool, true, false, cond, not, ◌&&◌}
use mathlib.Core.List.{List, []}
use Prim.Native.Nat.{ℕ, suc, ◌+◌, ◌-◌, ◌^◌, ◌≤◌, ◌<◌}
use native.Mathlib.Omega.{arith}
use borrow.Author.Tests.{eqb-true, lt-ltb, le-ltb, ltb-true}
use lib.ListN.{length}
use lib.Dec.{eqb, ltb}
use Rattle.lists.specs.Sums.{sum_below, bit}
use Rattle.lists.proofs.BoolLaws.{by_bool}
use Rattle.lists.proofs.SearchLaws.{both, every-at, every-all}
use Rattle.lists.proofs.SumLaws.{sum_by, sum-stays}
use Rattle.table.specs.Sizes.{is_size, dimension, distances}
use Rattle.table.specs.Table.{head, stride, cell, status_column, next_column}
use Rattle.table.specs.Table.{told_by_column, rounds_ago_column, status, status_told, next_distance, finished, told_by, told_by_none}
use Rattle.table.specs.Table.{not_recorded, rounds_ago, suspects, live}
use Rattle.table.specs.Rules.{exit_rule}
use Rattle.table.specs.Properties.{line_at_start, at_start, live_count, no_live_suspicion, none_suspected}
use Rattle.table.proofs.Accepting.{Accepted, accepted}
use Rattle.table.proofs.CellLaws.{Line, accepted-line}
use Rattle.table.specs.declared.wiring.Wiring.TheVariants.{Cube}
use Rattle.plant.specs.Entry.{State, state_of}
use Rattle.plant.proofs.RunLaws.{accepted-number}
use Rattle.detection.specs.Runs.{taken_all}
use Rattle.detection.specs.Rounds.{all_taken}
use Rattle.detection.specs.Claim.{DetectionPremises, worst_latency}
use Rattle.detection.proofs.TurnEffect.{Company}
use Rattle.detection.proofs.DetectionClaim.{trusts, company-of}
use Rattle.witness.proofs.Slow.{Slow}
use Rattle.witness.proofs.Beginning.{table_by, by-cell, Begun, begun-by, begun-pass, begun-start, begun-accepted}
use Rattle.witness.proofs.Moves.{Like}
use Rattle.witness.proofs.Follow.{Alike, follow}

-- the rule of bytes 4 and 5 with more stations
wider-exit : (n N i s told ago : ℕ) → n ≤ N → exit_rule n i s told ago ≡ true → exit_rule N i s told ago ≡ true
unfolding exit_rule
wider-exit n N i s told ago low h =
    by_bool (eqb s 0) (λ e. rw e (rw e at h))
    (λ e. by_bool (eqb s status_told)
    (λ f. rw (e, f)
    (by_bool (eqb told not_recorded) (λ q. rw q)
    (λ q. let b = both (ltb told n) (not (eqb told i)) (rw (e, f, q) at h) in rw (q, lt-ltb told N (omega (arith, ltb-true told n b.0)), b.1))))
    (λ f. rw (e, f) (rw (e, f) at h)))

module _ (n N : ℕ) (p : Slow Cube n) (Size : is_size N ≡ true) (low : n ≤ N) (levels : dimension n ≡ dimension N) where
  abbrev t : List ℕ
  t = p.first.table

  ok : Accepted Cube n t
  ok = accepted Cube n t p.ok

  abbrev L : ℕ → Bool
  L k = ltb k n && live n t k

  -- the rows of the live boards, with 1 from n on
  abbrev row_byte : ℕ → ℕ → ℕ
  row_byte i y = cond (ltb i n) (cond (ltb y n) (suspects n t i y) (bit (live n t i))) 0

  -- bytes 4 and 5 as they are, with 255 and 0 from n on
  abbrev exit_byte : ℕ → ℕ → ℕ
  exit_byte i c =
      cond (eqb c told_by_column) (cond (ltb i n) (told_by n t i) told_by_none)
      (cond (eqb c rounds_ago_column) (cond (ltb i n) (rounds_ago n t i) 0) 0)

  abbrev byte : ℕ → ℕ → ℕ
  byte i c =
      cond (ltb c head) (cond (eqb c status_column) (cond (ltb i n) (status n t i) 1) (cond (eqb c next_column) 1 (exit_byte i c)))
      (row_byte i (c - head))

  abbrev u : List ℕ
  u = table_by N byte

  at : (i c : ℕ) → i < N → c < stride N → cell N u i c ≡ byte i c
  at = by-cell N byte

  row_of : (i y : ℕ) → i < N → y < N → suspects N u i y ≡ row_byte i y
  row_of i y h g =
      let back : head + y - head ≡ y = omega arith in
      at i (head + y) h (omega arith) ∙ rw (le-ltb (head + y) head (omega arith), back)

  status-of : (i : ℕ) → i < N → status N u i ≡ cond (ltb i n) (status n t i) 1
  status-of i h = at i status_column h (omega arith)

  begun : Begun N u
  begun = begun-by N byte (λ i. refl) (λ i. refl) (λ i. refl)

  exits_of : (i : ℕ) → i < N → exit_rule N i (status N u i) (told_by N u i) (rounds_ago N u i) ≡ true
  unfolding exit_rule
  exits_of i h =
      rw (status-of i h, at i told_by_column h (omega arith), at i rounds_ago_column h (omega arith))
      (by_bool (ltb i n)
      (λ q. rw q (wider-exit n N i (status n t i) (told_by n t i) (rounds_ago n t i) low (accepted-line Cube n t ok i (ltb-true i n q)).exits))
      (λ q. rw q))

  live_of : (i : ℕ) → i < N → live N u i ≡ L i
  live_of i h =
      by_bool (ltb i n) (λ q. rw (q, status-of i h, q)) (λ q. rw (q, status-of i h, q))

  line_of : (i : ℕ) → i < N → Line Cube N u i
  line_of i h = record {
    status_range =
        rw (status-of i h) (by_bool (ltb i n) (λ q. rw q (accepted-line Cube n t ok i (ltb-true i n q)).status_range)
        (λ q. rw q (omega arith)));
    pass = begun-pass Cube N u begun i h;
    exits = exits_of i h;
    own = row_of i i h h ∙ by_bool (ltb i n) (λ q. rw q (accepted-line Cube n t ok i (ltb-true i n q)).own) (λ q. rw q);
    range = λ y g. rw (row_of i y h g) (byte_small i y);
  }
    where
      byte_small : (i y : ℕ) → row_byte i y ≤ 1
      byte_small i y =
          by_bool (ltb i n)
          (λ q. by_bool (ltb y n) (λ r. rw (q, r) ((accepted-line Cube n t ok i (ltb-true i n q)).range y (ltb-true y n r)))
          (λ r. rw (q, r) (by_bool (live n t i) (λ l. rw l (omega arith)) (λ l. rw l (omega arith)))))
          (λ q. rw q (omega arith))

  Ok : Accepted Cube N u
  Ok = begun-accepted Cube N u begun Size line_of

  -- the live boards
  parts : (k : ℕ) → L k ≡ true → (k < n) × (live n t k ≡ true)
  parts k l = let b = both (ltb k n) (live n t k) l in (ltb-true k n b.0, b.1)

  absent : (k : ℕ) → n ≤ k → L k ≡ false
  absent k h = rw (le-ltb k n h)

  at-start : (k : ℕ) → k < n → (next_distance n t k ≡ 1) × (finished n t k ≡ 0)
  unfolding at_start
  at-start k h =
      let all = both _ _ (every-at (line_at_start n t) n k p.premises.start h) in
      let heads = both _ _ all.0 in
      (eqb-true _ 1 heads.0, eqb-true _ 0 heads.1)

  company : Company n L
  company i h l =
      let o = company-of n t p.premises.two_live i h (parts i l).1 in
      (o.0, o.1, o.2, rw (lt-ltb o.0 n o.1) o.3)

  row_below : (k y : ℕ) → L k ≡ true → y < n → suspects N u k y ≡ suspects n t k y
  row_below k y l g = row_of k y (omega (arith, (parts k l).0)) (omega arith) ∙ rw (lt-ltb k n (parts k l).0, lt-ltb y n g)

  like : Like n N L low absent t u
  like = record {
    small = record {
      lines = (ok.long, accepted-line Cube n t ok);
      lives = λ k h. rw (lt-ltb k n h);
      accurate = λ i j h g a b. trusts Cube n t ok p.premises.accurate i j h g (parts i a).1 (parts j b).1;
    };
    big = record {
      lines = (begun.long, line_of);
      lives = live_of;
      accurate = λ i j h g a b. row_below i j a (parts j b).0
          ∙ trusts Cube n t ok p.premises.accurate i j (parts i a).0 (parts j b).0 (parts i a).1 (parts j b).1;
    };
    finish = λ k l. begun.finish k (omega (arith, (parts k l).0)) ∙ sym (at-start k (parts k l).0).1;
    rows = row_below;
    known = λ k y l a b. row_of k y (omega (arith, (parts k l).0)) b ∙ rw (lt-ltb k n (parts k l).0, le-ltb y n a, (parts k l).1);
  }

  abbrev w : State
  w = state_of u p.first.rounds 0

  distances-same : distances n ≡ distances N
  unfolding distances
  distances-same = ap (λ (d : ℕ). 2 ^ d) levels

  alike : Alike n N L low absent p.premises.size Size distances-same company p.first w
  alike = record {
    like = like;
    next = λ k l. begun.next k (omega (arith, (parts k l).0)) ∙ sym (at-start k (parts k l).0).0;
    rounds = refl;
    ok = ok;
    Ok = Ok;
  }

  -- what the claim describes
  given : DetectionPremises Cube N w []
  unfolding at_start live_count none_suspected all_taken taken_all
  given = record {
    size = Size;
    long = begun.long;
    start = begun-start Cube N u begun;
    two_live = omega (arith, two, p.premises.two_live);
    accurate = every-all _ N (λ i h. every-all (no_live_suspicion N u i) N (λ j g. unsuspecting i j h g));
    one_wiring = refl;
    no_crash = refl;
    no_late = refl;
  }
    where
      two : sum_below (λ i. bit (live N u i)) N ≡ sum_below (λ i. bit (live n t i)) n
      two =
          sum_by N (λ i h. ap bit (live_of i h))
          ∙ (sum-stays (λ i. bit (L i)) n N low (λ i a b. ap bit (absent i a)) ∙ sum_by n (λ i h. rw (lt-ltb i n h)))

      unsuspecting : (i j : ℕ) → i < N → j < N → no_live_suspicion N u i j ≡ true
      unsuspecting i j h g =
          by_bool (L i)
          (λ a. by_bool (L j) (λ b. rw (live_of i h, live_of j g, a, b, like.big.accurate i j h g a b)) (λ b. rw (live_of i h, live_of j g, a, b)))
          (λ a. rw (live_of i h, a))

  -- so the second plant is slow as well
  pub greater : length p.turns ≤ 4096 → Slow Cube N
  greater few =
      let f = follow n N L low absent p.premises.size Size distances-same company p.goes w alike (omega arith) in
      let alive : L p.board ≡ true = rw (lt-ltb p.board n p.board_below) p.board_live in
      record {
        first = w;
        ok = accepted-number Cube N u Ok;
        premises = given;
        turns = f.turns;
        last = f.left;
        goes = f.goes;
        rounds = ap suc f.alike.rounds ∙ (p.rounds ∙ ap (λ (d : ℕ). p.first.rounds + worst_latency d) levels);
        board = p.board;
        board_below = omega (arith, p.board_below);
        board_live = live_of p.board (omega (arith, p.board_below)) ∙ alive;
        missed = p.missed;
        missed_below = omega (arith, p.missed_below);
        missed_dead = rw (live_of p.missed (omega (arith, p.missed_below)), lt-ltb p.missed n p.missed_below) p.missed_dead;
        unseen = f.alike.like.rows p.board p.missed alive p.missed_below ∙ p.unseen;
      }

-- The cube: what is known within its rounds, what its closed rounds give, and after how many of them all is known.
-- Assumes nothing.
use mathlib.Core.Path.{◌≡◌}
use mathlib.Core.Bool.{Bool, true}
use mathlib.Core.List.{List}
use Prim.Native.Nat.{ℕ, suc, ◌^◌, ◌≤◌, ◌<◌}
use native.Mathlib.Omega.{arith}
use borrow.Author.Tests.{lt-ltb}
use Rattle.table.specs.Sizes.{is_size, dimension}
use Rattle.table.specs.Table.{live}
use Rattle.table.proofs.SizeLaws.{size-distances, size-log}
use Rattle.table.specs.declared.wiring.Wiring.TheVariants.{Cube}
use Rattle.detection.specs.Runs.{Taken}
use Rattle.detection.specs.Rounds.{tests_in}
use Rattle.detection.specs.Claim.{tests_per_round, worst_latency}
use Rattle.detection.proofs.Latency.{latency-pos}
use Rattle.detection.proofs.Near.{near-below}
use Rattle.detection.proofs.Pass.{Round, wider}
use Rattle.detection.proofs.Detected.{detected}
use Rattle.detection.proofs.TurnEffect.{Exact}
use Rattle.detection.proofs.RoundKnowledge.{Gave, RoundKnowledge}
use Rattle.detection.proofs.Knowledge.{LiveOf, RowOf, knows_start, turn-knows}
use Rattle.detection.proofs.Listing.{listed_start, turn-listed}
use Rattle.detection.proofs.Closing.{CubeKnows, CubeRound, round-gives}

-- the worst-case latency is one round at least
pub some-round : (n : ℕ) → is_size n ≡ true → 1 ≤ worst_latency (dimension n)
some-round n size = let d = size-log n size in rw (← d.1) at (latency-pos d.0)

-- after the worst-case latency the rows at a round's start are exact
pub exact-at : (n : ℕ) (T : List ℕ) → is_size n ≡ true → (start : ℕ → List ℕ) (round : ℕ → List Taken) (closed : ℕ)
    → Gave (CubeRound n T) start round closed → (q : ℕ) → worst_latency (dimension n) ≤ q → q ≤ closed → Exact n (live n T) (start q)
exact-at n T size start round closed gave q far last i j h g l e =
    detected (dimension n) L rows rounds q i j far (rw (lt-ltb i n h, l)) (rw (lt-ltb j n g, e))
    (near-below (dimension n) j i (omega (arith, pow)) (omega (arith, pow))) last g
  where
    pow : n ≤ 2 ^ dimension n
    pow = let d = size-log n size in rw d.1 d.3

    L : ℕ → Bool
    L = LiveOf n (live n T)

    -- after the last closed round a row holds every number
    rows : ℕ → ℕ → ℕ → Type 0
    rows q i j = q ≤ closed → RowOf n (start q) i j

    rounds : (q : ℕ) → Round L (rows q) (rows (suc q))
    rounds q = record {
      keeps = λ i h j t known l. (gave q l).step.keeps i h j t (wider h (λ x y row. row (omega arith)) known);
      pushes = λ i g h x j low t u asks known l.
          (gave q l).step.pushes i g h x j low t u (asks.0, λ y a. wider h (λ x y row. row (omega arith)) (asks.1 y a))
          (wider g (λ x y row. row (omega arith)) known);
    }

-- from then on a closed round has the count of tests
pub counted-at : (n : ℕ) (T : List ℕ) → is_size n ≡ true → (start : ℕ → List ℕ) (round : ℕ → List Taken) (closed : ℕ)
    → Gave (CubeRound n T) start round closed → (q : ℕ) → worst_latency (dimension n) ≤ q → q < closed
    → tests_in (round q) ≡ tests_per_round n T
counted-at n T size start round closed gave q far h =
    (gave q h).counted (exact-at n T size start round closed gave q far (omega arith))

-- what the claim takes of the cube; T has the live set
abbrev pub cube : (n : ℕ) (T : List ℕ) → is_size n ≡ true → RoundKnowledge Cube n (live n T)
cube n T size = record {
  Knows = CubeKnows n (live n T);
  starts = λ t inv. (knows_start n (live n T) t inv.fresh, listed_start n (live n T) t inv.fresh);
  turns = λ t₀ t' cur s e inv turn know. (
    turn-knows n (live n T) t₀ t' cur s e inv turn know.0,
    turn-listed n (live n T) t₀ t' cur s e inv turn know.1,
  );
  Gives = CubeRound n T;
  closes = λ t₀ t round inv know over. round-gives n T t₀ t round (size-distances n size).0 inv know over;
  enough = worst_latency (dimension n);
  some_round = some-round n size;
  exact = exact-at n T size;
  counted_from = worst_latency (dimension n);
  count = tests_per_round n T;
  counted = counted-at n T size;
}

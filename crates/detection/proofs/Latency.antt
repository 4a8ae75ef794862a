-- The arithmetic of the worst-case latency: it has time for all that the proof adds up, and is at most 1 + d (d − 1) / 2 and at most d·d.
-- Assumes nothing.
use mathlib.Core.Path.{◌≡◌}
use mathlib.Core.Bool.{false, cond}
use Prim.Native.Nat.{ℕ, zero, suc, ◌+◌, ◌*◌, ◌-◌, ◌/◌, ◌≤◌}
use native.Mathlib.Nat.{add-suc}
use native.Mathlib.Decide.{le_ind}
use native.Mathlib.Omega.{arith}
use lib.Dec.{ltb}
use borrow.Author.Tests.{le-ltb}
use Rattle.detection.specs.Claim.{worst_latency}

-- so many rounds later what one station suspects is known to each live one near at p to it in its pass
unfoldable pub spread : ℕ → ℕ
spread zero = 0
spread (suc zero) = 0
spread (suc (suc zero)) = 1
spread (suc (suc (suc v))) = suc v

-- the round, from 0, from which on each live station knows its dead groups at levels up to s in its pass
unfoldable pub ready : ℕ → ℕ
ready s = cond (ltb s 4) (s - 1) (worst_latency s)

-- (n − 2)² is at least 0
square : (n : ℕ) → 4 * n ≤ n * n + 4
square zero = omega arith
square (suc zero) = omega arith
square (suc (suc n)) = omega arith

-- the tests and differences of the definitions, from 4 on
from-four : (n d : ℕ) → d ≡ 4 + n → (ltb d 4 ≡ false) × (d - 3 ≡ suc n)
from-four n d e = (le-ltb d 4 (omega arith), omega arith)

-- the latency beside s, the readiness, the next latency and s·s
bounds : (s : ℕ)
    → (s ≤ worst_latency s) × (worst_latency s ≤ suc (ready s)) × (ready s ≤ worst_latency s) × (2 * s ≤ 4 + ready s)
    × (worst_latency s ≤ worst_latency (suc s)) × (2 * worst_latency s + s ≤ 2 + s * s)
unfolding ready worst_latency
bounds zero = omega arith
bounds (suc zero) = omega arith
bounds (suc (suc zero)) = omega arith
bounds (suc (suc (suc zero))) = omega arith
bounds (suc (suc (suc (suc n)))) =
    let s : ℕ = suc (suc (suc (suc n))) in
    let a = from-four n s (omega arith) in
    let b = from-four (suc n) (suc s) (omega arith) in
    rw (a.0, a.1, b.0, b.1) (omega (arith, square (suc n)))

-- after the readiness at p there is time for u spreads at p + 1, with one round more each, up to the readiness at p + 1 + u
pub ready-enough : (p u : ℕ) → ready p + u * suc (spread (suc p)) ≤ ready (suc p + u)
unfolding spread ready worst_latency
ready-enough zero u = omega (arith, bounds (1 + u))
ready-enough (suc zero) u = omega (arith, bounds (2 + u))
ready-enough (suc (suc zero)) u = omega (arith, bounds (3 + u))
ready-enough (suc (suc (suc zero))) u = let a = from-four u (4 + u) (omega arith) in rw (a.0, a.1) (omega (arith, square u))
ready-enough (suc (suc (suc (suc zero)))) u = let a = from-four (suc u) (5 + u) (omega arith) in rw (a.0, a.1) (omega (arith, square u))
ready-enough (suc (suc (suc (suc (suc w))))) u =
    let p : ℕ = suc (suc (suc (suc (suc w)))) in
    let a = from-four (suc w) p (omega arith) in
    let b = from-four (2 + w + u) (suc p + u) (omega arith) in
    rw (a.0, a.1, b.0, b.1) (omega (arith, square u))

-- after these there is time for a spread at p, with two rounds more, up to the latency at p + 2 + u
pub latency-enough : (p u : ℕ) → suc (ready p + u * suc (spread (suc p)) + suc (spread p)) ≤ worst_latency (suc (suc p + u))
unfolding spread ready worst_latency
latency-enough zero u = omega (arith, bounds (suc (1 + u)))
latency-enough (suc zero) u = omega (arith, bounds (suc (2 + u)))
latency-enough (suc (suc zero)) u = omega (arith, bounds (suc (3 + u)))
latency-enough (suc (suc (suc v))) u =
    let p : ℕ = suc (suc (suc v)) in omega (arith, bounds (suc (suc p + u)), rw add-suc at (ready-enough p (suc u)))

-- the latency grows with the dimension
pub latency-grows : (c d : ℕ) → c ≤ d → worst_latency c ≤ worst_latency d
latency-grows c d l = le_ind (λ (k : ℕ). worst_latency c ≤ worst_latency k) (omega arith) (λ k _ before. omega (arith, bounds k)) d l

-- from dimension 1 on it is at least one round
pub latency-pos : (d : ℕ) → 1 ≤ worst_latency (suc d)
latency-pos d = omega (arith, bounds (suc d))

-- it is at most 1 + d (d − 1) / 2
pub latency-le-triangle : (d : ℕ) → worst_latency d ≤ 1 + d * (d - 1) / 2
latency-le-triangle zero = omega (arith, bounds 0)
latency-le-triangle (suc d) = let e : suc d - 1 ≡ d = omega arith in rw e (omega (arith, bounds (suc d)))

-- that is at most d·d
pub triangle-le-square : (d : ℕ) → 1 + suc d * (suc d - 1) / 2 ≤ suc d * suc d
triangle-le-square d = let e : suc d - 1 ≡ d = omega arith in rw e (omega arith)

-- and so is the latency
pub latency-le-square : (d : ℕ) → worst_latency d ≤ d * d
unfolding worst_latency
latency-le-square zero = omega arith
latency-le-square (suc d) = omega (arith, latency-le-triangle (suc d), triangle-le-square d)

-- What is claimed of one dead board under the bus master on the cube, at sizes that are powers of two.
-- Assumes nothing.
use Rattle.std.specs.Prelude.{◌≡◌, true, ℕ, ◌+◌, ◌-◌, ◌*◌, ◌^◌, ◌≤◌}
use Rattle.table.specs.Sizes.{is_size}
use Rattle.single_crash.specs.Setting.{KnownInGrants, KnownInRounds}
use Rattle.table.specs.declared.wiring.Wiring.TheVariants.{Cube}

-- Rule One dead board on the cube: with 2^d boards, 4 at least, after (n − 1)(d + 2) − 1 grants at the latest: d + 2 sweeps of the n − 1 boards that
-- are live, but for one grant
abbrev pub CubeInGrants : Type 0
CubeInGrants = (n d : ℕ) → 2 ≤ d → n ≡ 2 ^ d → KnownInGrants Cube n ((n - 1) * (d + 2) - 1)

-- and in the second round, that of the crash being the first
abbrev pub CubeInRounds : Type 0
CubeInRounds = (n d : ℕ) → 2 ≤ d → n ≡ 2 ^ d → KnownInRounds Cube n 2

-- from 8 boards on one grant fewer is not enough, nor is one round, whatever the size
abbrev pub CubeNoFewerGrants : Type 0
CubeNoFewerGrants = (n d : ℕ) → is_size n ≡ true → 3 ≤ d → n ≡ 2 ^ d → ¬ (KnownInGrants Cube n ((n - 1) * (d + 2) - 2))

abbrev pub CubeNoFewerRounds : Type 0
CubeNoFewerRounds = (n d : ℕ) → is_size n ≡ true → 3 ≤ d → n ≡ 2 ^ d → ¬ (KnownInRounds Cube n 1)

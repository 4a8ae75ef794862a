-- What is claimed of one dead board under the bus master on the ring, at any size from four boards on.
-- Assumes nothing.
use Rattle.std.specs.Prelude.{◌≡◌, true, ℕ, ◌-◌, ◌*◌, ◌≤◌}
use Rattle.table.specs.Sizes.{is_size}
use Rattle.table.specs.declared.wiring.Wiring.TheVariants.{Ring}
use Rattle.single_crash.specs.Setting.{KnownInGrants, KnownInRounds}

-- Rule One dead board on the ring: it is known after 5n − 8 grants, and when the third round closes, that of the crash being the first
abbrev pub RingInGrants : Type 0
RingInGrants = (n : ℕ) → 4 ≤ n → KnownInGrants Ring n (5 * n - 8)

abbrev pub RingInRounds : Type 0
RingInRounds = (n : ℕ) → 4 ≤ n → KnownInRounds Ring n 3

-- one grant fewer is not enough, nor are two rounds, whatever the size
abbrev pub RingNoFewerGrants : Type 0
RingNoFewerGrants = (n : ℕ) → is_size n ≡ true → 4 ≤ n → ¬ (KnownInGrants Ring n (5 * n - 9))

abbrev pub RingNoFewerRounds : Type 0
RingNoFewerRounds = (n : ℕ) → is_size n ≡ true → 4 ≤ n → ¬ (KnownInRounds Ring n 2)

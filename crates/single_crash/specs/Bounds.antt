-- After how many rounds and grants one dead board is known everywhere, by wiring and size, where it is proved.
-- Assumes nothing.
use Rattle.std.specs.Prelude.{◌≡◌, ℕ, ◌+◌, ◌-◌, ◌*◌, ◌&&◌, Option, Some, None, Result, Ok, if◌then◌else◌, ◌==◌, nat_le}
use Rattle.lists.specs.declared.refusal.Refusal.{Refusal}
use Rattle.lists.specs.declared.refusal.Refusal.TheVariants.{SizeOutOfRange}
use Rattle.lists.specs.Refusal.{ensure, ◌and◌}
use Rattle.table.specs.Sizes.{is_size, dimension, distances}
use Rattle.table.specs.declared.wiring.Wiring.{Wiring}
use Rattle.table.specs.declared.wiring.Wiring.TheVariants.{Cube, Ring}
use Rattle.single_crash.specs.declared.bounds.OneDead.{OneDead}
use Rattle.single_crash.specs.Setting.{KnownInGrants, KnownInRounds}

-- Rules One dead board on the ring and One dead board on the cube: on the ring from 4 boards on three rounds and 5n − 8 grants; on the cube with
-- n = 2^d boards from 4 on two rounds and (n − 1)(d + 2) − 1 grants; of other sizes nothing is claimed
unfoldable pub one_dead_on : Wiring → ℕ → Option OneDead
one_dead_on Ring n = if nat_le 4 n then Some (record { rounds = 3; grants = 5 * n - 8 }) else None
one_dead_on Cube n =
    if nat_le 4 n && n == distances n then Some (record { rounds = 2; grants = (n - 1) * (dimension n + 2) - 1 }) else None

-- Rule One dead board, the call: refusal 1, else these
unfoldable pub one_dead_answer : Wiring → ℕ → Result (Option OneDead) Refusal
one_dead_answer w n = ensure (is_size n) SizeOutOfRange and Ok (one_dead_on w n)

-- what is claimed of them: the board is known after so many rounds, and after so many grants
abbrev pub BoundsHold : Type 0
BoundsHold =
    (w : Wiring) (n : ℕ) (bounds : OneDead) → one_dead_on w n ≡ Some bounds
    → KnownInRounds w n bounds.rounds × KnownInGrants w n bounds.grants

-- A shift of 1 by at most 7 is a power of two and loses nothing.
use Rattle.std.proofs.Common.{◌≡◌, ℕ, suc, zero, ◌-◌, ◌*◌, ◌^◌, ◌%◌, ◌≤◌, ◌<◌, arith}
use Rattle.table.proofs.Levels.{shift_one}
use Rattle.station.specs.Groups.{width}
use Rattle.station.proofs.groups.width_of.Goals as goal

shifted : (s : ℕ) → 0 < s → s ≤ 8 → 1 * 2 ^ (s - 1) % 256 ≡ width s
unfolding width
shifted zero p h = absurd (omega arith)
shifted (suc k) p h =
    let e : suc k - 1 ≡ k = omega arith in
    rw (e, (shift_one k 7 256 (omega arith) (omega arith)).0)

pub returns-clause-width_of_level : goal.returns-clause-width_of_level
returns-clause-width_of_level c = shifted c.args.s.0 c.requires.level_above_0 c.requires.level_at_most_8

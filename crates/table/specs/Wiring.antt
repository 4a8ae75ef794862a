-- The wiring of a plant: which one a number stands for, and its end distance.
-- Assumes nothing.
use Rattle.std.specs.Prelude.{ℕ, Bool, true, false, not, Result, Ok, Err, if◌then◌else◌, ◌==◌}
use Rattle.table.specs.Sizes.{distances}
use Rattle.table.specs.declared.wiring.Wiring.{Wiring}
use Rattle.table.specs.declared.wiring.Wiring.TheVariants.{Cube, Ring}
use Rattle.lists.specs.declared.refusal.Refusal.{Refusal}
use Rattle.lists.specs.declared.refusal.Refusal.TheVariants.{NoSuchWiring}

-- Rule Wiring number: 1 is the cube, 2 the ring; refusal 24 for another
abbrev pub wiring_of : ℕ → Result Wiring Refusal
wiring_of number = if number == 1 then Ok Cube else (if number == 2 then Ok Ring else Err NoSuchWiring)

-- whether the wiring is the ring
abbrev pub is_ring : Wiring → Bool
is_ring Cube = false
is_ring Ring = true

-- whether two wirings are the same
abbrev pub same_wiring : Wiring → Wiring → Bool
same_wiring Cube v = not (is_ring v)
same_wiring Ring v = is_ring v

-- Rules End distance of the cube and End distance of the ring: 2^d on the cube, n on the ring. A finished line has it as next distance
unfoldable pub end_distance : Wiring → ℕ → ℕ
end_distance w n = if is_ring w then n else distances n

-- A plant with a fresh table is sound.
-- Assumes nothing.
use mathlib.Core.Path.{◌≡◌, refl}
use mathlib.Core.Bool.{true}
use Prim.Native.Nat.{ℕ, ◌<◌}
use native.Mathlib.Omega.{arith}
use Rattle.table.specs.Rules.{not_live, some_live}
use Rattle.table.specs.Fresh.{fresh_table}
use Rattle.table.proofs.SizeLaws.{size-bounds}
use Rattle.lists.proofs.SearchLaws.{every-not}
use Rattle.granter.proofs.GrantLaws.{grant-zero}
use Rattle.detection.proofs.FreshStart.{fresh-row, fresh-live, fresh-accepted, fresh_start}
use Rattle.single_crash.specs.Setting.{FreshIsSound}

someone : (n : ℕ) → 0 < n → some_live n (fresh_table n) ≡ true
unfolding some_live
someone n pos = rw (every-not (not_live n (fresh_table n)) n 0 pos (rw (fresh-live n 0 pos) refl))

-- an end in itself
pub fresh-is-sound : FreshIsSound
fresh-is-sound w n rounds tests last size fits = record {
  granted = grant-zero w n (fresh_table n) last (fresh-accepted n w size) fits (someone n (omega (arith, size-bounds n size)));
  start = fresh_start n;
  all_live = fresh-live n;
  nobody = fresh-row n;
}

-- What is left once the loops have mended all lines and the rest of the report is cleared.
-- Assumes nothing.
use mathlib.Core.Path.{◌≡◌, refl, sym, ap, ◌∙◌}
use mathlib.Core.Bool.{Bool}
use mathlib.Core.List.{List, ◌++◌}
use Prim.Native.Nat.{ℕ, ◌-◌, ◌*◌, ◌≤◌}
use native.Mathlib.Omega.{arith}
use lib.ListN.{length, take, drop, replicate}
use lib.Seq.{sets, length-sets, take-append_seam}
use Rattle.std.specs.List.{flat_map}
use Rattle.lists.proofs.Writing.{sets-front}
use Rattle.table.specs.Table.{table_length}
use Rattle.table.specs.Rules.{round_over}
use Rattle.table.specs.declared.wiring.Wiring.{Wiring}
use Rattle.mender.specs.Mended.{lines_mended, mended}
use Rattle.mender.specs.Report.{changes, change_bytes, report_of, mends}
use Rattle.mender.proofs.Progress.{changes-few, listed-length, mended_by}

listed-done : (r l report : List ℕ) (count : ℕ) → report ≡ sets r 0 l → length l ≡ 4 * count → 4 * count ≤ length r
    → take (4 * count) report ++ replicate (length report - 4 * count) 0 ≡ l ++ replicate (length r - length l) 0
listed-done r l report count e k h =
    rw (e, ← k, length-sets r 0 l, sets-front r l (omega arith), take-append_seam l (drop (length l) r)) refl

few : (t u : List ℕ) → length (changes t u) ≤ length t
unfolding changes
few t u = changes-few t u (length t)

-- what the call leaves and answers
pub record Done (w : Wiring) (n : ℕ) (t r u report : List ℕ) (count : ℕ) : Type 0 where
  pub answer : count ≡ length (mends w n t)
  pub table : u ≡ mended w n t
  pub listed : take (4 * count) report ++ replicate (length report - 4 * count) 0 ≡ report_of (mends w n t) (length r)

pub done : (w : Wiring) (n : ℕ) (t r u report : List ℕ) (over : Bool) (count : ℕ) → length t ≡ table_length n → 4 * table_length n ≤ length r
    → over ≡ round_over n (lines_mended w n t) → u ≡ mended_by w n t over → report ≡ sets r 0 (flat_map change_bytes (changes t u))
    → count ≡ length (changes t u) → Done w n t r u report count
unfolding report_of mended
done w n t r u report over count long room o made l k =
    let whole : u ≡ mended w n t = made ∙ rw o refl in
    let most : count ≤ length t = omega (arith, few t u) in
    let listed = listed-done r (flat_map change_bytes (changes t u)) report count l
    (listed-length (changes t u) ∙ ap (λ x. 4 * x) (sym k)) (omega arith) in
    record {
      answer = k ∙ ap (λ x. length (changes t x)) whole;
      table = whole;
      listed = listed ∙ ap (λ x. report_of (changes t x) (length r)) whole;
    }

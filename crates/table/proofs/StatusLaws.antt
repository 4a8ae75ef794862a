-- Byte 0 as a value.
-- Assumes nothing.
use Rattle.std.proofs.Common.{◌≡◌, ℕ, true, false, arith, Ok, Err}
use Rattle.std.proofs.lemmas.Bool.Decides.{nat_tests}
use Rattle.lists.specs.declared.refusal.Refusal.{Refusal}
use Rattle.table.specs.declared.status.Status.{Status}
use Rattle.table.specs.Status.{status_byte, status_of}
use Rattle.table.specs.Rules.{status_rule}

-- a byte that stands for a status is in its range, and is the byte of that status
pub status_ok : (b : ℕ) (s : Status) → status_of b ≡ Ok s → (status_byte s ≡ b) × (status_rule b ≡ true)
status_ok b s e = grind (arith, nat_tests)

-- one that stands for none is not
pub status_err : (b : ℕ) (r : Refusal) → status_of b ≡ Err r → status_rule b ≡ false
status_err b r e = grind (arith, nat_tests)

-- The claim is a law of the file that it is taken from.
use Rattle.single_crash.proofs.FreshSound.{fresh-is-sound}
use Rattle.single_crash.proofs.claims.sound_plant.Goals as goal

-- The law itself.
pub returns : goal.returns
returns c = record { fresh_is_sound = fresh-is-sound }

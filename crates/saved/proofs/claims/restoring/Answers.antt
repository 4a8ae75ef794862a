-- The claims, each a law of proofs/.
use Rattle.saved.proofs.Length.{saved-length}
use Rattle.saved.proofs.Restored.{load-restores}
use Rattle.saved.proofs.OneForm.{one-form}
use Rattle.saved.proofs.claims.restoring.Goals as goal

pub returns-clause-saved_length : goal.returns-clause-saved_length
returns-clause-saved_length c = saved-length

pub returns-clause-load_restores : goal.returns-clause-load_restores
returns-clause-load_restores c = load-restores

pub returns-clause-one_form : goal.returns-clause-one_form
returns-clause-one_form c = one-form

-- The claims, each a law of proofs/.
use Rattle.saved.proofs.Edition1Laws.{rules-converted}
use Rattle.saved.proofs.ConvertedFiles.{converter-takes, converted-loads}
use Rattle.saved.proofs.OrderIsFree.{order_is_free}
use Rattle.saved.proofs.claims.converting.Goals as goal

pub returns-clause-rules_converted : goal.returns-clause-rules_converted
returns-clause-rules_converted c = rules-converted

pub returns-clause-converter_takes : goal.returns-clause-converter_takes
returns-clause-converter_takes c = converter-takes

pub returns-clause-converted_loads : goal.returns-clause-converted_loads
returns-clause-converted_loads c = converted-loads

pub returns-clause-order_is_free : goal.returns-clause-order_is_free
returns-clause-order_is_free c = order_is_free

-- The answer says it.
use Rattle.std.proofs.Common.{sym, ap, ◌∙◌}
use Rattle.station.specs.Tests.{says_due}
use Rattle.station.proofs.DueLaws.{due-is}
use Rattle.slots.proofs.is_due.Goals as goal

pub returns : goal.returns
returns c = c.is_due.ensures ∙ ap says_due c.due_or_ahead.ensures ∙ sym (due-is _ _ _)

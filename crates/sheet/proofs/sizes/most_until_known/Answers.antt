-- The row suspects nobody.
use Rattle.std.proofs.Common.{ap, ◌∙◌}
use Rattle.std.proofs.lemmas.List.{take-replicate}
use Rattle.latency.specs.Turns.{most_until_known}
use Rattle.sheet.proofs.sizes.most_until_known.Goals as goal

pub returns : goal.returns
returns c =
    c.most_until_known.ensures.most ∙ ap (λ row. most_until_known c.args.n row) (take-replicate c.args.n 64 0 c.requires)

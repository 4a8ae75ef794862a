-- The row suspects nobody.
use Rattle.std.proofs.Common.{ap, ◌∙◌}
use Rattle.std.proofs.lemmas.List.{take-replicate}
use Rattle.slots.specs.Slots.{most_of_boards}
use Rattle.sheet.proofs.sizes.most_tests.Goals as goal

pub returns : goal.returns
returns c =
    c.most_of_boards.ensures.most ∙ ap (λ row. most_of_boards c.args.n row c.args.one_dead) (take-replicate c.args.n 64 0 c.requires)

-- A line of zeros, with bytes 1 and 4 written.
use Rattle.table.proofs.FreshLaws.{fresh-line}
use Rattle.table.proofs.fresh.write_line.Goals as goal

pub returns : goal.returns
returns c = fresh-line c.args.n c.args.line.now c.fill.new.self c.requires (c.fill.ensures.after (λ y e. e))

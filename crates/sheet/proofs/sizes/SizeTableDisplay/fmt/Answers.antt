-- Each row is written behind those before it.
use Rattle.std.proofs.Common.{arith}
use Rattle.std.proofs.lemmas.Grind.{common_steps}
use Rattle.sheet.proofs.PrintLaws.{sizes_more}
use Rattle.sheet.proofs.sizes.SizeTableDisplay.fmt.Goals as goal

pub loop-k-preserved : goal.loop-k-preserved
loop-k-preserved g c = grind (arith, common_steps, sizes_more)

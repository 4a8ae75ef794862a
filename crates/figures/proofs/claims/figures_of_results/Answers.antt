-- The claims, each a law of proofs/.
use Rattle.figures.proofs.Answers.{mean_lowest, variance_lowest}
use Rattle.figures.proofs.Extremes.{least_extreme, greatest_extreme}
use Rattle.figures.proofs.claims.figures_of_results.Goals as goal

pub returns-clause-mean_lowest : goal.returns-clause-mean_lowest
returns-clause-mean_lowest c = mean_lowest

pub returns-clause-variance_lowest : goal.returns-clause-variance_lowest
returns-clause-variance_lowest c = variance_lowest

pub returns-clause-least_extreme : goal.returns-clause-least_extreme
returns-clause-least_extreme c = least_extreme

pub returns-clause-greatest_extreme : goal.returns-clause-greatest_extreme
returns-clause-greatest_extreme c = greatest_extreme

-- The claims, each a law of proofs/.
use Rattle.figures.proofs.LowestTerms.{lowest_terms}
use Rattle.figures.proofs.claims.fractions.Goals as goal

pub returns-clause-lowest_terms : goal.returns-clause-lowest_terms
returns-clause-lowest_terms c = lowest_terms

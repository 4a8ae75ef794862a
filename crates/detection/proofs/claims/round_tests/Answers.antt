-- The claims, each a law of proofs/.
use Rattle.detection.proofs.BoardLaws.{exact-round-tests, exact-round-tests-after-latency}
use Rattle.detection.proofs.claims.round_tests.Goals as goal

pub returns-clause-exact_round_tests : goal.returns-clause-exact_round_tests
returns-clause-exact_round_tests c = exact-round-tests

pub returns-clause-exact_round_tests_after_latency : goal.returns-clause-exact_round_tests_after_latency
returns-clause-exact_round_tests_after_latency c = exact-round-tests-after-latency

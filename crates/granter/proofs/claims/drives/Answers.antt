-- The claims, each a law of proofs/.
use Rattle.granter.proofs.Stops.{round-ends-in-square, kind-one-is-driven, drive-stops}
use Rattle.granter.proofs.claims.drives.Goals as goal

pub returns-clause-round_ends_in_square : goal.returns-clause-round_ends_in_square
returns-clause-round_ends_in_square c = round-ends-in-square

pub returns-clause-kind_one_is_driven : goal.returns-clause-kind_one_is_driven
returns-clause-kind_one_is_driven c = kind-one-is-driven

pub returns-clause-drive_stops : goal.returns-clause-drive_stops
returns-clause-drive_stops c = drive-stops

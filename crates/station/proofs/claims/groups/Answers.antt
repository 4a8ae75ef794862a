-- The claims, each a law of proofs/.
use Rattle.station.proofs.GroupLaws.{not-in-own, in-one-group, nested-groups, nested-groups-remaining}
use Rattle.station.proofs.claims.groups.Goals as goal

pub returns-clause-not_in_own_group : goal.returns-clause-not_in_own_group
returns-clause-not_in_own_group c = not-in-own

pub returns-clause-in_one_group : goal.returns-clause-in_one_group
returns-clause-in_one_group c = in-one-group

pub returns-clause-nested_groups : goal.returns-clause-nested_groups
returns-clause-nested_groups c = nested-groups

pub returns-clause-nested_groups_remaining : goal.returns-clause-nested_groups_remaining
returns-clause-nested_groups_remaining c = nested-groups-remaining

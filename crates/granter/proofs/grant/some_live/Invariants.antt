-- The stations passed so far are not live.
use Rattle.std.proofs.Common.{◌≡◌, true}
use Rattle.lists.specs.Search.{every}
use Rattle.table.specs.Rules.{not_live}
use Rattle.granter.proofs.grant.some_live.Given as goal

abbrev pub invariant-loop-i : goal.invariant-loop-i
invariant-loop-i l = every (not_live l.table.n l.table.bytes.now) l.i ≡ true

-- Distance 0 has level 0, whose group is empty; otherwise the stations passed so far are all suspected.
use Rattle.std.proofs.Common.{sym, ap, ◌∙◌, arith}
use Rattle.std.specs.Prelude.{Some}
use Rattle.table.proofs.Levels.{level-zero, level-split}
use Rattle.station.specs.Groups.{width}
use Rattle.station.specs.Tests.{unsuspected}
use Rattle.station.proofs.DueLaws.{first-zero, first-at, first-nobody}
use Rattle.station.proofs.due.first_unsuspected.Goals as goal

pub returns-then-m-eq0 : goal.returns-then-m-eq0
returns-then-m-eq0 c = rw (c.if-m-eq0.true, level-zero, first-zero)

pub width_of-w-requires : goal.width_of-w-requires
width_of-w-requires c = omega (arith, (level-split c.args.m.0 (omega arith)).1)

pub returns-then-is_unsuspected : goal.returns-then-is_unsuspected
returns-then-is_unsuspected c =
    ap Some c.station_at-x.ensures
    ∙ sym (first-at _ _ _ _ (c.width_of-w.ensures.width_of_level ∙ ap width c.level_of.ensures.is_level) _ c.loop-k-test.true
    (sym (ap (unsuspected _) c.station_at-x.ensures) ∙ sym c.is_unsuspected.ensures ∙ c.if-is_unsuspected.true) c.loop-k.invariant)

pub returns : goal.returns
returns c =
    sym (first-nobody _ _ _ _ (c.width_of-w.ensures.width_of_level ∙ ap width c.level_of.ensures.is_level)
    (λ y l. c.loop-k.invariant y (omega arith)))

-- Its distance from the station at distance m is the one without the lowest 1.
use Rattle.std.proofs.Common.{◌∙◌, sym}
use Rattle.station.proofs.AheadLaws.{nearer-before}
use Rattle.station.proofs.wired.is_nearer_ahead.Goals as goal

pub returns : goal.returns
returns c h =
    let i = c.args.i.0 in
    let at = rw c.station_at.ensures at c.station_at-x.ensures in
    (_, sym c.is_unsuspected.ensures ∙ h, rw at (nearer-before i c.args.m.0 c.if-nearer-eq0.false))

-- The four bytes of the change stand behind those listed before.
use Rattle.std.proofs.Common.{◌<◌, length, arith}
use Rattle.mender.proofs.Progress.{place_low}
use Rattle.mender.proofs.mending.Mending.put.Goals as goal

pub overflow_cast-change : goal.overflow_cast-change
overflow_cast-change c =
    let m = c.args.self.now in
    let low : c.args.at < 65536 = place_low m.n (length m.table.now) c.args.at m.sized m.fits c.requires.inside in
    omega arith

-- What the five calls write, one behind the other.
use Rattle.std.proofs.Common.{◌≡◌, arith, take, refl}
use Rattle.std.proofs.lemmas.Grind.{put_five}
use Rattle.sheet.specs.Layout.{list_width}
use Rattle.sheet.proofs.LayoutLaws.{sheet_parts}
use Rattle.sheet.proofs.sheet.SheetDisplay.fmt.Goals as goal

pub returns-clause-writes : goal.returns-clause-writes
returns-clause-writes g c p q =
    let n = c.args.self.now.plant.size in
    let columns : c.max-columns.result ≡ list_width n (take n c.args.self.now.plant.row) =
    omega (arith, c.max-columns.ensures, c.widest.ensures) in
    let title = c.in_ok-writeln.ensures.writes p refl in
    let head = c.in_ok-write_tests_head.ensures title.plain refl in
    let tests = c.in_ok-write_all_tests.ensures head.plain refl in
    let second = c.in_ok-write_str.ensures.writes tests.plain refl in
    let untested = c.write_all_untested.ensures second.plain q in
    put_five _ _ _ _ _ _ _ _ _ _ _ _ _ title head tests second untested (sheet_parts n (take n c.args.self.now.plant.row) _ columns)

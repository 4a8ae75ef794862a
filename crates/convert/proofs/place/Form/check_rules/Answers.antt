-- A fresh table of that size has room for the line.
use Rattle.std.proofs.Common.{rules, arith, sym, ◌∙◌, ◌-◌, length, drop}
use lib.ListN.{length-drop}
use lib.Seq.{length-take-le, take_all}
use Rattle.saved.proofs.Loading.{table_fits}
use Rattle.convert.proofs.PlaceLaws.{rules_in}
use Rattle.convert.proofs.place.Form.check_rules.Goals as goal

pub slice_bounds-own-end-2 : goal.slice_bounds-own-end-2
slice_bounds-own-end-2 c =
    let size = table_fits c.args.self.size (search rules) in sym (length-take-le _ _ (omega (arith, c.table_length.ensures, size)))

pub check_in_fresh-requires-clause-long : goal.check_in_fresh-requires-clause-long
check_in_fresh-requires-clause-long c =
    let size = table_fits c.args.self.size (search rules) in
    length-take-le _ _ (omega (arith, c.table_length.ensures, size)) ∙ c.table_length.ensures

pub returns : goal.returns
returns c =
    let behind = take_all (length c.args.contents.now - 1) (drop 1 c.args.contents.now) (omega (arith, length-drop 1 c.args.contents.now)) in
    rules_in c.args.self c.args.contents.now (search rules) _ _ behind c.check_in_fresh.ensures

-- What the loops and the clearing leave is what the definitions say.
use Rattle.std.proofs.Common.{◌∙◌, rules}
use Rattle.mender.proofs.Call.{done}
use Rattle.mender.proofs.mend_checked.Goals as goal

pub returns : goal.returns
returns c =
    let e = c.mend_lines.ensures in
    let d = done c.args.wiring c.args.n c.args.table.now c.args.report.now _ _ c.is_over-over.result _
    c.requires.fits c.requires.room c.is_over-over.ensures e.bytes_mended e.changes_listed e.changes_counted in
    let count = c.clear_rest.ensures.same_count ∙ d.answer in
    let table = c.clear_rest.ensures.same_table ∙ d.table in
    let report = c.clear_rest.ensures.rest_cleared ∙ d.listed in
    record {
      number_of_changes = count;
      mended_table = search (rules, table);
      listed_changes = search (rules, report);
    }

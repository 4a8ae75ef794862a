-- A file whose size is refused is refused; else the rest is read_table's.
use Rattle.std.proofs.lemmas.Result.{err_from_is_err_and}
use Rattle.saved.proofs.Loading.{load_err, opened_right, rest_err, rest_ok}
use Rattle.saved.proofs.load.load.Goals as goal

pub returns-in_err-opened-clause-answer : goal.returns-in_err-opened-clause-answer
returns-in_err-opened-clause-answer c =
    let p = err_from_is_err_and c.from_residual.result c.from_residual.ensures.1 in rw (p.1, p.2) (load_err _ _ _ c.in_err-opened.ensures).0

pub returns-in_err-opened-clause-table_after : goal.returns-in_err-opened-clause-table_after
returns-in_err-opened-clause-table_after c = (load_err _ _ _ c.in_err-opened.ensures).1

pub read_table-requires-clause-is_a_size : goal.read_table-requires-clause-is_a_size
read_table-requires-clause-is_a_size c = (opened_right c.args.file.now c.args.table.now _ c.in_ok-opened.ensures).1

pub read_table-requires-clause-none_past_end : goal.read_table-requires-clause-none_past_end
read_table-requires-clause-none_past_end c = (opened_right c.args.file.now c.args.table.now _ c.in_ok-opened.ensures).0

pub returns-in_err-read_table : goal.returns-in_err-read_table
returns-in_err-read_table c =
    let p = err_from_is_err_and c.from_residual-in_err-read_table.result c.from_residual-in_err-read_table.ensures.1 in
    let g = rest_err _ c.args.table.now _ c.in_ok-opened.ensures _ _ c.in_err-read_table.ensures.check c.in_err-read_table.ensures.table_after in
    record { answer = rw (p.1, p.2) g.0; table_after = g.1 }

pub returns : goal.returns
returns c =
    let g = rest_ok _ c.args.table.now _ c.in_ok-opened.ensures _ _ c.in_ok-read_table.ensures.check c.in_ok-read_table.ensures.table_after in
    record { answer = g.0; table_after = g.1 }

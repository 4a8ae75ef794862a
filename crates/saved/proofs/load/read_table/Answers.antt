-- The file's lines are not right, the buffer is of another length, or the table's rules judge.
use Rattle.std.proofs.Common.{rules, arith, refl, sym, ◌∙◌}
use Rattle.std.proofs.lemmas.Result.{err_from_is_err_and}
use lib.Seq.{length-take-le}
use Rattle.saved.proofs.Loading.{table_fits, read_two, lines_err, long_err, rules_err, rules_ok}
use Rattle.saved.proofs.load.read_table.Goals as goal

pub slice_bounds-own-end : goal.slice_bounds-own-end
slice_bounds-own-end c = omega (arith, c.table_length.ensures, table_fits _ c.requires.is_a_size)

pub slice_bounds-own-end-2 : goal.slice_bounds-own-end-2
slice_bounds-own-end-2 c = sym (length-take-le _ _ (omega (arith, c.table_length.ensures, table_fits _ c.requires.is_a_size)))

pub invariant_of-build_table : goal.invariant_of-build_table
invariant_of-build_table c = record {
  sized = c.requires.is_a_size;
  last_of_pass = c.end_byte-end.ensures;
  fits = length-take-le _ _ (omega (arith, c.table_length.ensures, table_fits _ c.requires.is_a_size)) ∙ c.table_length.ensures;
}

pub returns-in_err-build_table : goal.returns-in_err-build_table
returns-in_err-build_table c =
    let p = err_from_is_err_and c.from_residual.result c.from_residual.ensures.1 in
    let g = lines_err _ _ c.args.table.now _ c.in_err-build_table.ensures.check in
    record { check = rw (p.1, p.2) g.0; table_after = g.1 }

pub returns-then-table-own : goal.returns-then-table-own
returns-then-table-own c =
    let g = long_err _ _ c.args.table.now _ c.in_ok-build_table.ensures.check (λ e. c.if-table-own.true (omega arith)) in
    record { check = g.0; table_after = g.1 }

pub returns-in_err-check_table : goal.returns-in_err-check_table
returns-in_err-check_table c =
    let p = err_from_is_err_and c.from_residual-in_err-check_table.result c.from_residual-in_err-check_table.ensures.1 in
    let bytes = c.in_ok-build_table.ensures.table_built refl ∙ read_two _ _ in
    let g = rules_err _ _ c.args.table.now _ c.in_ok-build_table.ensures.check _ (omega arith) (search rules) _ c.in_err-check_table.ensures in
    record { check = rw (p.1, p.2) g.0; table_after = g.1 }

pub returns : goal.returns
returns c =
    let bytes = c.in_ok-build_table.ensures.table_built refl ∙ read_two _ _ in
    let g = rules_ok _ _ c.args.table.now _ c.in_ok-build_table.ensures.check _ (omega arith) (search rules) _ c.in_ok-check_table.ensures in
    record { check = g.0; table_after = c.copy_from_slice.ensures.after ∙ g.1 }

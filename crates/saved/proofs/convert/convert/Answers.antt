-- A file whose size is refused is refused; so is one whose lines are not right; the rest is what saving gives.
use Rattle.std.proofs.Common.{rules, arith, sym, ◌∙◌, refl}
use Rattle.std.proofs.lemmas.Result.{err_from_is_err_and}
use lib.Seq.{length-take-le}
use Rattle.saved.proofs.Loading.{table_fits}
use Rattle.saved.proofs.Converter.{convert_err, old_right, old_lines_err, saved_gives}
use Rattle.saved.proofs.convert.convert.Goals as goal

pub returns-in_err-opened : goal.returns-in_err-opened
returns-in_err-opened c =
    let p = err_from_is_err_and c.from_residual.result c.from_residual.ensures.1 in
    let g = convert_err _ c.args.buffer.now _ c.in_err-opened.ensures in
    record { check = rw (p.1, p.2) g.0; buffer_after = g.1 }

pub slice_bounds-own-end : goal.slice_bounds-own-end
slice_bounds-own-end c =
    omega (arith, c.table_length.ensures, table_fits _ (old_right c.args.file.now c.args.buffer.now _ c.in_ok-opened.ensures).1)

pub slice_bounds-own-end-2 : goal.slice_bounds-own-end-2
slice_bounds-own-end-2 c =
    let size = (old_right c.args.file.now c.args.buffer.now _ c.in_ok-opened.ensures).1 in
    sym (length-take-le _ _ (omega (arith, c.table_length.ensures, table_fits _ size)))

pub end_byte-end-requires : goal.end_byte-end-requires
end_byte-end-requires c = (old_right c.args.file.now c.args.buffer.now _ c.in_ok-opened.ensures).1

pub invariant_of-build_table : goal.invariant_of-build_table
invariant_of-build_table c =
    let size = (old_right c.args.file.now c.args.buffer.now _ c.in_ok-opened.ensures).1 in
    record {
      sized = size;
      last_of_pass = c.end_byte-end.ensures;
      fits = length-take-le _ _ (omega (arith, c.table_length.ensures, table_fits _ size)) ∙ c.table_length.ensures;
    }

pub build_table-requires : goal.build_table-requires
build_table-requires c = (old_right c.args.file.now c.args.buffer.now _ c.in_ok-opened.ensures).0

pub returns-in_err-build_table : goal.returns-in_err-build_table
returns-in_err-build_table c =
    let p = err_from_is_err_and c.from_residual-in_err-build_table.result c.from_residual-in_err-build_table.ensures.1 in
    let g = old_lines_err _ c.args.buffer.now _ c.in_ok-opened.ensures _ c.in_err-build_table.ensures.check in
    record { check = rw (p.1, p.2) g.0; buffer_after = g.1 }

pub returns : goal.returns
returns c =
    let bytes = c.in_ok-build_table.ensures.table_built refl in
    let g =
    saved_gives _ c.args.buffer.now _ c.in_ok-opened.ensures _ _ c.in_ok-build_table.ensures.check (search rules) _ _ c.save.ensures.check
    c.save.ensures.buffer_after in
    record { check = g.0; buffer_after = g.1 }

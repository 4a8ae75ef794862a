-- What stands at the cursor: nothing, a field or its head that runs past the end, or a field.
use Rattle.std.proofs.Common.{refl, arith}
use Rattle.saved.proofs.Reading.{read_end, read_cut, read_past, read_field, first_past, first_read}
use Rattle.saved.proofs.fields.Fields.next.Goals as goal

pub returns-in-empty : goal.returns-in-empty
returns-in-empty c = record {
  fields = (read_end _ c.in-empty.len_below, refl);
  first_field = omega (arith, c.in-empty.len_below);
}

pub returns-in_default : goal.returns-in_default
returns-in_default c = record {
  fields = (read_cut _ c.in_default.len_at_least c.in_default.len_below, refl, refl);
  first_field = omega (arith, c.in_default.len_below);
}

pub returns-in_default-split_at_checked : goal.returns-in_default-split_at_checked
returns-in_default-split_at_checked c =
    let past = c.in_default-split_at_checked.ensures.cases in record {
      fields = (read_past _ _ c.in-len3-up.len_at_least c.from_be_bytes-len.ensures past, refl, refl);
      first_field = first_past _ _ c.in-len3-up.len_at_least c.from_be_bytes-len.ensures past;
    }

pub returns-in-Some : goal.returns-in-Some
returns-in-Some c =
    let split = c.in-Some.ensures.cases in record {
      fields = read_field _ _ c.in-len3-up.len_at_least c.from_be_bytes-len.ensures _ _ split;
      first_field = first_read _ _ c.in-len3-up.len_at_least c.from_be_bytes-len.ensures _ _ split;
    }

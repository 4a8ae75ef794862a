-- Own's byte is put back.
use Rattle.std.proofs.Common.{rules}
use Rattle.station.proofs.UnionLaws.{union-kept, union-beyond}
use Rattle.station.proofs.rows.join_row.Goals as goal

pub returns-then-row-of : goal.returns-then-row-of
returns-then-row-of c = union-beyond _ _ _ _ c.join_bytes.ensures (search rules)

pub returns : goal.returns
returns c = union-kept _ _ _ _ c.join_bytes-2.ensures (search rules)

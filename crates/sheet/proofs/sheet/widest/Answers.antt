-- The greatest of the columns of each board.
use Rattle.std.proofs.Common.{refl, sym, ap, ◌∙◌, unwrap_or, arith, rules, take}
use Rattle.std.proofs.lemmas.Iterator.{YieldsList-from_range, YieldsList-from_map}
use Rattle.std.proofs.lemmas.Iterator.Consumers.{YieldsList-at, max_from_yields_List}
use Rattle.std.proofs.lemmas.Iterator.Adapters.{option_map_id}
use Rattle.lists.proofs.Enumerated.{map-range}
use Rattle.lists.specs.Search.{greatest}
use Rattle.sheet.specs.Text.{list_columns, widest}
use Rattle.sheet.proofs.sheet.widest.Goals as goal

pub returns : goal.returns
unfolding widest greatest
returns c =
    let n = c.args.plant.now.size in
    let columns = list_columns n (take n c.args.plant.now.row) in
    let all = max_from_yields_List _ _ c.max.ensures.ran
    (YieldsList-from_map _ columns (YieldsList-at c.map.ensures.source
    (YieldsList-from_range 0 n n refl (omega arith)))
    c.map.ensures.closure (λ x r q k. search rules)) in
    let most = ap (λ o. unwrap_or o 0) (sym (option_map_id _) ∙ all) in
    c.unwrap_or.ensures ∙ rw map-range at most

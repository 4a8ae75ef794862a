-- The greatest of the tests of each board.
use Rattle.std.proofs.Common.{refl, sym, ap, ◌∙◌, unwrap_or, arith, rules}
use Rattle.std.proofs.lemmas.Iterator.{YieldsList-from_range, YieldsList-from_map}
use Rattle.std.proofs.lemmas.Iterator.Consumers.{YieldsList-at, max_from_yields_List}
use Rattle.std.proofs.lemmas.Iterator.Adapters.{option_map_id}
use Rattle.lists.proofs.Enumerated.{map-range}
use Rattle.slots.specs.Slots.{tests_due, most_of_boards}
use Rattle.slots.proofs.MostLaws.{greatest-is}
use Rattle.slots.proofs.most_by_row.Goals as goal

pub returns : goal.returns
unfolding most_of_boards
returns c =
    let all = max_from_yields_List _ _ c.max.ensures.ran
    (YieldsList-from_map _ (tests_due c.args.n c.args.row.now) (YieldsList-at c.map.ensures.source
    (YieldsList-from_range 0 c.args.n c.args.n refl (omega arith)))
    c.map.ensures.closure (λ x r q k. search rules)) in
    let most = ap (λ o. unwrap_or o 0) (sym (option_map_id _) ∙ all) in
    c.unwrap_or.ensures ∙ rw map-range at most ∙ greatest-is (tests_due c.args.n c.args.row.now) c.args.n

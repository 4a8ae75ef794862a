-- `any` tests the words one by one.
use Rattle.std.proofs.Common.{◌∙◌, sym, rules, tests, string_bytes}
use Rattle.std.proofs.lemmas.Iterator.{YieldsList-from_slice}
use Rattle.std.proofs.lemmas.Iterator.Search.{any_from_yields_List}
use Rattle.watch.specs.Call.{is_ring_option}
use Rattle.watch.proofs.CallLaws.{list_any-map}
use Rattle.watch.proofs.call.has_ring_option.Goals as goal

pub returns : goal.returns
returns c =
    any_from_yields_List (λ w. is_ring_option (string_bytes w)) _ _ _ c.any.ensures.ran
    (YieldsList-from_slice c.args.words.now cc) (λ x b q k. search (rules, tests))
    ∙ sym (list_any-map (λ w. string_bytes w) is_ring_option c.args.words.now)

-- The members of the group are counted, a byte for each place.
use Rattle.std.proofs.Common.{◌≡◌, ◌+◌, ◌∙◌, ℕ, List, [], ◌∷◌, Bool, true, false, cond, refl, ap, length, map, arith, rules, tests}
use mir.Val.{bool_byte}
use Rattle.std.specs.List.{filter, range_with_len, sum_by}
use Rattle.std.proofs.lemmas.List.FromFn.{length-map-range_with_len}
use Rattle.std.proofs.lemmas.List.Sums.{sum_by-cons, length-filter, count_by-le-length}
use Rattle.std.proofs.lemmas.Iterator.{YieldsList-from_range, YieldsList-from_map}
use Rattle.std.proofs.lemmas.Iterator.Consumers.{YieldsList-at, sum_by_from_yields_List, fits_by_from_yields_list}
use Rattle.station.specs.Groups.{is_present}
use Rattle.station.proofs.GroupWalk.{placed, group-walk}
use Rattle.station.proofs.groups.group_length.Goals as goal

one_more : (b : Bool) (m z : ℕ) (zs : List ℕ) → m ≡ length zs → bool_byte b + m ≡ length (cond b (z ∷ zs) zs)
one_more true m z zs e = omega (arith, e)
one_more false m z zs e = omega (arith, e)

-- the bytes of those that pass are as many as pass
bytes_passed : (p : ℕ → Bool) (f : ℕ → ℕ) (ks : List ℕ) → sum_by (λ k. bool_byte (p (f k))) ks ≡ length (filter p (map f ks))
bytes_passed p f [] = refl
bytes_passed p f (k ∷ ks) =
    sum_by-cons (λ k. bool_byte (p (f k))) k ks ∙ one_more (p (f k)) _ (f k) (filter p (map f ks)) (bytes_passed p f ks)

pub sum-requires-clause-fits : goal.sum-requires-clause-fits
sum-requires-clause-fits c =
    let p = is_present c.args.n in
    let f = placed c.args.i.0 c.width_of-w.result in
    let ks = range_with_len 0 c.width_of-w.result in
    let few = count_by-le-length p (map f ks) in
    fits_by_from_yields_list (λ k. bool_byte (p (f k))) ks _ _ (YieldsList-from_map _ (λ k. bool_byte (p (f k)))
    (YieldsList-at c.map-present.ensures.source (YieldsList-from_range 0 c.width_of-w.result c.width_of-w.result refl (omega arith)))
    c.map-present.ensures.closure (λ x r q k. search (rules, tests)))
    (omega (
      arith,
      bytes_passed p f ks,
      length-filter p (map f ks),
      few,
      length-map-range_with_len f 0 c.width_of-w.result,
      c.width_of-w.ensures.upper_bound,
    ))

pub returns : goal.returns
returns c =
    let p = is_present c.args.n in
    let f = placed c.args.i.0 c.width_of-w.result in
    let ks = range_with_len 0 c.width_of-w.result in
    c.from.ensures ∙ sum_by_from_yields_List (λ k. bool_byte (p (f k))) ks _ _ c.sum.ensures.ran (YieldsList-from_map _ (λ k. bool_byte (p (f k)))
    (YieldsList-at c.map-present.ensures.source (YieldsList-from_range 0 c.width_of-w.result c.width_of-w.result refl (omega arith)))
    c.map-present.ensures.closure (λ x r q k. search (rules, tests))) ∙ bytes_passed p f ks
    ∙ ap length (group-walk _ _ _ _ c.width_of-w.ensures.width_of_level)

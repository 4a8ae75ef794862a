-- The line feed that is taken off ends the last line; an input that has none there has the same lines.
use Rattle.std.proofs.Common.{◌≡◌, ℕ, true, false, List, Bor, [], ◌∷◌, ◌+◌, ◌-◌, ◌<◌, length, take, drop, sym, take-append-drop}
use Rattle.std.specs.Prelude.{Option, None, Some, unwrap_or, MatchOption, nat_eq}
use Rattle.std.specs.Cmp.Lexicographic.{same_text, other_text, pointwise}
use Rattle.input.specs.Input.{lines}
use Rattle.input.proofs.PartLaws.{parts, parts-fed, parts-same}
use Rattle.input.proofs.reading.without_last_feed.Goals as goal

same : (a r : Bor (List ℕ)) (o : Option (Bor (List ℕ))) → 0 < length a.now → r ≡ unwrap_or o a
    → MatchOption o (pointwise nat_eq (drop (length a.now - 1) a.now) (10 ∷ []) ≡ false)
    (λ x. (pointwise nat_eq (drop (length a.now - 1) a.now) (10 ∷ []) ≡ true) × (x.now ≡ take (length a.now - 1) a.now)
    × (length x.now + 1 ≡ length a.now))
    → parts r.now ≡ lines a.now
same a r None h e m = rw e (parts-same a.now h (other_text _ _ (sym m)))
same a r (Some x) h e m =
    let f : drop (length a.now - 1) a.now ≡ 10 ∷ [] = same_text _ _ (sym m.0) in
    rw e (parts-fed x.now a.now (rw (m.1, ← f) (sym (take-append-drop (length a.now - 1) a.now))))

pub returns : goal.returns
returns c = same c.args.input c.unwrap_or.result c.strip_suffix.result c.requires c.unwrap_or.ensures c.strip_suffix.ensures.cases

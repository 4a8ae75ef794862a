-- What `take` lets through of a reader's bytes is their front.
use Rattle.std.proofs.Common.{◌≡◌, ℕ, ◌+◌, List, [], ◌++◌, take, IfSome}
use Rattle.std.specs.Prelude.{Option, None, Some, option_map}
use Rattle.convert.specs.What.{greatest_saved}
use Rattle.convert.proofs.read_front.Goals as goal

front : (o o' : Option (List ℕ)) (n m : ℕ) (old new : List ℕ) → o' ≡ o → m ≡ n → old ≡ [] → IfSome (option_map (take m) o') (λ xs. new ≡ old ++ xs)
    → IfSome o (λ whole. new ≡ take n whole)
front o o' n m old new e f g h = go o (rw (e, f, g) at h)
  where
    go : (o : Option (List ℕ)) → IfSome (option_map (take n) o) (λ xs. new ≡ [] ++ xs) → IfSome o (λ whole. new ≡ take n whole)
    go None h = h
    go (Some whole) h = h

pub returns : goal.returns
returns g c =
    let t = c.take.ensures in
    front (g.R.Read.remaining c.args.input) _ (greatest_saved + 1) _ _ _ (rw t.inner) t.limit c.new-front.ensures.items
    c.in_ok-read_to_end.ensures.bytes

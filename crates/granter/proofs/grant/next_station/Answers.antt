-- The first one that waits behind the last one, or else the first one of all.
use Rattle.std.proofs.Common.{refl, lt-ltb, le-ltb, arith}
use Rattle.std.specs.Prelude.{Option, Some, None, IfNone, IsSome}
use Rattle.granter.specs.Grant.{granted}
use Rattle.granter.proofs.GrantLaws.{first-waits}
use Rattle.granter.proofs.grant.next_station.Goals as goal

is-some : {A : Type 0} (r : Option A) (P : Type 0) → IfNone r P → (P → ⊥) → IsSome r
is-some None P m h = absurd (h m)
is-some (Some x) P m h = refl

pub returns-in-Some : goal.returns-in-Some
unfolding granted
returns-in-Some c = let f = c.in-Some.ensures in rw (← c.following.ensures, ← f.first, lt-ltb _ _ f.below)

pub unwrap-requires : goal.unwrap-requires
unwrap-requires c =
    let some = first-waits _ _ c.requires.round_open c.requires.someone_live in
    is-some _ _ c.first_from-2.ensures.none (λ none. omega arith)

pub returns : goal.returns
unfolding granted
returns c =
    let f = rw c.unwrap.ensures at c.first_from-2.ensures.first in
    rw (← c.following.ensures, le-ltb _ _ c.in_default.ensures.none) f

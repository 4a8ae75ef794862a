-- Laws of lines that are right: there is one for each station, and its length is known.
-- Assumes nothing.
use mathlib.Core.Path.{◌≡◌}
use mathlib.Core.Bool.{true}
use mathlib.Core.List.{List, [], ◌∷◌}
use Prim.Native.Nat.{ℕ, ◌+◌, ◌<◌}
use native.Mathlib.Omega.{arith}
use borrow.Author.Tests.{eqb-true}
use lib.Dec.{eqb}
use lib.ListN.{length, length-drop}
use Rattle.lists.proofs.BoolLaws.{by_bool}
use Rattle.lists.proofs.SearchLaws.{both, every-at}
use Rattle.saved.specs.Fields.{only_one, only_contents}
use Rattle.saved.specs.Plant.{station_in, line_in, of_station, all_fit, lines_right}

-- one that is the only one
pub only_one-length : (len : ℕ) (cs : List (List ℕ)) → only_one len cs ≡ true → length (only_contents cs) ≡ len
only_one-length len [] e = cc
only_one-length len (c ∷ []) e = eqb-true (length c) len e
only_one-length len (c ∷ d ∷ cs) e = cc

pub only_one-station : (i len : ℕ) (cs : List (List ℕ)) → only_one len (of_station i cs) ≡ true → station_in (only_contents (of_station i cs)) ≡ i
unfolding of_station
only_one-station i len [] e = cc
only_one-station i len (c ∷ cs) e =
    by_bool (eqb (station_in c) i) (λ q. rw q (eqb-true (station_in c) i q)) (λ q. rw q (only_one-station i len cs (rw q at e)))

pub one-of-station : (len n : ℕ) (cs : List (List ℕ)) → lines_right len n cs ≡ true → (i : ℕ) → i < n → only_one len (of_station i cs) ≡ true
unfolding lines_right
one-of-station len n cs right i h =
    every-at (λ j. only_one len (of_station j cs)) n i (both (all_fit len n cs) _ right).1 h

-- of contents with a station in front of a line of that length
pub line-of-station : (wide n : ℕ) (cs : List (List ℕ)) → lines_right (1 + wide) n cs ≡ true → (i : ℕ) → i < n
    → length (line_in (only_contents (of_station i cs))) ≡ wide
line-of-station wide n cs right i h =
    let l = only_one-length (1 + wide) (of_station i cs) (one-of-station (1 + wide) n cs right i h) in
    omega (arith, length-drop 1 (only_contents (of_station i cs)), l)

-- The theorems on groups, for every size at once: who is in a group, in which group a station is, and that groups are nested.
-- Assumes nothing.
use mathlib.Core.Path.{◌≡◌, refl, sym, ap, subst, ◌∙◌}
use Rattle.std.specs.List.{filter, range_with_len}
use mathlib.Core.Logic.{◌⊎◌, inl, inr}
use mathlib.Core.List.Memᴰ
use mathlib.Core.List.{[], ◌∷◌, ◌++◌, Memᴰ}
use Prim.Native.Nat.{ℕ, zero, suc, ◌+◌, ◌-◌, ◌^◌, ◌<◌}
use native.Mathlib.Nat.{one-mul, two-pow-succ}
use native.Mathlib.Omega.{arith}
use lib.Bits.{xor_self, xor_zero_r, xor_lt, xor_shifted}
use borrow.Author.Tests.{ltb-true, lt-ltb}
use Rattle.lists.specs.Search.{list_of}
use Rattle.table.specs.Sizes.{level, dimension, distances}
use Rattle.station.specs.Groups.{distance, station_at, is_present, width, member, full_group, group}
use Rattle.station.specs.Partition.{NotInOwnGroup, InOneGroup}
use Rattle.station.specs.Nested.{groups_to, remaining_to}
use Rattle.lists.proofs.Xor.{xor_assoc, xor-cancel, xor-zero-eq}
use Rattle.lists.proofs.SearchLaws.{list_of-suc, list_of-same, list_of-append}
use Rattle.std.proofs.lemmas.List.Elements.{filter-append}
use Rattle.lists.proofs.FilterLaws.{mem-map, range-mem, filter-mem, mem-filter}
use Rattle.table.proofs.SizeLaws.{size-distances}
use Rattle.table.proofs.Levels.{level-zero, level_in, level-le, level-bounds, level-split}

-- an element of a list by f is f of a place
mem-place : (f : ℕ → ℕ) (n x : ℕ) → Memᴰ x (list_of f n) → (k : ℕ) × (k < n) × (x ≡ f k)
unfolding list_of
mem-place f zero x m = absurd (Memᴰ.not-nil m)
mem-place f (suc n) x m = pick (mem-place f n x) (Memᴰ.append_cases (list_of f n) (subst (Memᴰ x) (list_of-suc f n) m))
  where
    pick : (Memᴰ x (list_of f n) → (k : ℕ) × (k < n) × (x ≡ f k))
        → Memᴰ x (list_of f n) ⊎ Memᴰ x (f n ∷ []) → (k : ℕ) × (k < suc n) × (x ≡ f k)
    pick rest (inl m') = let t = rest m' in (t.0, omega arith, t.2)
    pick rest (inr m') = (n, omega arith, Memᴰ.eq_of_singleton m')

no-group-zero : (i x : ℕ) → Memᴰ x (full_group i 0) → ⊥
unfolding full_group width list_of
no-group-zero i x m = Memᴰ.not-nil m

-- who is in the full group of i at level s has a distance of that level
members-level : (i s x : ℕ) → Memᴰ x (full_group i s) → level (distance i x) ≡ s
unfolding full_group width member
members-level i zero x m = absurd (no-group-zero i x m)
members-level i (suc h) x m =
    let t = mem-place (member i (suc h)) (2 ^ h) x m in
    rw (t.2, xor-cancel) (level_in h t.0 t.1)

-- and the other way
level-members : (i s x : ℕ) → 0 < s → level (distance i x) ≡ s → Memᴰ x (full_group i s)
unfolding full_group width member list_of
level-members i zero x pos e = absurd (omega arith)
level-members i (suc h) x pos e =
    let m : ℕ = distance i x in
    let b = level-bounds m h e in
    mem-map (member i (suc h)) x (m - 2 ^ h) (range_with_len 0 (2 ^ h)) (sym (xor-cancel i x) ∙ ap (station_at i) (omega arith))
    (range-mem (2 ^ h) (m - 2 ^ h) (omega arith))

-- with the absent numbers left out: who is in the group of i at level s is present and has a distance of that level
group-members : (n i s x : ℕ) → Memᴰ x (group n i s) → (x < n) × (level (distance i x) ≡ s)
unfolding group
group-members n i s x m =
    let k = filter-mem (is_present n) (full_group i s) x m in
    (ltb-true x n k.1, members-level i s x k.0)

-- and the other way
members-group : (n i s x : ℕ) → 0 < s → x < n → level (distance i x) ≡ s → Memᴰ x (group n i s)
unfolding group
members-group n i s x pos h e = mem-filter (is_present n) (full_group i s) x (level-members i s x pos e) (lt-ltb x n h)

-- no station is in a group of its own
pub not-in-own : NotInOwnGroup
unfolding group
not-in-own n i zero m = no-group-zero i i (filter-mem (is_present n) (full_group i 0) i m).0
not-in-own n i (suc h) m = let e : 0 ≡ suc h = cc ((group-members n i (suc h) i m).1, xor_self i, level-zero) in omega arith

-- each other station is in exactly one group of i, at a level from 1 to d
pub in-one-group : InOneGroup
unfolding distances
in-one-group n i x size hi hx other =
    let m : ℕ = distance i x in
    let not-zero : ¬ (m ≡ 0) = λ e. other (xor-zero-eq i x e) in
    let t = level-split m (omega arith) in
    let low = (size-distances n size).0 in (
      level m,
      omega arith,
      level-le m (dimension n) (xor_lt (dimension n) i x (omega arith) (omega arith)),
      members-group n i (level m) x (omega arith) hx refl,
      λ s' mem. sym (group-members n i s' x mem).1,
    )

-- the stations at distances below 2^h from j, in order of distance
run : (j h : ℕ) → list_of (station_at j) (2 ^ h) ≡ j ∷ groups_to j h
unfolding groups_to full_group width member list_of
run j zero = cc (xor_zero_r j)
run j (suc h) = rw two-pow-succ (list_of-append (station_at j) (2 ^ h) (2 ^ h) ∙ rw (run j h))

-- rule Nested groups: a full group is its first number and that number's full groups at all lower levels
pub nested-groups : (i h : ℕ) → full_group i (suc h) ≡ station_at i (2 ^ h) ∷ groups_to (station_at i (2 ^ h)) h
unfolding full_group width member
nested-groups i h = list_of-same (member i (suc h)) (station_at (station_at i (2 ^ h))) (2 ^ h) shifted ∙ run (station_at i (2 ^ h)) h
  where
    shifted : (k : ℕ) → k < 2 ^ h → station_at i (2 ^ h + k) ≡ station_at (station_at i (2 ^ h)) k
    shifted k l = cc (xor_assoc i (2 ^ h) k, xor_shifted 1 h k l, one-mul (2 ^ h))

remaining-is : (n j h : ℕ) → filter (is_present n) (groups_to j h) ≡ remaining_to n j h
unfolding remaining_to groups_to group
remaining-is n j zero = refl
remaining-is n j (suc h) = filter-append (is_present n) (groups_to j h) (full_group j (suc h)) ∙ rw (remaining-is n j h)

-- with the absent numbers left out: its first number, if that is present, and that number's groups at all lower levels
pub nested-groups-remaining : (n i h : ℕ)
    → group n i (suc h) ≡ filter (is_present n) (station_at i (2 ^ h) ∷ []) ++ remaining_to n (station_at i (2 ^ h)) h
unfolding group
nested-groups-remaining n i h =
    let j : ℕ = station_at i (2 ^ h) in
    ap (filter (is_present n)) (nested-groups i h) ∙ filter-append (is_present n) (j ∷ []) (groups_to j h)
    ∙ ap (◌++◌ (filter (is_present n) (j ∷ []))) (remaining-is n j h)

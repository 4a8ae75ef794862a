-- The leader of a group, its first live station: who is ahead of it, and when it tests.
-- Assumes nothing.
use mathlib.Core.Path.{◌≡◌, sym, ◌∙◌}
use mathlib.Core.Logic.{◌⊎◌, inl, inr, by_cases}
use mathlib.Core.Bool.{Bool, true, false, true≢false}
use Prim.Native.Nat.{ℕ, suc, ◌+◌, ◌^◌, ◌<◌}
use native.Mathlib.Decide.{dec_lt}
use native.Mathlib.Omega.{arith}
use lib.Bits.{bit_xor}
use Rattle.lists.specs.Search.{least}
use Rattle.lists.proofs.Xor.{near_le, xor-cancel}
use Rattle.lists.proofs.SearchLaws.{least-between, least-passes, least-before}
use Rattle.detection.proofs.Near.{Member, Ahead, Parting, same, apart, member-distance, member-at, member-near, members-near, before-near, parting}
use Rattle.detection.proofs.Pass.{InPass, Tests, lift}

-- the group of x at level h + 1 has no live station
abbrev pub Dead : (ℕ → Bool) → ℕ → ℕ → Type 0
Dead live h x = (y : ℕ) → Member h x y → live y ≡ false

-- i leads the group of x at level h + 1: it is its first live station (`Count.leads` says it by distance, as a Bool)
pub record Leads (live : ℕ → Bool) (h x i : ℕ) : Type 0 where
  pub alive : live i ≡ true
  pub member : Member h x i
  pub first : (y : ℕ) → Ahead h x i y → live y ≡ false

-- a group is dead, or has a leader
pub leader-or-dead : (live : ℕ → Bool) (h x : ℕ) → Dead live h x ⊎ ((i : ℕ) × Leads live h x i)
leader-or-dead live h x = by_cases (dec_lt m (2 ^ h + 2 ^ h)) (λ l. inr (bit_xor x m, found l)) (λ l. inl (none l))
  where
    p : ℕ → Bool
    p k = live (bit_xor x k)

    m : ℕ
    m = least p (2 ^ h) (2 ^ h)

    passed : (y : ℕ) → Member h x y → bit_xor x y < m → live y ≡ false
    passed y n l = rw xor-cancel at (least-before p (2 ^ h) (2 ^ h) (bit_xor x y) ((member-distance h x y).0 n).0 l)

    none : ¬ (m < 2 ^ h + 2 ^ h) → Dead live h x
    none l y n = passed y n (omega (arith, (member-distance h x y).0 n))

    found : m < 2 ^ h + 2 ^ h → Leads live h x (bit_xor x m)
    found l = record {
      alive = least-passes p (2 ^ h) (2 ^ h) l;
      member = member-at h x m (least-between p (2 ^ h) (2 ^ h)).0 (omega arith);
      first = λ y a. passed y a.0 (rw xor-cancel at a.1);
    }

-- a group with a live station has a leader
pub leader : (live : ℕ → Bool) (h x f : ℕ) → Member h x f → live f ≡ true → (i : ℕ) × Leads live h x i
leader live h x f m t = go (leader-or-dead live h x)
  where
    go : Dead live h x ⊎ ((i : ℕ) × Leads live h x i) → (i : ℕ) × Leads live h x i
    go (inl none) = absurd (true≢false (sym t ∙ none f m))
    go (inr i) = i

-- who is ahead of the leader i stands in a group of i at a lower level, and all of that group are ahead of i: it is dead
pub dead-ahead : (live : ℕ → Bool) (h x i y : ℕ) → Leads live h x i → Ahead h x i y → (t : ℕ) × (t < h) × Member t i y × Dead live t i
dead-ahead live h x i y lead a = go (parting h i y (members-near h x i y lead.member a.0))
  where
    go : Parting h i y → (t : ℕ) × (t < h) × Member t i y × Dead live t i
    go (same e) = absurd (omega (arith, rw e at a.1))
    go (apart t l m) = (
      t,
      l,
      m,
      λ z n. lead.first z (
        member-near h x i z lead.member (near_le (suc t) h i z l n.0),
        before-near t x i y z (members-near t i y z m n) (λ e. m.1 (sym e)) a.1,
      ),
    )

-- i knows its dead groups at levels up to s in its pass, each when it is through that level
abbrev pub Aware : (ℕ → Bool) → (ℕ → ℕ → Type 0) → ℕ → ℕ → Type 0
Aware live row i s = (h j : ℕ) → h < s → Dead live h i → Member h i j → InPass live row i (suc h) j

-- the leader of a group at level h + 1 that is aware up to h tests
pub leader-tests : (live : ℕ → Bool) (row : ℕ → ℕ → Type 0) (h x i : ℕ) → Leads live h x i → Aware live row i h → Tests live row i h x
leader-tests live row h x i lead aware = (
  lead.member,
  λ y a.
      let d = dead-ahead live h x i y lead a in
      lift (suc d.0) h d.1 (aware d.0 y d.1 d.3 d.2),
)

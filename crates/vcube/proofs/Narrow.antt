-- A station, a level and a status are handed on as a byte, 255 for all that are greater. Each definition gives the same of the number and of
-- its byte: a plant has at most 64 stations and 6 levels, so that station 255 and all above meet refusal 9, and such a level 12, or an earlier
-- one; and no status has such a number.
-- Assumes nothing.
use mathlib.Core.Path.{◌≡◌, refl, sym, ap, ◌∙◌}
use mathlib.Core.Bool.{true, not, ◌||◌}
use mathlib.Core.List.{List}
use Prim.Native.Nat.{ℕ, min, ◌≤◌, ◌<◌}
use native.Mathlib.Decide.{dec_lt}
use native.Mathlib.Omega.{arith}
use borrow.Author.Tests.{ne_eqb, lt-ltb, le-ltb}
use Rattle.std.specs.Prelude.{Result, Ok, Err}
use Rattle.lists.specs.declared.refusal.Refusal.{Refusal}
use Rattle.lists.specs.declared.refusal.Refusal.TheVariants.{SizeOutOfRange, LineRule, NoSuchStation, NoSuchLevel}
use lib.Dec.{ltb, eqb}
use lib.ListN.{length}
use Rattle.table.specs.Sizes.{is_size, dimension}
use Rattle.station.specs.Groups.{group}
use Rattle.lists.specs.Refusal.{Check, ensure, ◌and◌, unless_refused}
use Rattle.table.specs.Rules.{table_check, station_check}
use Rattle.station.specs.Calls.{group_check, group_after, row_check, row_part, row_offset}
use Rattle.station.specs.Calls.{assignment_check, assignment_answer, assignment_after, range_check}
use Rattle.slots.specs.Board.{slot_check, slot_answer}
use Rattle.table.specs.Status.{status_of}
use Rattle.lists.proofs.RefusalLaws.{ensure_ok}
use Rattle.table.proofs.Accepting.{table_ok}
use Rattle.table.specs.Table.{row_start}
use Rattle.table.proofs.CellLaws.{row-length}
use Rattle.station.proofs.Refusals.{row_ok}
use Rattle.table.proofs.SizeLaws.{size-bounds, size-dimension}
use Rattle.table.specs.declared.wiring.Wiring.{Wiring}
use Rattle.table.specs.declared.wiring.Wiring.TheVariants.{Cube}

-- f gives the same of a number and of its byte
abbrev pub Narrow {ℓ} : {A : Type ℓ} → (ℕ → A) → Type ℓ
Narrow f = (x b : ℕ) → b ≡ min x 255 → f b ≡ f x

-- it does where it gives one value from 255 on
narrow {ℓ} : {A : Type ℓ} (f : ℕ → A) (v : A) → ((x : ℕ) → 255 ≤ x → f x ≡ v) → Narrow f
narrow f v far x b e = pick (dec_lt x 255)
  where
    pick : Dec (x < 255) → f b ≡ f x
    pick (yes h) = ap f (omega arith)
    pick (no h) = far b (omega arith) ∙ sym (far x (omega arith))

-- a check that refuses all numbers from 255 on, and why
pub record Far (f : ℕ → Check) : Type 0 where
  pub why : Refusal
  pub far : (x : ℕ) → 255 ≤ x → f x ≡ Err why

-- so it does behind an earlier check
pub behind : (c : Check) (f : ℕ → Check) → (c ≡ Ok tt → Far f) → Far (λ x. c and f x)
behind (Ok x) f h = h refl
behind (Err r) f h = record { why = r; far = λ x l. refl }

-- and before a later one
pub before : (f g : ℕ → Check) → Far f → Far (λ x. f x and g x)
before f g k = record { why = k.why; far = λ x l. rw (k.far x l) }

-- the check, what is answered behind it, and what a refused call leaves
module _ (f : ℕ → Check) (k : Far f) where
  pub checked : Narrow f
  checked = narrow f (Err k.why) k.far

  pub answered : {A : Type 0} (g : ℕ → Result A Refusal) → Narrow (λ x. f x and g x)
  answered g = narrow (λ x. f x and g x) (Err k.why) (λ x l. rw (k.far x l))

  pub left : {A : Type 0} (a : A) (g : ℕ → A) → Narrow (λ x. unless_refused (f x) a (g x))
  left a g = narrow (λ x. unless_refused (f x) a (g x)) a (λ x l. rw (k.far x l))

pub station_far : (n : ℕ) → is_size n ≡ true → Far (station_check n)
station_far n e = record { why = NoSuchStation; far = λ x h. rw (le-ltb x n (omega (arith, size-bounds n e))) }

-- the row of a station
module _ (w : Wiring) (n : ℕ) (t : List ℕ) where
  row_far : Far (row_check w n t)
  unfolding row_check
  row_far = behind (table_check w n t) _ (λ z. station_far n (table_ok w n t tt z).size)

  pub row_check_narrow : Narrow (row_check w n t)
  row_check_narrow = checked _ row_far

  pub row_offset_narrow : Narrow (row_offset w n t)
  unfolding row_offset
  row_offset_narrow = left _ row_far _ _

  pub row_part_narrow : Narrow (row_part w n t)
  unfolding row_part
  row_part_narrow = left _ row_far _ _

  -- what a row answers, by its byte
  pub row_offset_ok : (x b : ℕ) (y : Unit {0}) → b ≡ min x 255 → row_check w n t b ≡ Ok y → row_offset w n t x ≡ row_start n b
  unfolding row_offset
  row_offset_ok x b y e z = sym (row_offset_narrow x b e) ∙ rw z

  pub row_offset_err : (x b : ℕ) (r : Refusal) → b ≡ min x 255 → row_check w n t b ≡ Err r → row_offset w n t x ≡ 0
  unfolding row_offset
  row_offset_err x b r e z = sym (row_offset_narrow x b e) ∙ rw z

  pub row_part_ok : (x b : ℕ) (y : Unit {0}) → b ≡ min x 255 → row_check w n t b ≡ Ok y → length (row_part w n t x) ≡ n
  unfolding row_part
  row_part_ok x b y e z =
      let a = row_ok w n t b y z in
      ap length (sym (row_part_narrow x b e)) ∙ rw z (row-length n t b a.0.long a.1)

  pub row_part_err : (x b : ℕ) (r : Refusal) → b ≡ min x 255 → row_check w n t b ≡ Err r → length (row_part w n t x) ≡ 0
  unfolding row_part
  row_part_err x b r e z = ap length (sym (row_part_narrow x b e)) ∙ rw z

-- the assignment and the slot of a station
module _ (n : ℕ) (t : List ℕ) where
  -- a check of a valid table, then of the station, then more
  behind_table : (g : ℕ → Check) → Far (λ x. table_check Cube n t and station_check n x and g x)
  behind_table g = behind (table_check Cube n t) _ (λ z. before _ _ (station_far n (table_ok Cube n t tt z).size))

  assignment_far : (len : ℕ) → Far (λ x. assignment_check n t x len)
  unfolding assignment_check
  assignment_far len = behind_table _

  pub assignment_answer_narrow : (len : ℕ) → Narrow (λ x. assignment_answer n t x len)
  unfolding assignment_answer
  assignment_answer_narrow len = answered _ (assignment_far len) _

  pub assignment_after_narrow : (list : List ℕ) → Narrow (λ x. assignment_after n t x list)
  unfolding assignment_after
  assignment_after_narrow list = left _ (assignment_far (length list)) list _

  pub slot_narrow : Narrow (slot_answer n t)
  unfolding slot_answer slot_check
  slot_narrow = answered _ (behind_table _) _

-- the status of a number
pub status_narrow : (x b : ℕ) → b ≡ min x 255 → status_of b ≡ status_of x
status_narrow = narrow status_of (Err LineRule) far
  where
    far : (x : ℕ) → 255 ≤ x → status_of x ≡ Err LineRule
    far x h = rw (ne_eqb x 0 (omega arith), ne_eqb x 1 (omega arith), ne_eqb x 2 (omega arith), ne_eqb x 3 (omega arith))

-- the group of a station at a level
module _ (n : ℕ) where
  abbrev sized : Check
  sized = ensure (is_size n) SizeOutOfRange

  group_far : (s len : ℕ) → Far (λ i. group_check n i s len)
  unfolding group_check range_check
  group_far s len = behind sized _ (λ z. before _ _ (before _ _ (station_far n (ensure_ok _ _ tt z))))

  level_far : (i len : ℕ) → Far (λ s. group_check n i s len)
  unfolding group_check range_check
  level_far i len =
      behind sized _ (λ z. before _ _ (behind (station_check n i) _ (λ y. record { why = NoSuchLevel; far = high (ensure_ok _ _ tt z) })))
    where
      high : is_size n ≡ true → (s : ℕ) → 255 ≤ s → ensure (not (eqb s 0 || ltb (dimension n) s)) NoSuchLevel ≡ Err NoSuchLevel
      high e s h = rw (ne_eqb s 0 (omega arith), lt-ltb (dimension n) s (omega (arith, size-dimension n e)))

  pub group_check_narrow : (i s i' s' len : ℕ) → i' ≡ min i 255 → s' ≡ min s 255 → group_check n i' s' len ≡ group_check n i s len
  group_check_narrow i s i' s' len e f = checked _ (group_far s' len) i i' e ∙ checked _ (level_far i len) s s' f

  pub group_after_narrow : (i s i' s' : ℕ) (list : List ℕ) → i' ≡ min i 255 → s' ≡ min s 255
      → group_after n i' s' list ≡ group_after n i s list
  unfolding group_after
  group_after_narrow i s i' s' list e f =
      left _ (group_far s' (length list)) list (λ i. group n i s') i i' e
      ∙ left _ (level_far i (length list)) list (group n i) s s' f

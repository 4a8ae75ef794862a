-- The claims of specs/Files hold: a file has fields exactly where it is the bytes of them.
-- Assumes nothing.
use mathlib.Core.Path.{◌≡◌, refl, ap, sym, ◌∙◌}
use mathlib.Core.Logic.{◌⊎◌, inl, inr, by_cases}
use mathlib.Core.List.Memᴰ
use mathlib.Core.List.{List, [], ◌∷◌, ◌++◌, Memᴰ}
use Rattle.std.specs.Prelude.{Option, Some, None}
use Prim.Native.Nat.{ℕ, zero, suc, ◌+◌, ◌^◌, ◌≤◌, ◌<◌}
use native.Mathlib.Decide.{dec_lt}
use native.Mathlib.Omega.{arith}
use lib.ListN.{length, get_or, take, drop, take-append-drop, length-drop}
use lib.Seq.{length-take-le, get_or-drop, drop-drop}
use Rattle.saved.specs.Bytes.{bytes_value, bytes_of}
use Rattle.saved.specs.Fields.{Field, field, field_bytes, infront, length_in, extent, fields}
use Rattle.saved.proofs.NumberLaws.{bytes-number}
use Rattle.saved.proofs.FieldLaws.{fields-nil, fields-cut, fields-cons, fields-first}
use Rattle.saved.specs.Files.{fields_bytes, AreBytes, Short, FieldsOfBytes, BytesOfFields}

pub fields-of-bytes : FieldsOfBytes
unfolding fields_bytes
fields-of-bytes [] short = fields-nil
fields-of-bytes (f ∷ fs) short =
    fields-first f (fields_bytes fs) (short f (Memᴰ.head refl)) ∙ rw (fields-of-bytes fs (λ g m. short g (Memᴰ.tail m)))

-- the first field of a file
abbrev first : List ℕ → Field
first file = field (get_or file 0 0) (take (length_in file) (drop 3 file))

-- what its head says fits into two bytes, and these are the bytes of it
length-short : (file : List ℕ) → AreBytes file → length_in file < 2 ^ 16
unfolding bytes_value
length-short file bytes = omega (arith, bytes 1, bytes 2)

two_bytes : (b c : ℕ) → b < 256 → c < 256 → bytes_of 2 (bytes_value (b ∷ c ∷ [])) ≡ b ∷ c ∷ []
two_bytes b c hb hc = bytes-number (b ∷ c ∷ []) small
  where
    small : (k : ℕ) → k < 2 → get_or (b ∷ c ∷ []) k 0 < 256
    small zero h = hb
    small (suc zero) h = hc
    small (suc (suc k)) h = omega arith

-- a file is the bytes of its first field and the rest
first-bytes : (file : List ℕ) → AreBytes file → extent file ≤ length file → field_bytes (first file) ++ drop (extent file) file ≡ file
unfolding field_bytes
first-bytes [] bytes h = absurd (omega arith)
first-bytes (a ∷ []) bytes h = absurd (omega arith)
first-bytes (a ∷ b ∷ []) bytes h = absurd (omega arith)
first-bytes (a ∷ b ∷ c ∷ l) bytes h =
    let k : ℕ = bytes_value (b ∷ c ∷ []) in
    let long : length (take k l) ≡ k = length-take-le k l (omega arith) in
    let rest : drop k l ≡ drop (3 + k) (a ∷ b ∷ c ∷ l) = drop-drop k 3 (a ∷ b ∷ c ∷ l) in
    rw (long, two_bytes b c (bytes 1) (bytes 2), ← rest, take-append-drop k l)

-- a field in front of others
infront-nil : (f : Field) (o : Option (List Field)) → infront f o ≡ Some [] → ◌≡◌ {A = ℕ} 0 1
infront-nil f None e = cc
infront-nil f (Some gs) e = cc

infront-cons : (f g : Field) (o : Option (List Field)) (gs : List Field) → infront f o ≡ Some (g ∷ gs) → (f ≡ g) × (o ≡ Some gs)
infront-cons f g None gs e = (cc, cc)
infront-cons f g (Some fs) gs e = (cc, cc)

-- a file that has bytes, and fields
module _ (file : List ℕ) (some_byte : 0 < length file) (fs : List Field) (e : fields file ≡ Some fs) where
  within : extent file ≤ length file
  within =
      by_cases (dec_lt (length file) (extent file))
      (λ h. cc (fields-cut file some_byte h)) (λ h. omega arith)

  opened : infront (first file) (fields (drop (extent file) file)) ≡ Some fs
  opened = sym (fields-cons file some_byte within) ∙ e

pub bytes-of-fields : BytesOfFields
unfolding fields_bytes
bytes-of-fields [] [] bytes e = (refl, λ f m. absurd (Memᴰ.not-nil m))
bytes-of-fields [] (f ∷ fs) bytes e = cc fields-nil
bytes-of-fields (b ∷ l) [] bytes e =
    let z = infront-nil (first (b ∷ l)) (fields (drop (extent (b ∷ l)) (b ∷ l))) (opened (b ∷ l) (omega arith) [] e) in absurd (omega arith)
bytes-of-fields (b ∷ l) (f ∷ fs) bytes e =
    let file : List ℕ = b ∷ l in
    let rest : List ℕ = drop (extent file) file in
    let h = within file (omega arith) (f ∷ fs) e in
    let parts = infront-cons (first file) f (fields rest) fs (opened file (omega arith) (f ∷ fs) e) in
    let below = bytes-of-fields rest fs (λ k. rw get_or-drop (bytes (extent file + k))) parts.1 in
    let same = ap (λ (g : Field). length g.contents) parts.0 in
    let long = length-take-le (length_in file) (drop 3 file) (omega (arith, length-drop 3 file)) in
    let short : length f.contents < 2 ^ 16 = omega (arith, length-short file bytes) in (
      rw (← parts.0, below.0) (first-bytes file bytes h),
      λ g m. pick g (Memᴰ.cases_cons m) short below.1,
    )
  where
    pick : (g : Field) → (g ≡ f) ⊎ Memᴰ g fs → length f.contents < 2 ^ 16 → Short fs → length g.contents < 2 ^ 16
    pick g (inl p) short others = rw p short
    pick g (inr m) short others = others g m

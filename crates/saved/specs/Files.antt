-- A file and its fields: a file has fields exactly where it is the bytes of them, one field behind the other.
-- Assumes nothing.
use Rattle.std.specs.Prelude.{◌≡◌, ℕ, ◌^◌, ◌<◌, length, Some, slice_index}
use mathlib.Core.List.{List, [], ◌∷◌, ◌++◌, Memᴰ}
use Rattle.saved.specs.Fields.{Field, field_bytes, fields}

-- the bytes of some fields, one field behind the other
unfoldable pub fields_bytes : List Field → List ℕ
fields_bytes [] = []
fields_bytes (f ∷ fs) = field_bytes f ++ fields_bytes fs

-- a list of bytes: each is below 256
abbrev pub AreBytes : List ℕ → Type 0
AreBytes l = (k : ℕ) → slice_index l k < 256

-- the lengths fit into two bytes
abbrev pub Short : List Field → Type 0
Short fs = (f : Field) → Memᴰ f fs → length f.contents < 2 ^ 16

-- Rule Saved and loaded: the bytes of short fields have those fields
abbrev pub FieldsOfBytes : Type 0
FieldsOfBytes = (fs : List Field) → Short fs → fields (fields_bytes fs) ≡ Some fs

-- Rule Saved and loaded: a file has one list of fields at most, for it is the bytes of its fields; and these are short
abbrev pub BytesOfFields : Type 0
BytesOfFields = (file : List ℕ) (fs : List Field) → AreBytes file → fields file ≡ Some fs → (fields_bytes fs ≡ file) × Short fs

-- Tagged fields: a tag of one byte, a length in two bytes, high byte first, and so many bytes of contents.
-- Assumes nothing.
use Rattle.std.specs.Prelude.{ℕ, zero, suc, ◌+◌, Bool, false, List, [], ◌∷◌, ◌++◌, length, take, drop, if◌then◌else◌, ◌==◌, nat_lt, slice_index}
use Rattle.std.specs.Prelude.{Option, Some, None, is_none, unwrap_or, option_map}
use Rattle.saved.specs.Bytes.{bytes_value, bytes_of}

pub record Field : Type 0 where
  pub tag : ℕ
  pub contents : List ℕ

-- a field by its parts
abbrev pub field : ℕ → List ℕ → Field
field tag contents = record { tag = tag; contents = contents }

-- the bytes of a field
unfoldable pub field_bytes : Field → List ℕ
field_bytes f = f.tag ∷ (bytes_of 2 (length f.contents) ++ f.contents)

-- one field more in front, where there are fields
abbrev pub infront : Field → Option (List Field) → Option (List Field)
infront f = option_map (λ fs. f ∷ fs)

-- the length that the head of the first field says
abbrev pub length_in : List ℕ → ℕ
length_in file = bytes_value (slice_index file 1 ∷ slice_index file 2 ∷ [])

-- the bytes of the first field, its head of three included
abbrev pub extent : List ℕ → ℕ
extent file = 3 + length_in file

-- the first field, where it goes not past the end
abbrev pub first_field : List ℕ → Field
first_field file = field (slice_index file 0) (take (length_in file) (drop 3 file))

-- the fields of a file that has at most so many; none where a field or its head goes past the end. The bound is for the recursion only: from
-- the file's length on it does not matter (`fields-more` of proofs/FieldLaws.antt)
unfoldable pub fields_up_to : ℕ → List ℕ → Option (List Field)
fields_up_to zero file = Some []
fields_up_to (suc most) file =
    if length file == 0 then Some []
    else (if nat_lt (length file) (extent file) then None
    else infront (first_field file) (fields_up_to most (drop (extent file) file)))

-- Rule Field: the fields of a file, no more than it has bytes
unfoldable pub fields : List ℕ → Option (List Field)
fields file = fields_up_to (length file) file

-- refusal 18: a field of the file, or its head, goes past the end
unfoldable pub runs_past : List ℕ → Bool
runs_past file = is_none (fields file)

-- the fields of a file that is not refused by 18
unfoldable pub fields_of : List ℕ → List Field
fields_of file = unwrap_or (fields file) []

-- the contents of the fields with a tag, in the file's order
unfoldable pub tagged : ℕ → List Field → List (List ℕ)
tagged k [] = []
tagged k (f ∷ fs) = if f.tag == k then f.contents ∷ tagged k fs else tagged k fs

-- whether there is just one of such contents, and it has that length
abbrev pub only_one : ℕ → List (List ℕ) → Bool
only_one len [] = false
only_one len (c ∷ []) = length c == len
only_one len (c ∷ d ∷ cs) = false

-- the first of such contents
abbrev pub only_contents : List (List ℕ) → List ℕ
only_contents [] = []
only_contents (c ∷ cs) = c

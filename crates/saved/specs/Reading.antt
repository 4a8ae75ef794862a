-- What the code answers on its way, in either edition: the next field of a file; the opening, what a field is held against, and what is found of
-- size and tally, with one field more; which lines are new, and the table that they give. The promises of the calls do not cite these.
-- Assumes nothing.
use Rattle.std.specs.Prelude.{◌≡◌, ℕ, ◌+◌, ◌<◌, ◌≤◌, Bool, true, false, not, ◌&&◌, List, [], length, take, drop, if◌then◌else◌}
use Rattle.std.specs.Prelude.{◌==◌, slice_index_or}
use Rattle.std.specs.Prelude.{Option, Some, None, is_none, Result, Ok, Err}
use Rattle.lists.specs.declared.refusal.Refusal.{Refusal}
use Rattle.lists.specs.declared.refusal.Refusal.TheVariants.{SizeOutOfRange, FieldPastEnd, SizeOrTallyField, FieldOrder}
use Rattle.lists.specs.Refusal.{Check, ensure, ◌and◌}
use Rattle.table.specs.Sizes.{is_size}
use Rattle.table.specs.Table.{stride}
use Rattle.plant.specs.declared.Tally.{Tally}
use Rattle.saved.specs.Bytes.{bytes_value, concat_of}
use Rattle.saved.specs.Fields.{Field, field, infront, extent, first_field, fields, runs_past, fields_of, only_contents}
use Rattle.saved.specs.Plant.{size_tag, size_length, tally_tag, tally_length, plant_check, station_in, line_in, fits, of_station}
use Rattle.saved.specs.Order.{opens, after_opening, behind, order_check}
use Rattle.saved.specs.Load.{loaded_of}
use Rattle.saved.specs.Edition1.{converted_line}
use Rattle.saved.specs.Edition1.{stride as old_stride}
use Rattle.saved.specs.Convert.{all_known}
use Rattle.saved.specs.declared.Loaded.{Loaded}
use Rattle.saved.specs.declared.edition.Edition.{Edition}
use Rattle.saved.specs.declared.edition.Edition.TheVariants.{One, Two}
use Rattle.saved.specs.declared.fields.Field.{Field as FieldRead}
use Rattle.saved.specs.declared.first_pass.Found.{Found}
use Rattle.saved.specs.declared.order.Previous.{Previous}

-- what the code's Field stands for
abbrev pub field_value : FieldRead → Field
field_value f = field f.tag f.contents.now

-- what the cursor answers where the rest of a file is to be read, and what it leaves of the rest: without a field it stays
abbrev pub Reads : List ℕ → Result (Option FieldRead) Refusal → List ℕ → Type 0
Reads rest (Err r) left = (fields rest ≡ None) × (r ≡ FieldPastEnd) × (left ≡ rest)
Reads rest (Ok None) left = (fields rest ≡ Some []) × (left ≡ rest)
Reads rest (Ok (Some f)) left = (fields rest ≡ infront (field_value f) (fields left)) × (length left < length rest)

-- the same of the field read alone, whatever stands behind it
abbrev pub ReadsFirst : List ℕ → Result (Option FieldRead) Refusal → List ℕ → Type 0
ReadsFirst rest (Err r) left = length rest < extent rest
ReadsFirst rest (Ok None) left = length rest ≡ 0
ReadsFirst rest (Ok (Some f)) left = (field_value f ≡ first_field rest) × (extent rest ≤ length rest) × (left ≡ drop (extent rest) rest)

-- whether fields open as the edition says, and those behind the opening, which edition 1 has not
abbrev pub opens_as : Edition → List Field → Bool
opens_as One fs = true
opens_as Two fs = opens fs

abbrev pub behind_opening : Edition → List Field → List Field
behind_opening One fs = fs
behind_opening Two fs = after_opening fs

-- what is answered of the opening where the rest of a file is to be read, and what is left of the rest
abbrev pub Opens : Edition → List ℕ → Result Bool Refusal → List ℕ → Type 0
Opens e rest (Err r) left = (runs_past rest ≡ true) × (r ≡ FieldPastEnd)
Opens e rest (Ok opens) left =
    (runs_past left ≡ runs_past rest)
    × (runs_past rest ≡ false → (opens ≡ opens_as e (fields_of rest)) × (fields_of left ≡ behind_opening e (fields_of rest)))

-- what the next field is held against, by edition: the fields of edition 1 stand in any order
abbrev pub behind_as : Edition → Previous → Field → Previous
behind_as One b f = b
behind_as Two b f = behind b f

-- what is found of size and tally, with one field more: refused where that is not the first with its tag, or has the wrong length
unfoldable pub found_with : Found → Field → Result Found Refusal
found_with o f =
    if f.tag == size_tag
    then (ensure (length f.contents == size_length && is_none o.size) SizeOrTallyField
    and Ok (record { size = Some (bytes_value f.contents); tally = o.tally }))
    else (if f.tag == tally_tag
    then (ensure (length f.contents == tally_length && is_none o.tally) SizeOrTallyField
    and Ok (record { size = o.size; tally = Some (record { rounds = bytes_value (take 4 f.contents); tests = bytes_value (drop 4 f.contents) }) }))
    else Ok o)

-- size and tally, where both are found
abbrev pub both_found : Option ℕ → Option Tally → Result Loaded Refusal
both_found (Some size) (Some tally) = Ok (record { size = size; tally = tally })
both_found (Some size) None = Err SizeOrTallyField
both_found None tally = Err SizeOrTallyField

-- and the size is one
abbrev pub with_size : Result Loaded Refusal → Result Loaded Refusal
with_size (Ok l) = ensure (is_size l.size) SizeOutOfRange and Ok l
with_size (Err r) = Err r

abbrev pub complete : Found → Result Loaded Refusal
complete o = with_size (both_found o.size o.tally)

-- the fields' refusals 21 and 22, by edition
abbrev pub fields_check : Edition → List Field → Check
fields_check One fs = ensure (all_known fs) FieldOrder
fields_check Two fs = order_check fs

-- size and tally of a file, before its lines are read
unfoldable pub opened : Edition → List ℕ → Result Loaded Refusal
opened e file =
    ensure (not (runs_past file)) FieldPastEnd and fields_check e (fields_of file) and plant_check (fields_of file)
    and Ok (loaded_of (fields_of file))

-- the length of a line, by edition, and the line of n + 6 bytes that it gives
abbrev pub line_length : Edition → ℕ → ℕ
line_length One n = old_stride n
line_length Two n = stride n

abbrev pub line_as : Edition → List ℕ → List ℕ
line_as One l = converted_line l
line_as Two l = l

-- the same of the contents of a line field
abbrev pub contents_length : Edition → ℕ → ℕ
contents_length e n = 1 + line_length e n

abbrev pub line_read : Edition → List ℕ → List ℕ
line_read e c = line_as e (line_in c)

-- the table of such lines, each station's, ascending
unfoldable pub table_read : Edition → ℕ → List (List ℕ) → List ℕ
table_read e n cs = concat_of (λ i. line_read e (only_contents (of_station i cs))) n

-- contents that fit, of a station not yet seen
abbrev pub is_new : ℕ → ℕ → List ℕ → List Bool → Bool
is_new len n c seen = fits len n c && not (slice_index_or seen (station_in c) false)

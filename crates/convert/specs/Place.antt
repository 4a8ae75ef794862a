-- At which byte a refused file is at fault, for people: where the field begins at which its refusal shows. A field that is there too often, too
-- short or wrong in itself is found so. Where a field is missing, none is at fault, and the place is the end of the file.
-- Assumes nothing.
use Rattle.std.specs.Prelude.{◌≡◌, ℕ, ◌≤◌, ◌<◌, Bool, zero, suc, ◌+◌, ◌&&◌, not, false, true, if◌then◌else◌, ◌==◌, nat_lt}
use Rattle.std.specs.Prelude.{List, length, drop, replicate, set, slice_index_or, Result, Ok, Err, Option, None, Some}
use Rattle.std.specs.Result.{result_map_both}
use Rattle.std.proofs.lemmas.List.Edits.{sets}
use Rattle.lists.specs.declared.refusal.Refusal.{Refusal}
use Rattle.lists.specs.declared.refusal.Refusal.TheVariants.{SizeOutOfRange, LineRule, RoundNotClosed, SizeOrTallyField, LineField}
use Rattle.lists.specs.declared.refusal.Refusal.TheVariants.{NoOpening, FieldOrder}
use Rattle.lists.specs.Refusal.{Check, ensure, ◌and◌}
use Rattle.table.specs.Table.{line_start}
use Rattle.table.specs.Fresh.{fresh_table}
use Rattle.table.specs.Rules.{table_check}
use Rattle.table.specs.declared.wiring.Wiring.TheVariants.{Cube}
use Rattle.saved.specs.Fields.{Field, extent, first_field}
use Rattle.saved.specs.Plant.{size_tag, line_tag, station_in, fits}
use Rattle.saved.specs.Order.{is_opening, nothing_before, follows}
use Rattle.saved.specs.Reading.{field_value, behind_as, found_with, contents_length, line_read}
use Rattle.saved.specs.declared.edition.Edition.{Edition}
use Rattle.saved.specs.declared.edition.Edition.TheVariants.{One, Two}
use Rattle.saved.specs.declared.fields.Field.{Field as FieldRead}
use Rattle.convert.specs.declared.place.Form.{Form}
use Rattle.convert.specs.declared.place.Lines.{Lines}
use Rattle.convert.specs.declared.place.Search.{Search}
use Rattle.convert.specs.declared.place.Search.TheVariants.{Opening, Order, SizeAndTally, Size, Line, Rules, Live, PastEnd}

-- where a field is out of order or unknown: in edition 2 that stands behind the opening
abbrev pub order_search : Edition → Search
order_search One = Order One nothing_before
order_search Two = Opening

-- what is looked for in the fields, by the refusal of a file of that edition and size
abbrev pub search_for : Form → Refusal → Search
search_for form NoOpening = Opening
search_for form FieldOrder = order_search form.edition
search_for form SizeOrTallyField = SizeAndTally (record { size = None; tally = None })
search_for form SizeOutOfRange = Size
search_for form LineField = Line (record { form = form; seen = replicate 64 false })
search_for form LineRule = Rules form
search_for form RoundNotClosed = Live
search_for form refusal = PastEnd

-- whether the contents of a line field have the length and the station of a line
abbrev pub is_line : Form → List ℕ → Bool
is_line form c = fits (contents_length form.edition form.size) form.size c

-- 20: a line that is none, or of a station seen before
abbrev pub lines_with : Lines → List ℕ → Result Lines Refusal
lines_with lines c =
    ensure (is_line lines.form c && not (slice_index_or lines.seen (station_in c) true)) LineField
    and Ok (record { form = lines.form; seen = set lines.seen (station_in c) true })

-- 3: a line by which a fresh table is refused
unfoldable pub rules_check : Form → List ℕ → Check
rules_check form c =
    ensure (is_line form c) LineRule
    and table_check Cube form.size (sets (fresh_table form.size) (line_start form.size (station_in c)) (line_read form.edition c))

-- 4: the line of a live board
abbrev pub live_check : List ℕ → Check
live_check c = ensure (not (slice_index_or c 1 1 == 0)) RoundNotClosed

-- the search with one field more, or the refusal that shows at it: 21 and 22 at a field that is not the opening, out of order or unknown; 19 at a
-- second one or one of a wrong length; 1 at the size; 20, 3 and 4 at a line
abbrev pub search_with : Search → Field → Result Search Refusal
search_with Opening f = ensure (is_opening f) NoOpening and Ok (Order Two nothing_before)
search_with (Order e before) f = ensure (follows before f) FieldOrder and Ok (Order e (behind_as e before f))
search_with (SizeAndTally found) f = result_map_both SizeAndTally (λ r. r) (found_with found f)
search_with Size f = ensure (not (f.tag == size_tag)) SizeOutOfRange and Ok Size
search_with (Line lines) f = if f.tag == line_tag then result_map_both Line (λ r. r) (lines_with lines f.contents) else Ok (Line lines)
search_with (Rules form) f = if f.tag == line_tag then (rules_check form f.contents and Ok (Rules form)) else Ok (Rules form)
search_with Live f = if f.tag == line_tag then (live_check f.contents and Ok Live) else Ok Live
search_with PastEnd f = Ok PastEnd

-- the bytes of a field, and of what is behind it where the search goes on
abbrev pub and_behind : ℕ → (Search → ℕ) → Result Search Refusal → ℕ
and_behind len behind (Ok search) = len + behind search
and_behind len behind (Err refusal) = 0

-- the bytes before the first of so many fields at which a refusal shows; a field that goes past the end ends the search, and shows 18
unfoldable pub place_up_to : ℕ → Search → List ℕ → ℕ
place_up_to zero search file = 0
place_up_to (suc most) search file =
    if nat_lt (length file) (extent file) then 0
    else and_behind (extent file) (λ s. place_up_to most s (drop (extent file) file)) (search_with search (first_field file))

-- Rule Place of a fault: of a file, no more fields than it has bytes
unfoldable pub place : Search → List ℕ → ℕ
place search file = place_up_to (length file) search file

-- what the code reads at the cursor, and what it leaves: the first field, where it lies whole in the rest of the file
abbrev pub ReadsWhole : List ℕ → Option FieldRead → List ℕ → Type 0
ReadsWhole rest None left = length rest < extent rest
ReadsWhole rest (Some f) left = (field_value f ≡ first_field rest) × (extent rest ≤ length rest) × (left ≡ drop (extent rest) rest)

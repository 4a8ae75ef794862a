-- The opening of edition 2, and the order of the fields behind it. Refusals 21 and 22.
-- Assumes nothing.
use Rattle.std.specs.Prelude.{ℕ, Bool, true, false, not, ◌&&◌, ◌||◌, List, [], ◌∷◌, length, if◌then◌else◌, ◌==◌, nat_le, slice_index}
use Rattle.lists.specs.declared.refusal.Refusal.TheVariants.{NoOpening, FieldOrder}
use Rattle.lists.specs.Refusal.{Check, ensure, ◌and◌}
use Rattle.saved.specs.Fields.{Field, field}
use Rattle.saved.specs.Plant.{size_tag, tally_tag, line_tag, station_in}
use Rattle.saved.specs.declared.order.Previous.{Previous}

-- Rule Opening: tag 4, one byte: 2
abbrev pub opening_tag : ℕ
opening_tag = 4

abbrev pub edition : ℕ
edition = 2

-- the opening, as a field
abbrev pub opening : Field
opening = field opening_tag (edition ∷ [])

-- whether a field is the opening
abbrev pub is_opening : Field → Bool
is_opening f = f.tag == opening_tag && (length f.contents == 1 && slice_index f.contents 0 == edition)

-- Rule Opening: whether the first field is the opening; if not, refusal 21
abbrev pub opens : List Field → Bool
opens [] = false
opens (f ∷ fs) = is_opening f

-- the fields behind the opening
abbrev pub after_opening : List Field → List Field
after_opening [] = []
after_opening (f ∷ fs) = fs

-- the tag is that of size, tally or line
abbrev pub is_known : ℕ → Bool
is_known tag = tag == size_tag || tag == tally_tag || tag == line_tag

abbrev pub is_line : Field → Bool
is_line f = f.tag == line_tag

-- what a field is held against: the tag of the field before it and the station of the previous line. Where there is none it is 0, and nothing is
-- below 0
abbrev pub nothing_before : Previous
nothing_before = record { tag = 0; station = 0 }

-- with one field more; an empty line field counts as station 0, as station_in has it
abbrev pub behind : Previous → Field → Previous
behind b f = record { tag = f.tag; station = if is_line f then station_in f.contents else b.station }

-- whether a field is in order and its tag known: the tag is not below the one before, and a line's station is not below the previous line's. The
-- opening's tag is not known here
abbrev pub follows : Previous → Field → Bool
follows b f = is_known f.tag && (nat_le b.tag f.tag && (not (is_line f) || nat_le b.station (station_in f.contents)))

-- Rule Order of fields: whether all fields behind some others are in order, with known tags; if not, refusal 22
unfoldable pub in_order : Previous → List Field → Bool
in_order b [] = true
in_order b (f ∷ fs) = follows b f && in_order (behind b f) fs

-- 21, then 22
unfoldable pub order_check : List Field → Check
order_check fs = ensure (opens fs) NoOpening and ensure (in_order nothing_before (after_opening fs)) FieldOrder

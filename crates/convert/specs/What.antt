-- What a stored file is, and what the program makes of it.
-- Assumes nothing.
use Rattle.std.specs.Prelude.{ℕ, Bool, List, ◌++◌, length, is_ok, Result, Ok, Err, if◌then◌else◌, ◌==◌, nat_lt, slice_index_or}
use Rattle.std.specs.Result.{result_map_both}
use Rattle.lists.specs.declared.refusal.Refusal.{Refusal}
use Rattle.lists.specs.Refusal.{Check}
use Rattle.table.specs.Table.{table_length}
use Rattle.saved.specs.Fields.{field_bytes}
use Rattle.saved.specs.Order.{opening, opening_tag}
use Rattle.saved.specs.Load.{file_size, load_check}
use Rattle.saved.specs.Save.{saved_length}
use Rattle.saved.specs.Convert.{convert_check}
use Rattle.saved.specs.Reading.{opened}
use Rattle.saved.specs.declared.Loaded.{Loaded}
use Rattle.saved.specs.declared.edition.Edition.{Edition}
use Rattle.saved.specs.declared.edition.Edition.TheVariants.{One, Two}
use Rattle.convert.specs.declared.what.Fault.{Fault}
use Rattle.convert.specs.declared.what.Fault.TheVariants.{TooLong, Refused}
use Rattle.convert.specs.declared.what.What.{What}
use Rattle.convert.specs.declared.what.What.TheVariants.{SecondEdition, FirstEdition, WithoutOpening, Damaged}
use Rattle.convert.specs.Place.{search_for, place}

-- the length of the greatest saved plant, that of 64 boards
abbrev pub greatest_saved : ℕ
greatest_saved = saved_length 64

-- what the reader says of a file, into a table of the right length, and what the converter says, into a buffer of the right length
abbrev pub reader_check : List ℕ → Check
reader_check file = load_check file (table_length (file_size file))

abbrev pub converter_check : List ℕ → Check
converter_check file = convert_check file (saved_length (file_size file))

abbrev pub edition_check : Edition → List ℕ → Check
edition_check One file = converter_check file
edition_check Two file = reader_check file

-- the size of a file, 0 where it has none
abbrev pub size_or_zero : Result Loaded Refusal → ℕ
size_or_zero (Ok l) = l.size
size_or_zero (Err r) = 0

-- a refusal of a file that is read as that edition, and the byte where it shows
abbrev pub fault_at : Edition → List ℕ → Refusal → Fault
fault_at e file r = Refused r (place (search_for (record { edition = e; size = size_or_zero (opened e file) }) r) file)

-- what is wrong with a file that is read as that edition, if anything: first that it is longer than any saved plant
unfoldable pub read_as : Edition → List ℕ → Result (Unit {0}) Fault
read_as e file =
    if nat_lt greatest_saved (length file) then Err TooLong
    else result_map_both (λ u. u) (fault_at e file) (edition_check e file)

-- whether it lacks nothing but the opening of edition 2: versions 0.9 and 0.10 wrote so
abbrev pub lacks_opening : List ℕ → Bool
lacks_opening file = is_ok (read_as Two (field_bytes opening ++ file))

-- what a file is by what is wrong with it as edition 2 and as edition 1, whether it lacks the opening, and whether it begins with the opening's tag
abbrev pub judged : Result (Unit {0}) Fault → Result (Unit {0}) Fault → Bool → Bool → What
judged (Ok u) first lacks begins = SecondEdition
judged (Err s) (Ok u) lacks begins = FirstEdition
judged (Err s) (Err f) lacks begins = if lacks then WithoutOpening else Damaged (if begins then s else f)

-- Rule What a file is: edition 2 where the reader takes it, edition 1 where the converter does, without the opening where the reader takes it with
-- one in front, and damaged otherwise: as edition 2 where it begins with the opening's tag
unfoldable pub what_of : List ℕ → What
what_of file = judged (read_as Two file) (read_as One file) (lacks_opening file) (slice_index_or file 0 0 == opening_tag)

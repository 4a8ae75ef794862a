-- Rule Converted files: which files the converter takes, and what is read of what it writes.
-- Assumes nothing.
use Rattle.std.specs.Prelude.{◌≡◌, true, false, ℕ, ◌&&◌, length, Ok}
use Rattle.std.specs.Result.{is_ok}
use mathlib.Core.List.{List, Permᴰ}
use Rattle.table.specs.Sizes.{is_size}
use Rattle.table.specs.Table.{table_length}
use Rattle.table.specs.Rules.{table_check}
use Rattle.table.specs.declared.wiring.Wiring.TheVariants.{Cube}
use Rattle.saved.specs.Fields.{runs_past, fields_of}
use Rattle.saved.specs.Load.{file_size, load_answer, load_after}
use Rattle.saved.specs.Save.{saved_length}
use Rattle.saved.specs.Edition1.{rules_check, reader_check, reader_answer, reader_after, converted_table}
use Rattle.saved.specs.Edition1.{table_length as old_table_length}
use Rattle.saved.specs.Convert.{all_known, convert_check, convert_after, converted_length}
use Rattle.saved.specs.Files.{AreBytes}

-- refusals 3 and 4 of edition 1 are those of the converted table
abbrev pub RulesConverted : Type 0
RulesConverted =
    (n : ℕ) (t : List ℕ) → is_size n ≡ true → length t ≡ old_table_length n → table_check Cube n (converted_table n t) ≡ rules_check n t

-- the converter takes just the files that the reader of edition 1 took and that have no other tags: into a buffer b of a saved plant's length,
-- where that reader had a table t of the right length
abbrev pub ConverterTakes : Type 0
ConverterTakes =
    (file t b : List ℕ) → length t ≡ old_table_length (file_size file) → length b ≡ saved_length (file_size file)
    → is_ok (convert_check file (length b)) ≡ (is_ok (reader_check file (length t)) && all_known (fields_of file))

-- a converted file is loaded as the plant that the reader of edition 1 read, its table converted: of a file that is converted into a buffer b,
-- and loaded from there into t', and that reader read it into t
abbrev pub ConvertedLoads : Type 0
ConvertedLoads =
    (file b t t' : List ℕ) → AreBytes file → convert_check file (length b) ≡ Ok tt
    → length t ≡ old_table_length (file_size file) → length t' ≡ table_length (file_size file)
    → (load_answer (convert_after file b) (length t') ≡ reader_answer file (length t))
    × (load_after (convert_after file b) t' ≡ converted_table (file_size file) (reader_after file t))

-- two files in which no field goes past the end, and whose fields are the same in some order, are converted alike, refused ones too
abbrev pub OrderIsFree : Type 0
OrderIsFree =
    (file file' : List ℕ) → runs_past file ≡ false → runs_past file' ≡ false → Permᴰ (fields_of file) (fields_of file') → (b : List ℕ)
    → (converted_length file ≡ converted_length file')
    × (convert_check file (length b) ≡ convert_check file' (length b))
    × (convert_after file b ≡ convert_after file' b)

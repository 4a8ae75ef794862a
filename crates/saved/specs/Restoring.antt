-- Rules Saved and loaded, and One form: loading restores what was saved, and what the reader takes is what saving gives.
-- Assumes nothing.
use Rattle.std.specs.Prelude.{◌≡◌, ℕ, ◌^◌, ◌<◌, List, length, Ok}
use Rattle.table.specs.Rules.{table_check}
use Rattle.table.specs.declared.wiring.Wiring.TheVariants.{Cube}
use Rattle.plant.specs.declared.Tally.{Tally}
use Rattle.saved.specs.Load.{load_check, saved_size, load_answer, loaded_figures, load_after}
use Rattle.saved.specs.Save.{saved, saved_length, save_check, save_after}
use Rattle.saved.specs.Files.{AreBytes}

abbrev pub SavedLength : Type 0
SavedLength = (n : ℕ) (t : List ℕ) (tally : Tally) → table_check Cube n t ≡ Ok tt → length (saved n t tally) ≡ saved_length n

-- a tally of 32 bits
abbrev pub IsTally : Tally → Type 0
IsTally tally = (tally.rounds < 2 ^ 32) × (tally.tests < 2 ^ 32)

-- loading a saved plant gives back size, tally and table: into any buffer b of the table's length
abbrev pub LoadRestores : Type 0
LoadRestores =
    (n : ℕ) (t : List ℕ) (tally : Tally) (b : List ℕ) → table_check Cube n t ≡ Ok tt → IsTally tally → length b ≡ length t
    → (saved_size (saved n t tally) ≡ Ok n)
    × (load_answer (saved n t tally) (length b) ≡ Ok (record { size = n; tally = tally }))
    × (load_after (saved n t tally) b ≡ t)

-- what a file says is saved as that very file: of a file that was loaded into a buffer b, saved into any buffer b' of the file's length
abbrev pub OneForm : Type 0
OneForm =
    (file b b' : List ℕ) → AreBytes file → load_check file (length b) ≡ Ok tt → length b' ≡ length file
    → let read = loaded_figures (load_answer file (length b)) in
    (save_check read.size (load_after file b) read.tally (length b') ≡ Ok tt) × (save_after read.size (load_after file b) read.tally b' ≡ file)

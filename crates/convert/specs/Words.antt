-- What the program says of a file and of its arguments.
-- Assumes nothing.
use Rattle.std.specs.Prelude.{List, ◌++◌, codes, decimal, string_bytes, ℕ}
use Rattle.lists.specs.Refusal.{number_of, refusal_words}
use Rattle.convert.specs.declared.call.WrongCall.{WrongCall}
use Rattle.convert.specs.declared.call.WrongCall.TheVariants.{NotText, WrongNumber, UnknownOption, NoSuchFile, Folder, CannotBeRead}
use Rattle.convert.specs.declared.what.Fault.{Fault}
use Rattle.convert.specs.declared.what.Fault.TheVariants.{TooLong, Refused}
use Rattle.convert.specs.declared.what.What.{What}
use Rattle.convert.specs.declared.what.What.TheVariants.{SecondEdition, FirstEdition, WithoutOpening, Damaged}

-- what is wrong with the arguments
abbrev pub wrong_call_words : WrongCall → List ℕ
wrong_call_words NotText = codes "convert: an argument is not text in UTF-8"
wrong_call_words WrongNumber = codes "convert: expected two file names, or --check and one"
wrong_call_words (UnknownOption word) =
    codes "convert: unknown option: " ++ (string_bytes word ++ codes " (see ./convert --help)")
wrong_call_words (NoSuchFile path) = codes "convert: no such file: " ++ string_bytes path
wrong_call_words (Folder path) = codes "convert: a folder, not a file: " ++ string_bytes path
wrong_call_words (CannotBeRead path) = codes "convert: cannot be read: " ++ string_bytes path

-- what is wrong with a file
abbrev pub fault_words : Fault → List ℕ
fault_words TooLong = codes "longer than any saved plant, which has 4,755 bytes at most"
fault_words (Refused refusal place) =
    codes "refused " ++ (decimal (number_of refusal) ++ (codes " at byte " ++ (decimal place ++ (codes ": " ++ refusal_words refusal))))

-- what a file is
abbrev pub what_words : What → List ℕ
what_words SecondEdition = codes "edition 2"
what_words FirstEdition = codes "edition 1"
what_words WithoutOpening = codes "saved by version 0.9 or 0.10: for edition 2 put the bytes 4 0 1 2 in front"
what_words (Damaged fault) = codes "damaged: " ++ fault_words fault

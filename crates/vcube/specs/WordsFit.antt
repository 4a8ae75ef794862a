-- All words have fewer bytes than the buffer for them: none is cut off, and a 0 ends each.
-- Assumes nothing.
use Rattle.std.specs.Prelude.{◌≡◌, ℕ, ◌<◌, List, length, Ok}
use Rattle.input.specs.Input.{read_input}
use Rattle.vcube.specs.Exports.{words_length, words_of_refusal, words_of_status, words_of_outcome, words_of_input, input_check}

-- Rule Buffer of words: a 0 ends the words of each refusal
abbrev pub RefusalWordsFit : Type 0
RefusalWordsFit = (number : ℕ) → length (words_of_refusal number) < words_length

-- of each status
abbrev pub StatusWordsFit : Type 0
StatusWordsFit = (number : ℕ) → length (words_of_status number) < words_length

-- of each outcome
abbrev pub OutcomeWordsFit : Type 0
OutcomeWordsFit = (number : ℕ) → length (words_of_outcome number) < words_length

-- and of each unreadable line, where the call is not refused for the lengths of schedule and buffer
abbrev pub InputWordsFit : ℕ → ℕ → List ℕ → Type 0
InputWordsFit schedule words input = input_check schedule words ≡ Ok tt → length (words_of_input input (read_input input)) < words_length

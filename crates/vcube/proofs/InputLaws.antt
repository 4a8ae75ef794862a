-- What a reading into a lent schedule with room for all entries answers.
-- Assumes nothing.
use mathlib.Core.Path.{◌≡◌, sym, ap}
use mathlib.Core.List.{List, []}
use Rattle.std.specs.Prelude.{Ok, Err}
use Prim.Native.Nat.{ℕ}
use lib.ListN.{length}
use lib.Seq.{sets}
use Rattle.input.specs.declared.reading.Parsed.{Parsed}
use Rattle.input.specs.declared.reading.Unread.{Unread}
use Rattle.input.specs.Input.{read_input, read_into}
use Rattle.input.specs.Fault.{parsed_of}
use Rattle.input.specs.Words.{fault_words}
use Rattle.input.proofs.AnswerLaws.{answer-ok, answer-err, read-whole}
use Rattle.vcube.specs.Exports.{input_out, words_of_input}

module _ (s input : List ℕ) (room : length s ≡ 8192) where
  pub entries_written : sets s 0 (read_into s input).schedule ≡ sets s 0 (read_input input).schedule
  entries_written = rw (read-whole s input room)

  module _ (p : Parsed) (e : parsed_of input (read_into s input) ≡ Ok p) where
    pub read_ok : (let r = read_input input in input_out p.size p.entries 0 ≡ input_out r.size r.entries r.unread)
    read_ok = let a = answer-ok input (read_input input) p (sym (rw (read-whole s input room) at e)) in rw (a.0, a.1, a.2)

    pub words_ok : words_of_input input (read_input input) ≡ []
    words_ok = let a = answer-ok input (read_input input) p (sym (rw (read-whole s input room) at e)) in rw a.0

  module _ (u : Unread) (e : parsed_of input (read_into s input) ≡ Err u) where
    pub read_err : (let r = read_input input in input_out u.before.size u.before.entries u.line ≡ input_out r.size r.entries r.unread)
    read_err = let a = answer-err input (read_input input) u (sym (rw (read-whole s input room) at e)) in rw (a.size, a.entries, a.line)

    pub words_err : words_of_input input (read_input input) ≡ fault_words u.fault
    words_err =
        let a = answer-err input (read_input input) u (sym (rw (read-whole s input room) at e)) in
        rw (a.unread, ← a.line) (ap fault_words (sym a.fault))

pub ruleset input_laws = (entries_written, read_ok, words_ok, read_err, words_err)

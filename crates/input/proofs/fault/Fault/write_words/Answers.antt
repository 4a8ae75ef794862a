-- Four texts, one behind the other.
use Rattle.std.specs.Prelude.{codes}
use Rattle.lists.proofs.Writing.{sets-four}
use Rattle.input.specs.Words.{found_words, expected_words}
use Rattle.input.proofs.fault.Fault.write_words.Goals as goal

pub returns-clause-written : goal.returns-clause-written
returns-clause-written c =
    let w = c.write_words-found.ensures in
    rw (
      c.write_at-3.ensures,
      c.write_at-2.ensures,
      c.write_at.ensures,
      c.as_bytes.ensures.value,
      c.as_bytes-2.ensures.value,
      c.as_bytes-expected.ensures.value,
      c.words.ensures.text,
      w.written,
      w.count,
    ) (sets-four c.args.buffer.now (found_words c.args.self.found) (codes " where ") (expected_words c.args.self.expected) (codes " is expected"))

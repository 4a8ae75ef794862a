-- The two digits, and what is said behind them.
use Rattle.std.proofs.Common.{◌≡◌, length, sym, arith}
use Rattle.std.specs.Prelude.{codes}
use Rattle.lists.proofs.Writing.{sets-behind}
use Rattle.input.specs.Words.{two_digits}
use Rattle.input.proofs.DigitLaws.{two_long}
use Rattle.input.proofs.fault.Found.write_named.Goals as goal

pub returns-in-Byte-clause-written : goal.returns-in-Byte-clause-written
returns-in-Byte-clause-written c =
    let b = c.in-Byte.byte in
    let two : length (two_digits b) ≡ 2 = two_long b (omega arith) in
    rw (c.in-Byte.is, c.write_at-in-Byte-2.ensures, c.write_at-in-Byte.ensures, c.as_bytes.ensures.value, c.two_digits.ensures)
    (sym (rw two at (sets-behind c.args.buffer.now (two_digits b) (codes " (hexadecimal)") c.args.at)))

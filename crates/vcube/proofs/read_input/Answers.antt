-- The words of the fault are written over zeros.
use Rattle.std.proofs.Common.{rules, ◌≡◌, length, replicate, sym, ◌∙◌}
use Rattle.vcube.proofs.InputLaws.{words_err}
use Rattle.vcube.proofs.read_input.Goals as goal

pub returns-in-Err-clause-words_written : goal.returns-in-Err-clause-words_written
returns-in-Err-clause-words_written c =
    let e = sym c.parse.ensures.answer ∙ c.in-Err.is in
    let w = words_err c.args.schedule.now c.args.input.now c.requires.schedule c.in-Err.unread e in
    let z : c.fill.new.self ≡ replicate (length c.args.words.now) 0 = search rules in
    rw (c.write_words.ensures.written, w, z, c.requires.words)

pub returns-in-Err-clause-words_fit : goal.returns-in-Err-clause-words_fit
returns-in-Err-clause-words_fit c =
    let e = sym c.parse.ensures.answer ∙ c.in-Err.is in
    rw (words_err c.args.schedule.now c.args.input.now c.requires.schedule c.in-Err.unread e) c.write_words.ensures.few

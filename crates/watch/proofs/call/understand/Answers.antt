-- The words besides the option are those that `retain` keeps.
use Rattle.std.proofs.Common.{◌≡◌, ◌∙◌, sym, filter, not, string_bytes, rules, tests, arith}
use Rattle.std.proofs.lemmas.Fn.{filter_same}
use Rattle.watch.specs.Call.{is_ring_option}
use Rattle.watch.proofs.CallLaws.{asked-many, asked-none, asked-one}
use Rattle.watch.proofs.call.understand.Goals as goal
use Rattle.watch.proofs.call.understand.Goals.{After-retain}

kept : (c : After-retain) → c.retain.new.self.items ≡ filter (λ w. not (is_ring_option (string_bytes w))) c.args.words.items
kept c = filter_same _ _ _ (λ x b f' k. search (rules, tests)) _ _ c.retain.ensures.filtered

pub returns-then-len-gt1 : goal.returns-then-len-gt1
returns-then-len-gt1 c =
    let k = kept (goal.at.returns-then-len-gt1 c).After-retain in
    sym (asked-many (λ w. string_bytes w) c.args.words.items c.retain.new.self.items c.retain.new.self.len c.retain.new.self.ok.0 k (omega arith))

pub returns-in-None : goal.returns-in-None
returns-in-None c =
    let k = kept (goal.at.returns-in-None c).After-retain in
    let n = c.retain.new.self.len in
    rw (c.wiring_in-wiring.ensures, c.deref.ensures.value)
    (sym (asked-none (λ w. string_bytes w) c.args.words.items c.retain.new.self.items n c.retain.new.self.ok.0 k c.in-None.ensures.cases.0))

pub returns : goal.returns
returns c =
    let k = kept (goal.at.returns c).After-retain in
    let n = c.retain.new.self.len in
    c.understand_word.ensures
    ∙ rw (c.wiring_in-wiring.ensures, c.deref.ensures.value)
    (sym (asked-one (λ w. string_bytes w) c.args.words.items c.retain.new.self.items n c.retain.new.self.ok.0 k _ c.in-Some.word (omega arith)
    c.in-Some.ensures.items))

-- The command that is built, argument by argument.
use Rattle.std.proofs.Common.{◌≡◌, ◌∙◌, ap₂, rules, codes}
use Rattle.std.proofs.lemmas.Result.{IfOk-weaker}
use Rattle.clap.specs.Walk.{rule_of}
use Rattle.clap.specs.Simple.{app_of, new_app, new_rule, with_rule}
use Rattle.sheet.specs.Call.{numbers_rule, sizes_rule}
use Rattle.sheet.proofs.CallLaws.{numbers_ruled}
use Rattle.sheet.proofs.call.command.Goals as goal

pub returns : goal.returns
returns c =
    let sizes_is : rule_of c.action-sizes.result ≡ sizes_rule = search rules in
    let new_is : rule_of c.new-2.result ≡ new_rule (codes "numbers") = search rules in
    let made = c.num_args-numbers.ensures in
    let numbers_is : rule_of c.num_args-numbers.result ≡ numbers_rule = numbers_ruled _ _ _ new_is made.0 made.1 in
    let named : app_of c.override_usage.result ≡ new_app (codes "sheet") = search rules in
    IfOk-weaker c.arg-2.result _ _ (λ r added. added.shape (search rules)
    ∙ ap₂ with_rule (c.in_ok-arg.ensures.shape (search rules) ∙ ap₂ with_rule named sizes_is) numbers_is) c.arg-2.ensures

-- By the flags and the numbers that clap found.
use Rattle.std.proofs.Common.{◌≡◌, ◌∙◌, ap, sym, refl, arith, map, inl, inr, length}
use Rattle.std.proofs.lemmas.Bool.Decides.{nat_tests}
use Rattle.std.proofs.lemmas.List.{length-map}
use Rattle.std.proofs.lemmas.Result.{err_from_is_err_and}
use Rattle.clap.specs.Matches.{found_of}
use Rattle.sheet.specs.Call.{asked_by}
use Rattle.sheet.proofs.CallLaws.{found_in, asks_nothing, asks_sheet, asks_sizes, asks_more}
use Rattle.sheet.proofs.call.call_of.Goals.{then-flags-gt1-via-then-flags-gt1, then-flags-gt1-via-else-flags-gt1+then-not-is_empty}
use Rattle.sheet.proofs.call.call_of.Goals as goal

pub returns-in_default : goal.returns-in_default
returns-in_default c =
    let all = found_in (found_of c.args.matches.now) _ _ _ _ c.get_count-flags.ensures.value c.get_raw.ensures refl c.unwrap_or-numbers.ensures in
    let none : length (map (λ v. v.now) c.unwrap_or-numbers.result.now) ≡ 0 = grind (arith, nat_tests, length-map, c.in_default.ensures.cases) in
    asks_nothing _ _ c.if-flags-eq0.true none ∙ all

pub returns-in_err-read : goal.returns-in_err-read
returns-in_err-read c =
    let all = found_in (found_of c.args.matches.now) _ _ _ _ c.get_count-flags.ensures.value c.get_raw.ensures refl c.unwrap_or-numbers.ensures in
    let numbers = ap (map (λ v. v.now)) c.in-Some.ensures.cases.0 in
    let wrong = err_from_is_err_and c.from_residual.result c.from_residual.ensures.1 in
    let read = rw c.as_bytes.ensures.value at c.in_err-read.ensures in
    rw (wrong.1, wrong.2) (asks_sheet c.get_count-flags.result _ _ _ c.if-flags-eq0.true read)
    ∙ (ap (asked_by c.get_count-flags.result) (sym numbers) ∙ all)

pub returns-then-flags-eq0 : goal.returns-then-flags-eq0
returns-then-flags-eq0 c =
    let all = found_in (found_of c.args.matches.now) _ _ _ _ c.get_count-flags.ensures.value c.get_raw.ensures refl c.unwrap_or-numbers.ensures in
    let numbers = ap (map (λ v. v.now)) c.in-Some.ensures.cases.0 in
    let read = rw c.as_bytes.ensures.value at c.in_ok-read.ensures in
    asks_sheet c.get_count-flags.result _ _ _ c.if-flags-eq0.true read ∙ (ap (asked_by c.get_count-flags.result) (sym numbers) ∙ all)

pub returns-then-flags-gt1 : goal.returns-then-flags-gt1
returns-then-flags-gt1 c =
    let all = found_in (found_of c.args.matches.now) _ _ _ _ c.get_count-flags.ensures.value c.get_raw.ensures refl c.unwrap_or-numbers.ensures in
    asks_more _ _ c.if-flags-eq0.false (elim c.then-flags-gt1.branch [
      | then-flags-gt1-via-then-flags-gt1 w ↦ inl w.if-flags-gt1.true
      | then-flags-gt1-via-else-flags-gt1+then-not-is_empty w ↦
          inr (grind (arith, nat_tests, length-map, w.is_empty.ensures, w.if-not-is_empty.ensures))
    ]) ∙ all

pub returns : goal.returns
returns c =
    let all = found_in (found_of c.args.matches.now) _ _ _ _ c.get_count-flags.ensures.value c.get_raw.ensures refl c.unwrap_or-numbers.ensures in
    let none : length (map (λ v. v.now) c.unwrap_or-numbers.result.now) ≡ 0 = grind (arith, nat_tests, length-map, c.is_empty.ensures) in
    asks_sizes _ _ c.if-flags-eq0.false (omega arith) none ∙ all

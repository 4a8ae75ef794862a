-- Laws of edition 1, of specs/Edition1: its rules are those of the converted table.
-- Assumes nothing.
use mathlib.Core.Path.{◌≡◌, sym, ap, ap₂, ◌∙◌}
use mathlib.Core.Bool.{Bool, true, not, ◌&&◌, and-true}
use Rattle.std.specs.Prelude.{nat_eq, nat_le}
use mathlib.Core.List.{List, ◌∷◌}
use Prim.Native.Nat.{ℕ, suc, ◌+◌, ◌-◌, ◌*◌, ◌≤◌, ◌<◌}
use native.Mathlib.Nat.{suc-mul, mul-le-mul_right}
use native.Mathlib.Omega.{arith}
use borrow.Author.Tests.{eqb-true, eq-eqb}
use lib.ListN.{length, get_or, take, drop, get_or-append, length-drop}
use lib.Seq.{length-take-le, get_or-take, get_or-drop, get_or-append_right}
use lib.Dec.{eqb}
use Rattle.lists.proofs.BoolLaws.{by_bool, every-same}
use Rattle.table.specs.Table.{line_start, cell}
use Rattle.table.specs.Table.{stride as stride_2, table_length as table_length_2, suspects as suspects_2}
use Rattle.table.specs.Rules.{exit_rule, suspicion_rule, shape_check, table_check, some_live, live_finished}
use Rattle.table.specs.Rules.{row_rule as row_rule_2, line_rules as line_rules_2, round_over as round_over_2}
use Rattle.table.specs.declared.wiring.Wiring.TheVariants.{Cube}
use Rattle.saved.specs.Fields.{only_contents}
use Rattle.saved.specs.Plant.{line_in, of_station, lines_right, table_in}
use Rattle.saved.specs.Edition1.{head, stride, table_length, line_field_length, cell as cell_1, row_rule, line_rules, round_over, rules_check}
use Rattle.saved.specs.Edition1.{told_by_of, converted_line, line_of, converted_table}
use Rattle.saved.specs.Reading.{line_read, table_read}
use Rattle.saved.specs.declared.edition.Edition.TheVariants.{One}
use Rattle.saved.specs.Converting.{RulesConverted}
use Rattle.saved.proofs.ConcatLaws.{concat-length, concat-same, concat-at}
use Rattle.saved.proofs.LineLaws.{line-of-station}
use Rattle.saved.proofs.SecondPass.{as-long}

-- bytes 4 and 5 as they are converted obey their rule
exit_converted : (n i s : ℕ) → exit_rule n i s (told_by_of s) 0 ≡ true
unfolding exit_rule
exit_converted n i s =
    by_bool (eqb s 0) (λ e. let z : s ≡ 0 = eqb-true s 0 e in rw z)
    (λ e. by_bool (eqb s 2) (λ f. rw (e, f)) (λ f. rw (e, f)))

-- of a table of edition 1
module _ (n : ℕ) (t : List ℕ) (long : length t ≡ table_length n) where
  inside : (i : ℕ) → i < n → i * stride n + stride n ≤ length t
  inside i h = omega (arith, long, suc-mul i (stride n), mul-le-mul_right {m = suc i} {n = n} (stride n) h)

  line-long : (i : ℕ) → i < n → length (line_of n t i) ≡ stride n
  unfolding line_of
  line-long i h = length-take-le (stride n) (drop (i * stride n) t) (omega (arith, inside i h, length-drop (i * stride n) t))

  line-at : (i c : ℕ) → c < stride n → get_or (line_of n t i) c 0 ≡ cell_1 n t i c
  unfolding line_of cell_1
  line-at i c h = get_or-take (stride n) (drop (i * stride n) t) c 0 h ∙ get_or-drop (i * stride n) t c 0

  converted-long : (i : ℕ) → i < n → length (converted_line (line_of n t i)) ≡ stride_2 n
  converted-long i h = as-long One n (line_of n t i) (line-long i h)

  pub length-converted : length (converted_table n t) ≡ table_length_2 n
  unfolding converted_table table_length_2
  length-converted = concat-length (λ i. converted_line (line_of n t i)) (stride_2 n) n converted-long

  -- a byte of the converted table is that of the converted line
  converted-at : (i c : ℕ) → i < n → c < stride_2 n → cell n (converted_table n t) i c ≡ get_or (converted_line (line_of n t i)) c 0
  unfolding cell line_start converted_table
  converted-at i c h b =
      sym (get_or-take (stride_2 n) (drop (i * stride_2 n) (converted_table n t)) c 0 b
      ∙ get_or-drop (i * stride_2 n) (converted_table n t) c 0)
      ∙ ap (λ (l : List ℕ). get_or l c 0) (concat-at (λ j. converted_line (line_of n t j)) (stride_2 n) n i converted-long h)

  module _ (i : ℕ) (h : i < n) where
    abbrev line : List ℕ
    line = line_of n t i

    abbrev behind : List ℕ
    behind = told_by_of (get_or line 0 0) ∷ 0 ∷ drop head line

    four : length (take head line) ≡ 4
    four = length-take-le head line (omega (arith, line-long i h))

    -- bytes 0 to 3 stay
    head-stays : (c : ℕ) → c < 4 → cell n (converted_table n t) i c ≡ cell_1 n t i c
    unfolding converted_line
    head-stays c b =
        converted-at i c h (omega arith) ∙ get_or-append (take head line) behind 0 c (omega (arith, four)) ∙ get_or-take head line c 0 b
        ∙ line-at i c (omega arith)

    -- those behind them
    behind-at : (k : ℕ) → 4 + k < stride_2 n → cell n (converted_table n t) i (4 + k) ≡ get_or behind k 0
    unfolding converted_line
    behind-at k b =
        let e : 4 + k - length (take head line) ≡ k = omega (arith, four) in
        converted-at i (4 + k) h b ∙ get_or-append_right (take head line) behind (4 + k) 0 (omega (arith, four))
        ∙ ap (λ (j : ℕ). get_or behind j 0) e

    by-converted : cell n (converted_table n t) i 4 ≡ told_by_of (cell_1 n t i 0)
    by-converted = behind-at 0 (omega arith) ∙ ap told_by_of (line-at i 0 (omega arith))

    ago-converted : cell n (converted_table n t) i 5 ≡ 0
    ago-converted = behind-at 1 (omega arith)

    row-stays : (k : ℕ) → k < n → suspects_2 n (converted_table n t) i k ≡ cell_1 n t i (head + k)
    row-stays k b =
        let e : 4 + suc (suc k) ≡ 6 + k = omega arith in
        let r = behind-at (suc (suc k)) (omega arith) in
        rw e at (r ∙ get_or-drop head line k 0 ∙ line-at i (head + k) (omega arith))

    row-same : row_rule_2 n (converted_table n t) i ≡ row_rule n t i
    unfolding row_rule_2 row_rule
    row-same =
        ap₂ (λ (a : ℕ) (b : Bool). nat_eq a 0 && b) (row-stays i h)
        (every-same (suspicion_rule n (converted_table n t) i) (λ k. nat_le (cell_1 n t i (head + k)) 1) n
        (λ k b. ap (λ (v : ℕ). nat_le v 1) (row-stays k b)))

    rules-same : line_rules_2 Cube n (converted_table n t) i ≡ line_rules n t i
    unfolding line_rules_2 line_rules
    rules-same =
        rw (
          head-stays 0 (omega arith),
          head-stays 1 (omega arith),
          head-stays 2 (omega arith),
          head-stays 3 (omega arith),
          by-converted,
          ago-converted,
          exit_converted n i (cell_1 n t i 0),
          row-same,
          and-true,
        )

  over-same : round_over_2 n (converted_table n t) ≡ round_over n t
  unfolding some_live live_finished round_over
  over-same =
      ap₂ (λ (a b : Bool). not a && b)
      (every-same _ _ n (λ i h. rw (head-stays i h 0 (omega arith))))
      (every-same _ _ n (λ i h. rw (head-stays i h 0 (omega arith), head-stays i h 2 (omega arith))))

pub rules-converted : RulesConverted
unfolding table_check shape_check rules_check
rules-converted n t size long =
    let e = eq-eqb (length (converted_table n t)) (table_length_2 n) (length-converted n t long) in
    rw (size, e, every-same _ _ n (λ i h. rules-same n t long i h), over-same n t long)

-- lines of edition 1 that are right: their table, and the converted one
module _ (n : ℕ) (cs : List (List ℕ)) (right : lines_right (line_field_length n) n cs ≡ true) where
  old-line : (i : ℕ) → i < n → length (line_in (only_contents (of_station i cs))) ≡ stride n
  old-line i h = line-of-station (stride n) n cs right i h

  pub length-in : length (table_in n cs) ≡ table_length n
  unfolding table_in
  length-in = concat-length (λ i. line_in (only_contents (of_station i cs))) (stride n) n old-line

  pub read-converted : table_read One n cs ≡ converted_table n (table_in n cs)
  unfolding table_read converted_table line_of table_in
  read-converted =
      concat-same (λ i. line_read One (only_contents (of_station i cs)))
      (λ i. converted_line (take (stride n) (drop (i * stride n) (table_in n cs)))) n
      (λ i h. ap converted_line (sym (concat-at (λ i. line_in (only_contents (of_station i cs))) (stride n) n i old-line h)))

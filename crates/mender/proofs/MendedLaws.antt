-- The mended table keeps all rules; a table that does is not changed.
-- Assumes nothing.
use mathlib.Core.Path.{◌≡◌, refl, sym, ap, ◌∙◌}
use mathlib.Core.Bool.{Bool, true, false, not, cond, ◌&&◌, ◌||◌}
use mathlib.Core.List.{List}
use mathlib.Core.Logic.{◌≢◌}
use Prim.Native.Nat.{ℕ, ◌+◌, ◌-◌, ◌≤◌, ◌<◌}
use native.Mathlib.Omega.{arith}
use borrow.Author.Tests.{leb-true, leb-false, eqb-true, eqb-false, le-leb, le-ltb, eq-eqb}
use lib.Dec.{leb, eqb, ltb}
use lib.ListN.{length}
use Rattle.std.specs.Prelude.{Ok}
use Rattle.std.proofs.lemmas.Bool.Decides.{nat_tests}
use Rattle.lists.specs.Search.{every}
use Rattle.lists.proofs.SearchLaws.{both, every-at, every-all}
use Rattle.lists.proofs.BoolLaws.{by_bool, every-same}
use Rattle.table.specs.Sizes.{is_size}
use Rattle.table.specs.Wiring.{end_distance}
use Rattle.table.specs.Table.{head, stride, table_length, cell, status_told, told_by_none}
use Rattle.table.specs.Table.{status, next_distance, finished, tests_made, told_by, rounds_ago, suspects}
use Rattle.table.specs.Rules.{pass_rule, exit_rule, suspicion_rule, row_rule, line_rules, shape_check, table_check}
use Rattle.table.specs.Rules.{not_live, some_live, finished_if_live, live_finished, round_over}
use Rattle.table.proofs.WiringLaws.{end-pos}
use Rattle.table.proofs.Accepting.{Accepted}
use Rattle.table.specs.declared.wiring.Wiring.{Wiring}
use Rattle.mender.specs.Mended.{mended_status, keeps_pass, mended_told_by, mended_rounds_ago, mended_suspicion, new_status, new_told_by}
use Rattle.mender.specs.Mended.{line_byte, table_of, lines_mended, mended_byte, mended}
use Rattle.mender.proofs.CellLaws.{table_of-length, table_of-cell, table_of-is, outside-pass, row-byte}

-- whether the round is over once each line is mended
abbrev pub is_over : Wiring → ℕ → List ℕ → Bool
is_over w n t = round_over n (lines_mended w n t)

pub mended-length : (w : Wiring) (n : ℕ) (t : List ℕ) → length (mended w n t) ≡ table_length n
unfolding mended
mended-length w n t = table_of-length n (mended_byte w n t (is_over w n t))

mended-cell : (w : Wiring) (n : ℕ) (t : List ℕ) (i c : ℕ) → i < n → c < stride n → cell n (mended w n t) i c ≡ mended_byte w n t (is_over w n t) i c
unfolding mended
mended-cell w n t i c h hc = table_of-cell n (mended_byte w n t (is_over w n t)) i c h hc

-- the status, byte 4, byte 5 and the row after mending
pub status-mended : (w : Wiring) (n : ℕ) (t : List ℕ) (i : ℕ) → i < n → status n (mended w n t) i ≡ new_status n t i
unfolding line_byte
status-mended w n t i h = mended-cell w n t i 0 h (omega arith) ∙ outside-pass w n t (is_over w n t) i 0 refl

told_by-mended : (w : Wiring) (n : ℕ) (t : List ℕ) (i : ℕ) → i < n → told_by n (mended w n t) i ≡ new_told_by n t i
unfolding line_byte
told_by-mended w n t i h = mended-cell w n t i 4 h (omega arith) ∙ outside-pass w n t (is_over w n t) i 4 refl

rounds_ago-mended : (w : Wiring) (n : ℕ) (t : List ℕ) (i : ℕ) → i < n
    → rounds_ago n (mended w n t) i ≡ mended_rounds_ago n i (new_status n t i) (new_told_by n t i) (rounds_ago n t i)
unfolding line_byte
rounds_ago-mended w n t i h = mended-cell w n t i 5 h (omega arith) ∙ outside-pass w n t (is_over w n t) i 5 refl

pub suspects-mended : (w : Wiring) (n : ℕ) (t : List ℕ) (i k : ℕ) → i < n → k < n
    → suspects n (mended w n t) i k ≡ mended_suspicion i k (suspects n t i k)
suspects-mended w n t i k h hk = mended-cell w n t i (head + k) h (omega arith) ∙ row-byte w n t (is_over w n t) i k

-- bytes 1 to 3 after mending
pub record PassMended (w : Wiring) (n : ℕ) (t : List ℕ) (over : Bool) (next finished' tests : ℕ) (i : ℕ) : Type 0 where
  pub next_is : next ≡ cond over 1 (cond (keeps_pass w n t i) (next_distance n t i) 1)
  pub finished_is : finished' ≡ cond over 0 (cond (keeps_pass w n t i) (finished n t i) 0)
  pub tests_is : tests ≡ cond over 0 (cond (keeps_pass w n t i) (tests_made n t i) 0)

pass-bytes : (w : Wiring) (n : ℕ) (t : List ℕ) (over : Bool) (i : ℕ)
    → PassMended w n t over (mended_byte w n t over i 1) (mended_byte w n t over i 2) (mended_byte w n t over i 3) i
unfolding mended_byte line_byte
pass-bytes w n t true i = record { next_is = refl; finished_is = refl; tests_is = refl }
pass-bytes w n t false i = record { next_is = refl; finished_is = refl; tests_is = refl }

pass-mended : (w : Wiring) (n : ℕ) (t : List ℕ) (i : ℕ) → i < n
    → PassMended w n t (is_over w n t) (next_distance n (mended w n t) i) (finished n (mended w n t) i) (tests_made n (mended w n t) i) i
pass-mended w n t i h =
    let b = pass-bytes w n t (is_over w n t) i in
    record {
      next_is = mended-cell w n t i 1 h (omega arith) ∙ b.next_is;
      finished_is = mended-cell w n t i 2 h (omega arith) ∙ b.finished_is;
      tests_is = mended-cell w n t i 3 h (omega arith) ∙ b.tests_is;
    }

-- 1, 0, 0 keep the rules of bytes 1 to 3
start-kept : (end : ℕ) → 1 ≤ end → pass_rule end 1 0 0 ≡ true
start-kept end low = rw (le-leb 1 end low) refl

pass-right : (w : Wiring) (n : ℕ) (t : List ℕ) (i : ℕ) (over : Bool) (x f m : ℕ) → 1 ≤ end_distance w n → PassMended w n t over x f m i
    → pass_rule (end_distance w n) x f m ≡ true
pass-right w n t i over x f m low p =
    rw (p.next_is, p.finished_is, p.tests_is)
    (by_bool over (λ e. rw e (start-kept (end_distance w n) low))
    (λ e. rw e (by_bool (keeps_pass w n t i) (λ k. rw k k) (λ k. rw k (start-kept (end_distance w n) low)))))

status-right : (s : ℕ) → leb (mended_status s) 3 ≡ true
status-right s = by_bool (leb s 3) (λ e. rw e e) (λ e. rw e refl)

told-right : (n i s by : ℕ) → exit_rule n i s (mended_told_by n i s by) 0 ≡ true
unfolding exit_rule
told-right n i s by =
    by_bool (exit_rule n i s by 0) (λ e. rw e e)
    (λ e.
    rw e (by_bool (eqb s 0) (λ z. let live : s ≡ 0 = eqb-true s 0 z in rw live refl)
    (λ z. by_bool (eqb s status_told) (λ d. rw (z, d) refl) (λ d. rw (z, d) refl))))

rounds-right : (n i s by ago : ℕ) → exit_rule n i s by 0 ≡ true → exit_rule n i s by (mended_rounds_ago n i s by ago) ≡ true
rounds-right n i s by ago z = by_bool (exit_rule n i s by ago) (λ e. rw e e) (λ e. rw e z)

row-right : (i k byte : ℕ) → leb (mended_suspicion i k byte) 1 ≡ true
row-right i k byte = grind (arith, nat_tests)

pub suspicion-was : (i k byte : ℕ) → mended_suspicion i k byte ≡ 1 → byte ≡ 1
suspicion-was i k byte e = by_bool (eqb k i || ltb 1 byte) (λ d. let z = rw d at e in absurd (omega arith)) (λ d. rw d at e)

own-right : (i byte : ℕ) → mended_suspicion i i byte ≡ 0
own-right i byte = rw (eq-eqb i i refl) refl

line-right : (w : Wiring) (n : ℕ) (t : List ℕ) (i : ℕ) → i < n → line_rules w n (mended w n t) i ≡ true
unfolding line_rules row_rule
line-right w n t i h =
    let u = mended w n t in
    let exits : exit_rule n i (status n u i) (told_by n u i) (rounds_ago n u i) ≡ true =
    rw (status-mended w n t i h, told_by-mended w n t i h, rounds_ago-mended w n t i h)
    (rounds-right n i (new_status n t i) (new_told_by n t i) (rounds_ago n t i) (told-right n i (new_status n t i) (told_by n t i))) in
    let own : suspects n u i i ≡ 0 = suspects-mended w n t i i h h ∙ own-right i (suspects n t i i) in
    let kept : leb (status n u i) 3 ≡ true = rw (status-mended w n t i h) (status-right (status n t i)) in
    let pass = pass-right w n t i (is_over w n t) _ _ _ (end-pos w n i h) (pass-mended w n t i h) in
    rw (kept, pass, exits, own)
    (every-all (suspicion_rule n u i) n (λ k hk. rw (suspects-mended w n t i k h hk) (row-right i k (suspects n t i k))))

-- with no restart the table is that of the mended lines
no-restart : (w : Wiring) (n : ℕ) (t : List ℕ) → is_over w n t ≡ false → mended w n t ≡ lines_mended w n t
unfolding mended table_of mended_byte
no-restart w n t e = rw e refl

-- with it no station has finished its pass
not-both : (b : Bool) → (not b && b) ≡ false
not-both true = refl
not-both false = refl

restarted : (n : ℕ) (u : List ℕ) → ((i : ℕ) → i < n → finished n u i ≡ 0) → round_over n u ≡ false
unfolding some_live live_finished
restarted n u none =
    rw (every-same (finished_if_live n u) (not_live n u) n (λ i h. rw (none i h) (or-false (not_live n u i)))) (not-both (every (not_live n u) n))
  where
    or-false : (b : Bool) → (b || false) ≡ b
    or-false true = refl
    or-false false = refl

mended-open : (w : Wiring) (n : ℕ) (t : List ℕ) → round_over n (mended w n t) ≡ false
mended-open w n t =
    by_bool (is_over w n t)
    (λ e. restarted n (mended w n t) (λ i h. (pass-mended w n t i h).finished_is ∙ rw e refl))
    (λ e. ap (round_over n) (no-restart w n t e) ∙ e)

pub mended-passes : (w : Wiring) (n : ℕ) (t : List ℕ) → is_size n ≡ true → table_check w n (mended w n t) ≡ Ok tt
unfolding table_check shape_check
mended-passes w n t size =
    rw (
      size,
      eq-eqb (length (mended w n t)) (table_length n) (mended-length w n t),
      every-all (line_rules w n (mended w n t)) n (line-right w n t),
      mended-open w n t,
    ) refl

-- a line that keeps its rules
exit-zero : (n i s by ago : ℕ) → exit_rule n i s by ago ≡ true → exit_rule n i s by 0 ≡ true
unfolding exit_rule
exit-zero n i s by ago e =
    by_bool (eqb s 0) (λ z. rw z (let a = both (eqb by told_by_none) (eqb ago 0) (rw z at e) in rw a.0 refl))
    (λ z. rw z (rw z at e))

good-byte : (w : Wiring) (n : ℕ) (t : List ℕ) (i c : ℕ) → line_rules w n t i ≡ true → i < n → c < stride n → line_byte w n t i c ≡ cell n t i c
unfolding line_byte line_rules row_rule
good-byte w n t i c e h hc =
    let a = both _ _ e in
    let b = both _ _ a.0 in
    let d = both _ _ b.0 in
    let r = both _ _ a.1 in
    let live : leb (status n t i) 3 ≡ true = d.0 in
    let pass : keeps_pass w n t i ≡ true = d.1 in
    let exits : exit_rule n i (status n t i) (told_by n t i) (rounds_ago n t i) ≡ true = b.1 in
    let zero = exit-zero n i (status n t i) (told_by n t i) (rounds_ago n t i) exits in
    by_bool (eqb c 0) (λ z. rw (z, live, eqb-true c 0 z) refl)
    (λ z. by_bool (leb c 3) (λ y. rw (z, y, pass) refl)
    (λ y. by_bool (eqb c 4) (λ x. rw (z, y, x, live, zero, eqb-true c 4 x) refl)
    (λ x. by_bool (eqb c 5) (λ w. rw (z, y, x, w, live, zero, exits, eqb-true c 5 w) refl)
    (λ w. rw (z, y, x, w) (row-kept (eqb-false c 0 z) (eqb-false c 4 x) (eqb-false c 5 w) (leb-false c 3 y) r)))))
  where
    row-kept : c ≢ 0 → c ≢ 4 → c ≢ 5 → 3 < c → (eqb (suspects n t i i) 0 ≡ true) × (every (suspicion_rule n t i) n ≡ true)
        → mended_suspicion i (c - head) (cell n t i c) ≡ cell n t i c
    row-kept c0 c4 c5 c3 r =
        let k = c - head in
        let here : head + k ≡ c = omega arith in
        let kept = every-at (suspicion_rule n t i) n k r.1 (omega arith) in
        ap (λ (x : ℕ). mended_suspicion i k (cell n t i x)) (sym here)
        ∙ stays k (eqb-true (suspects n t i i) 0 r.0) (leb-true (suspects n t i k) 1 kept)
        ∙ ap (cell n t i) here
      where
        stays : (k : ℕ) → suspects n t i i ≡ 0 → suspects n t i k ≤ 1 → mended_suspicion i k (suspects n t i k) ≡ suspects n t i k
        stays k own low =
            by_bool (eqb k i) (λ e. rw e (sym (ap (suspects n t i) (eqb-true k i e) ∙ own))) (λ e. rw (e, le-ltb 1 (suspects n t i k) low) refl)

good-lines : (w : Wiring) (n : ℕ) (t : List ℕ) → Accepted w n t → lines_mended w n t ≡ t
good-lines w n t a =
    table_of-is n (line_byte w n t) t a.long
    (λ i c h hc. good-byte w n t i c (every-at (line_rules w n t) n i a.lines h) h hc)

pub good-stays : (w : Wiring) (n : ℕ) (t : List ℕ) → Accepted w n t → mended w n t ≡ t
good-stays w n t a =
    let over : is_over w n t ≡ false = ap (round_over n) (good-lines w n t a) ∙ a.unclosed in
    no-restart w n t over ∙ good-lines w n t a

-- How far the loops over the table have come: the bytes before place p are mended, and their changes are listed.
-- Assumes nothing.
use mathlib.Core.Path.{◌≡◌, refl, sym, ap, ap₂, subst, ◌∙◌}
use mathlib.Core.Bool.{Bool, true, cond}
use mathlib.Core.List.{List, ◌∷◌, [], ◌++◌, append-nil, map}
use Prim.Native.Nat.{ℕ, zero, suc, ◌+◌, ◌-◌, ◌*◌, ◌≤◌, ◌<◌}
use native.Mathlib.Numerals.{add-one}
use native.Mathlib.Nat.{mul-le-mul, suc-mul, zero-mul}
use native.Mathlib.Decide.{le_ind}
use native.Mathlib.Omega.{arith}
use borrow.Author.Tests.{eqb-true, eq-eqb, leb-true, le-ltb}
use lib.Dec.{eqb}
use lib.ListN.{length, get_or, set, length-append}
use lib.Seq.{sets, ext_get_or}
use Rattle.std.specs.List.{flat_map}
use Rattle.std.proofs.lemmas.List.{map-append, set-get_or}
use Rattle.std.proofs.lemmas.Grind.{flat_map-append}
use Rattle.lists.specs.Search.{every, list_of, select}
use Rattle.lists.proofs.Loops.{fill-next}
use Rattle.lists.proofs.Writing.{sets-ahead, sets-all}
use Rattle.lists.proofs.SearchLaws.{both, every-at, list_of-length, list_of-at}
use Rattle.lists.proofs.BoolLaws.{by_bool}
use Rattle.lists.proofs.FilterLaws.{select-suc}
use Rattle.table.specs.declared.lent.Table.{Table}
use Rattle.table.specs.Sizes.{is_size}
use Rattle.table.specs.Table.{head, stride, table_length, line_start, cell}
use Rattle.table.specs.Rules.{suspicion_rule, row_rule}
use Rattle.table.proofs.SizeLaws.{size-bounds}
use Rattle.table.specs.declared.wiring.Wiring.{Wiring}
use Rattle.mender.specs.declared.report.Change.{Change}
use Rattle.mender.specs.Report.{differs, change_at, changes, change_bytes}
use Rattle.mender.specs.declared.mending.Mending.{Mending}
use Rattle.mender.specs.Mended.{table_of, mended_byte, mended_suspicion}
use Rattle.mender.specs.Mending.{IsSameMending, with_change, count_with}
use Rattle.mender.proofs.CellLaws.{inside, table_of-length, table_of-at, row-byte, head-same}

-- a place in a table has a number of two bytes
pub place_low : (n len at : ℕ) → is_size n ≡ true → len ≡ table_length n → at < len → at < 65536
unfolding table_length
place_low n len at e l h =
    let b = size-bounds n e in
    let wide : n + 6 ≤ 70 = omega arith in
    let most : n * (n + 6) ≤ 64 * 70 = mul-le-mul b.1 wide in
    omega arith

-- the changes before place p
abbrev pub changes_below : List ℕ → List ℕ → ℕ → List Change
changes_below old new p = map (change_at old new) (select (differs old new) p)

-- the table t is mended to u, and r was the report: before place p
pub record Progress (t u r : List ℕ) (p : ℕ) (table report : List ℕ) (count : ℕ) : Type 0 where
  pub bytes : table ≡ sets t 0 (list_of (λ q. get_or u q 0) p)
  pub listed : report ≡ sets r 0 (flat_map change_bytes (changes_below t u p))
  pub counted : count ≡ length (changes_below t u p)

-- one more change, if there is one
changes-suc : (t u : List ℕ) (p : ℕ) → changes_below t u (suc p) ≡ changes_below t u p ++ cond (differs t u p) (change_at t u p ∷ []) []
changes-suc t u p =
    ap (map (change_at t u)) (select-suc (differs t u) p) ∙ map-append (change_at t u) (select (differs t u) p) (cond (differs t u p) (p ∷ []) [])
    ∙ by_bool (differs t u p) (λ e. rw e) (λ e. rw e)

-- four bytes for each
pub listed-length : (cs : List Change) → length (flat_map change_bytes cs) ≡ 4 * length cs
listed-length [] = refl
listed-length (c ∷ cs) = omega (arith, listed-length cs)

sets-append : (l xs ys : List ℕ) (a : ℕ) → sets l a (xs ++ ys) ≡ sets (sets l a xs) (a + length xs) ys
sets-append l [] ys a = let e : a + 0 ≡ a = omega arith in rw e refl
sets-append l (x ∷ xs) ys a = let e : a + suc (length xs) ≡ suc a + length xs = omega arith in rw e (sets-append (set l a x) xs ys (suc a))

-- no more changes than places
pub changes-few : (t u : List ℕ) (p : ℕ) → length (changes_below t u p) ≤ p
changes-few t u zero = omega arith
changes-few t u (suc p) =
    by_bool (differs t u p)
    (λ e. let s = ap length (changes-suc t u p) in omega (arith, rw (e, length-append) at s, changes-few t u p))
    (λ e. let s = ap length (changes-suc t u p) in omega (arith, rw (e, append-nil) at s, changes-few t u p))

progress-start : (t u r : List ℕ) (p count : ℕ) → p ≡ 0 → count ≡ 0 → Progress t u r p t r count
unfolding list_of
progress-start t u r p count e k = rw (e, k) record { bytes = refl; listed = refl; counted = refl }

-- a byte that is not yet reached
progress-ahead : (t u r : List ℕ) (p : ℕ) (now report : List ℕ) (count q : ℕ) → Progress t u r p now report count → p ≤ q
    → get_or now q 0 ≡ get_or t q 0
progress-ahead t u r p now report count q g h =
    rw g.bytes (sets-ahead t (list_of (λ k. get_or u k 0) p) 0 q (omega (arith, list_of-length (λ k. get_or u k 0) p)))

-- the report with the change at p, if there is one
listed-next : (t u r : List ℕ) (p : ℕ) (report : List ℕ) (count : ℕ) → report ≡ sets r 0 (flat_map change_bytes (changes_below t u p))
    → count ≡ length (changes_below t u p)
    → with_change report count (change_at t u p) ≡ sets r 0 (flat_map change_bytes (changes_below t u (suc p)))
listed-next t u r p report count l k =
    let below = changes_below t u p in
    let next = ap (λ cs. sets r 0 (flat_map change_bytes cs)) (changes-suc t u p) in
    by_bool (eqb (get_or t p 0) (get_or u p 0))
    (λ e. rw e (l ∙ sym (rw (e, append-nil) at next)))
    (λ e.
    let here : List Change = change_at t u p ∷ [] in
    let place : 0 + length (flat_map change_bytes below) ≡ 4 * count = omega (arith, listed-length below) in
    let put : sets r 0 (flat_map change_bytes (below ++ here)) ≡ sets report (4 * count) (change_bytes (change_at t u p)) =
    ap (sets r 0) (flat_map-append change_bytes below here) ∙ sets-append r (flat_map change_bytes below) (flat_map change_bytes here) 0
    ∙ ap₂ (λ x y. sets x y (change_bytes (change_at t u p))) (sym l) place in
    rw e (sym put ∙ sym (rw e at next)))

counted-next : (t u : List ℕ) (p count : ℕ) → count ≡ length (changes_below t u p)
    → count_with count (change_at t u p) ≡ length (changes_below t u (suc p))
counted-next t u p count k =
    let next = ap length (changes-suc t u p) in
    by_bool (eqb (get_or t p 0) (get_or u p 0))
    (λ e. rw e (k ∙ sym (rw (e, append-nil) at next)))
    (λ e. rw e (omega (arith, k, rw (e, length-append) at next)))

-- the mended byte is put at its place
progress-next : (t u r : List ℕ) (p at next : ℕ) (now report now' report' : List ℕ) (count count' byte : ℕ) → Progress t u r p now report count
    → at ≡ p → next ≡ p + 1 → byte ≡ get_or u p 0 → now' ≡ set now at byte
    → report' ≡ with_change report count (record { offset = at; before = get_or now at 0; after = byte })
    → count' ≡ count_with count (record { offset = at; before = get_or now at 0; after = byte })
    → Progress t u r next now' report' count'
progress-next t u r p at next now report now' report' count count' byte g a n b w l c =
    rw n record {
      bytes = w ∙ rw a (fill-next (λ q. get_or u q 0) p t now byte g.bytes b);
      listed = rw add-one (l ∙ ap (with_change report count) same ∙ listed-next t u r p report count g.listed g.counted);
      counted = rw add-one (c ∙ ap (count_with count) same ∙ counted-next t u p count g.counted);
    }
  where
    change_of : ℕ → ℕ → ℕ → Change
    change_of o x y = record { offset = o; before = x; after = y }

    same : change_of at (get_or now at 0) byte ≡ change_at t u p
    same = rw (a, progress-ahead t u r p now report count p g (omega arith), b) refl

-- bytes that are as mended already are passed over
progress-skip : (t u r : List ℕ) (p q : ℕ) (now report : List ℕ) (count : ℕ) → Progress t u r p now report count → p ≤ q
    → ((y : ℕ) → p ≤ y → y < q → get_or u y 0 ≡ get_or now y 0) → Progress t u r q now report count
progress-skip t u r p q now report count g l =
    le_ind (λ (x : ℕ). ((y : ℕ) → p ≤ y → y < x → get_or u y 0 ≡ get_or now y 0) → Progress t u r x now report count) (λ same. g)
    (λ x h rest same.
    let here = rest (λ y a b. same y a (omega arith)) in
    let byte : get_or u x 0 ≡ get_or now x 0 = same x h (omega arith) in
    let kept : eqb (get_or now x 0) (get_or u x 0) ≡ true = eq-eqb (get_or now x 0) (get_or u x 0) (sym byte) in
    progress-next t u r x x (suc x) now report now report count count (get_or u x 0) here refl (omega arith) refl
    (sym (ap (set now x) byte ∙ set-get_or now x 0)) (rw kept refl) (rw kept refl)) q l

-- a byte of a row that is 0 or 1, and 0 if it is the station's own
suspicion-stays : (i k byte : ℕ) → byte ≤ 1 → (k ≡ i → byte ≡ 0) → mended_suspicion i k byte ≡ byte
suspicion-stays i k byte low own = by_bool (eqb k i) (λ e. rw e (sym (own (eqb-true k i e)))) (λ e. rw (e, le-ltb 1 byte low) refl)

-- all bytes are put
progress-done : (t u r : List ℕ) (p : ℕ) (now report : List ℕ) (count : ℕ) → Progress t u r p now report count → p ≡ length t
    → length u ≡ length t
    → (now ≡ u) × (report ≡ sets r 0 (flat_map change_bytes (changes t u))) × (count ≡ length (changes t u))
unfolding changes
progress-done t u r p now report count g e l =
    let put = list_of-length (λ q. get_or u q 0) (length t) in
    let whole = ext_get_or 0 (list_of (λ q. get_or u q 0) (length t)) u (put ∙ sym l)
    (λ k h. list_of-at (λ q. get_or u q 0) (length t) k (omega (arith, put))) in
    (g.bytes ∙ rw e (sets-all t (list_of (λ q. get_or u q 0) (length t)) (sym put) ∙ whole), rw e at g.listed, rw e at g.counted)

-- the mended table, where it is known whether the round is over
abbrev pub mended_by : Wiring → ℕ → List ℕ → Bool → List ℕ
mended_by w n t over = table_of n (mended_byte w n t over)

-- where the next line begins, and where the last one ends
pub line-next : (n i : ℕ) → line_start n (i + 1) ≡ line_start n i + (head + n)
unfolding line_start
line-next n i = let e = suc-mul i (stride n) in rw add-one (omega arith)

line-first : (n : ℕ) → line_start n 0 ≡ 0
unfolding line_start
line-first n = zero-mul (stride n)

line-last : (n : ℕ) → line_start n n ≡ table_length n
unfolding line_start table_length
line-last n = refl

-- the mending that began as m has come to place p
pub record Reached (over : Bool) (m now : Mending) (p : ℕ) : Type 0 where
  pub same : IsSameMending m now
  pub so_far : Progress m.table.now (mended_by m.wiring m.n m.table.now over) m.report.now p now.table.now now.report.now now.changes

pub reached-start : (over : Bool) (m : Mending) → m.changes ≡ 0 → Reached over m m (line_start m.n 0)
reached-start over m none =
    record {
      same = record { wiring = refl; size = refl; table_reference = refl; report_reference = refl };
      so_far = progress-start m.table.now (mended_by m.wiring m.n m.table.now over) m.report.now (line_start m.n 0) m.changes (line-first m.n) none;
    }

-- the same place by another name
pub reached-at : {p q : ℕ} {over : Bool} {m now : Mending} → Reached over m now p → p ≡ q → Reached over m now q
reached-at {p} {q} {over} {m} {now} g e = subst (λ (x : ℕ). Reached over m now x) e g

-- a place of line i is one of the table
pub reached-inside : {p : ℕ} {over : Bool} {m now : Mending} (i c at : ℕ) → Reached over m now p → i < m.n → c < stride m.n
    → at ≡ line_start m.n i + c → at < length now.table.now
reached-inside {p} {over} {m} {now} i c at g h hc a =
    let long : length now.table.now ≡ table_length m.n = now.fits ∙ ap table_length g.same.size in
    omega (arith, inside m.n i c h hc)

-- as many changes as places at most
pub reached-few : {p : ℕ} {over : Bool} {m now : Mending} → Reached over m now p → now.changes ≤ p
reached-few {p} {over} {m} {now} g =
    omega (arith, g.so_far.counted, changes-few m.table.now (mended_by m.wiring m.n m.table.now over) p)

-- a byte of a line that the loops have not reached
reached-ahead : {p : ℕ} {over : Bool} {m now : Mending} (i c : ℕ) → Reached over m now p → p ≤ line_start m.n i + c
    → cell m.n now.table.now i c ≡ cell m.n m.table.now i c
unfolding cell
reached-ahead {p} {over} {m} {now} i c g h =
    progress-ahead m.table.now (mended_by m.wiring m.n m.table.now over) m.report.now p _ _ _ (line_start m.n i + c) g.so_far h

-- the mended byte is put at its place
pub reached-next : {p at byte : ℕ} {over : Bool} {m now next : Mending} (q : ℕ) → Reached over m now p → at ≡ p → q ≡ p + 1
    → byte ≡ get_or (mended_by m.wiring m.n m.table.now over) p 0 → IsSameMending now next → next.table.now ≡ set now.table.now at byte
    → next.report.now ≡ with_change now.report.now now.changes (record { offset = at; before = get_or now.table.now at 0; after = byte })
    → next.changes ≡ count_with now.changes (record { offset = at; before = get_or now.table.now at 0; after = byte })
    → Reached over m next q
reached-next {p} {at} {byte} {over} {m} {now} {next} q g a n b s t l c =
    record {
      same = record {
        wiring = s.wiring ∙ g.same.wiring;
        size = s.size ∙ g.same.size;
        table_reference = s.table_reference ∙ g.same.table_reference;
        report_reference = s.report_reference ∙ g.same.report_reference;
      };
      so_far = progress-next m.table.now (mended_by m.wiring m.n m.table.now over) m.report.now p at q _ _ _ _ _ _ _ g.so_far a n b t l c;
    }

-- bytes 0 to 5 of line i, made when the loops came to the line
pub head-put : {over : Bool} {m now : Mending} (i c : ℕ) (read : Table) (made : List ℕ) → Reached over m now (line_start m.n i)
    → i < m.n → c < head → read.wiring ≡ now.wiring → read.n ≡ now.n → read.bytes.now ≡ now.table.now → made ≡ list_of (mended_byte read.wiring read.n read.bytes.now over i) 6
    → get_or made c 0 ≡ get_or (mended_by m.wiring m.n m.table.now over) (line_start m.n i + c) 0
head-put {over} {m} {now} i c read made g h hc v e d b =
    rw (b, v ∙ g.same.wiring, e ∙ g.same.size, d) (list_of-at (mended_byte m.wiring m.n now.table.now over i) 6 c hc)
    ∙ head-same m.wiring m.n now.table.now m.table.now over i c (λ k hk. reached-ahead i k g (omega arith)) hc
    ∙ sym (table_of-at m.n (mended_byte m.wiring m.n m.table.now over) i c h (omega arith))

-- a byte of the row of line i that the loops have not reached
pub row-put : {p : ℕ} {over : Bool} {m now : Mending} (i k at : ℕ) → Reached over m now p → p ≤ at → i < m.n → k < m.n
    → at ≡ line_start m.n i + (head + k)
    → mended_suspicion i k (get_or now.table.now at 0) ≡ get_or (mended_by m.wiring m.n m.table.now over) (line_start m.n i + (head + k)) 0
unfolding cell
row-put {p} {over} {m} {now} i k at g l h hk a =
    rw a (ap (mended_suspicion i k) (reached-ahead i (head + k) g (omega arith)))
    ∙ sym (row-byte m.wiring m.n m.table.now over i k) ∙ sym (table_of-at m.n (mended_byte m.wiring m.n m.table.now over) i (head + k) h (omega arith))

-- a row that keeps its rules stays
pub row-skip : {over : Bool} {m now : Mending} (i : ℕ) (read : Table) → Reached over m now (line_start m.n i + head) → i < m.n
    → read.n ≡ now.n → read.bytes.now ≡ now.table.now → row_rule read.n read.bytes.now i ≡ true
    → Reached over m now (line_start m.n (i + 1))
unfolding row_rule cell
row-skip {over} {m} {now} i read g h e d kept =
    let start = line_start m.n i + head in
    let t = now.table.now in
    let mended = mended_by m.wiring m.n m.table.now over in
    let here : row_rule read.n t i ≡ true = subst (λ (x : List ℕ). row_rule read.n x i ≡ true) d kept in
    let here : row_rule m.n t i ≡ true = subst (λ (x : ℕ). row_rule x t i ≡ true) (e ∙ g.same.size) here in
    let parts = both (eqb (get_or t (line_start m.n i + (head + i)) 0) 0) (every (suspicion_rule m.n t i) m.n) here in
    let end = progress-skip m.table.now mended m.report.now start (start + m.n) t now.report.now now.changes g.so_far (omega arith)
    (λ y a b.
    let k = y - start in
    let at : y ≡ line_start m.n i + (head + k) = omega arith in
    let hk : k < m.n = omega arith in
    let low = leb-true (get_or t (line_start m.n i + (head + k)) 0) 1 (every-at (suspicion_rule m.n t i) m.n k parts.1 hk) in
    let own = eqb-true (get_or t (line_start m.n i + (head + i)) 0) 0 parts.0 in
    let stays = suspicion-stays i k (get_or t y 0) (rw at low)
    (λ s. ap (λ (x : ℕ). get_or t x 0) (at ∙ ap (λ (x : ℕ). line_start m.n i + (head + x)) s) ∙ own) in
    ap (λ (x : ℕ). get_or mended x 0) at ∙ sym (row-put i k y g a h hk at) ∙ stays) in
    reached-at (record { same = g.same; so_far = end }) (omega (arith, line-next m.n i))

-- after the last line
pub all-done : {p : ℕ} {over : Bool} {m now : Mending} → Reached over m now p → p ≡ line_start m.n m.n
    → let u = mended_by m.wiring m.n m.table.now over in
    (now.table.now ≡ u) × (now.report.now ≡ sets m.report.now 0 (flat_map change_bytes (changes m.table.now u)))
    × (now.changes ≡ length (changes m.table.now u))
all-done {p} {over} {m} {now} g e =
    progress-done m.table.now (mended_by m.wiring m.n m.table.now over) m.report.now p now.table.now now.report.now now.changes g.so_far
    (e ∙ line-last m.n ∙ sym m.fits) (table_of-length m.n (mended_byte m.wiring m.n m.table.now over) ∙ sym m.fits)

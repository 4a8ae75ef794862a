-- The rest of the run, from where it stands, gives what the whole gives, and the table obeys the rules.
use Rattle.std.proofs.Common.{Ok, rules, ◌≡◌, ◌<◌, ◌≤◌, ◌/◌, length, refl, sym, ap, ◌∙◌, subst, arith, length-take, length-drop}
use Rattle.plant.specs.Entry.{Entry, State, state_with, entry_known, entry_check}
use Rattle.plant.proofs.RulesKept.{accepted-kept}
use Rattle.plant.proofs.RunLaws.{accepted-number, line-back, go-taken, go-stopped, go-done, start-facts}
use Rattle.plant.proofs.run.go_on.Goals as goal

pub loop-kind-init : goal.loop-kind-init
loop-kind-init c =
    let f = start-facts _ _ _ _ _ c.requires in
    record { loan = record { reference = refl; wiring = refl; size = refl }; twice = f.2; rules = f.0; count = refl; going = refl; goes = refl }

pub returns-in-Err-clause-run : goal.returns-in-Err-clause-run
returns-in-Err-clause-run c =
    let l = c.loop-kind in
    let i = l.invariant in
    let h : l.kind-index < length c.args.schedule.now / 2 = omega (arith, c.as_chunks.ensures.front_len) in
    let r = rw (c.read.ensures.same_size, c.read.ensures.same_bytes, i.loan.size, c.as_chunks.ensures.front) at c.in-Err.ensures.check in
    let s = state_with l.lent.bytes.now l.ran.tally in
    rw (sym i.goes ∙ go-stopped c.args.table.now.wiring c.args.table.now.n l.kind-index s l.sheet c.args.schedule.now _ h (sym r), i.count)
    (search rules)

pub take_entry-ran-requires : goal.take_entry-ran-requires
take_entry-ran-requires c =
    let l = c.loop-kind in
    let i = l.invariant in
    let z = rw (c.read.ensures.same_size, c.read.ensures.same_bytes) at (sym c.in-Ok.ensures.check) in
    record {
      table_obeys = rw (i.loan.wiring, i.loan.size) (accepted-number _ _ _ i.rules);
      entry_taken =
          subst (λ (e : Entry). entry_check l.lent.n (state_with l.lent.bytes.now l.ran.tally) e ≡ Ok tt) (sym c.in-Ok.ensures.entry) z;
      line_length = simp (length-take, length-drop) (omega (arith, i.twice, i.count, c.loop-kind-test.true, c.as_chunks.ensures.front_len));
    }

pub loop-kind-preserved : goal.loop-kind-preserved
loop-kind-preserved c =
    let w = c.args.table.now.wiring in
    let n = c.args.table.now.n in
    let l = c.loop-kind in
    let i = l.invariant in
    let a = c.as_chunks.ensures in
    let o = c.in-Ok.ensures in
    let h : l.kind-index < length c.args.schedule.now / 2 = omega (arith, a.front_len) in
    let s = state_with l.lent.bytes.now l.ran.tally in
    let e = entry_known c.in-Ok.entry in
    let y = rw (c.read.ensures.same_size, c.read.ensures.same_bytes, i.loan.size) at (sym o.check) in
    let z = subst (λ (x : Entry). entry_check n s x ≡ Ok tt) (sym o.entry) y in
    let p = c.take_entry-ran.ensures in
    let after = rw (i.loan.wiring, i.loan.size) at p.state_after in
    let line = rw (i.loan.wiring, i.loan.size) at p.line_after in
    let b = line-back w n s e l.sheet l.kind-index _ line (omega (arith, i.twice, h)) in
    record {
      loan = record {
        reference = p.same_loan.reference ∙ i.loan.reference;
        wiring = p.same_loan.wiring ∙ i.loan.wiring;
        size = p.same_loan.size ∙ i.loan.size;
      };
      twice = omega arith;
      rules = rw (ap (λ (z : State). z.table) after) (accepted-kept w n s e i.rules z);
      count = omega arith;
      going = i.going;
      goes =
          go-taken w n l.kind-index s l.sheet c.args.schedule.now e _ _ h (rw a.front at o.entry) z after (rw i.count b) ∙ i.goes;
    }

pub returns-clause-run : goal.returns-clause-run
returns-clause-run c =
    let l = c.loop-kind in
    let i = l.invariant in
    let h : length c.args.schedule.now / 2 ≤ l.kind-index = omega (arith, c.as_chunks.ensures.front_len) in
    let s = state_with l.lent.bytes.now l.ran.tally in
    rw (sym i.goes ∙ go-done c.args.table.now.wiring c.args.table.now.n l.kind-index s l.sheet c.args.schedule.now h, i.going, i.count)
    (search rules)

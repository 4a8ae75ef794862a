-- The drive stands where the grants made so far lead, and has not stopped before.
use Rattle.std.proofs.Common.{refl, sym, ◌∙◌, arith}
use Rattle.plant.specs.Entry.{state_with}
use Rattle.granter.specs.Grant.{last_number}
use Rattle.granter.specs.Drive.{stand_at, after_grants}
use Rattle.granter.proofs.GrantLaws.{grantable}
use Rattle.granter.proofs.DriveLaws.{driving-start, next-within, grant-ready, turn-ready, granted-below, turned-is, turned_on}
use Rattle.granter.proofs.DriveLaws.{end-stop, drives-on, full-stop}
use Rattle.granter.proofs.drive.drive_on.Goals as goal
use Rattle.granter.proofs.drive.drive_on.Goals.{then-is_full, else-is_full+then-ended}

pub loop-tally-init : goal.loop-tally-init
unfolding after_grants
loop-tally-init c =
    record {
      loan = record { reference = refl; wiring = refl; size = refl };
      below = c.requires.last_below;
      led = refl;
      driving = driving-start _ _ _ _ (grantable _ _ _ _ c.requires.taken);
    }

pub next_station-i-requires : goal.next_station-i-requires
next_station-i-requires c =
    let l = c.loop-tally.invariant in
    let r = grant-ready _ _ _ _ _ l.led l.driving in
    rw (c.read.ensures.same_size, c.read.ensures.same_bytes, l.loan.size) (record { round_open = r.0; someone_live = r.1; last_below = l.below })

pub take_turn-held-requires : goal.take_turn-held-requires
take_turn-held-requires c =
    let l = c.loop-tally.invariant in
    let r = turn-ready _ _ _ _ _ l.led l.driving (sym c.is_full.ensures ∙ c.if-is_full.false) in
    let next = rw (c.read.ensures.same_size, c.read.ensures.same_bytes, l.loan.size) at c.next_station-i.ensures in
    rw (l.loan.wiring, l.loan.size) (record { table_obeys = r.0; turn_taken = rw next r.1 })

pub loop-tally-smaller : goal.loop-tally-smaller
loop-tally-smaller c = omega (arith, next-within _ _ _ _ c.loop-tally.invariant.driving)

pub loop-tally-preserved : goal.loop-tally-preserved
loop-tally-preserved c =
    let l = c.loop-tally in
    let i = l.invariant in
    let q = stand_at (state_with l.table.bytes.now l.held) (last_number l.before) in
    let fits = sym c.is_full.ensures ∙ c.if-is_full.false in
    let next = rw (c.read.ensures.same_size, c.read.ensures.same_bytes, i.loan.size) at c.next_station-i.ensures in
    let t = c.take_turn-held.ensures in
    let turned = turned-is _ _ q _ _ next (rw (i.loan.wiring, i.loan.size) at t.state_after) in
    let r = c.read-in-loop-tally.ensures in
    let open-still = rw (r.same_size, r.same_bytes, t.same_loan.size, i.loan.size) at (sym c.has_ended-ended.ensures ∙ c.if-ended.false) in
    record {
      loan = record {
        reference = t.same_loan.reference ∙ i.loan.reference;
        wiring = t.same_loan.wiring ∙ i.loan.wiring;
        size = t.same_loan.size ∙ i.loan.size;
      };
      below = rw next (granted-below _ _ _ _ q i.led i.driving);
      led = turned_on _ _ _ _ q i.led i.driving fits _ turned;
      driving = drives-on _ _ _ _ q i.led i.driving fits _ turned open-still;
    }

pub returns : goal.returns
returns c =
    let l = c.loop-tally in
    let i = l.invariant in
    let q = stand_at (state_with l.table.bytes.now l.held) (last_number l.before) in
    elim c.if-is_full.branch [
      | then-is_full w ↦
          let stop = full-stop _ _ _ _ q i.led i.driving (sym c.is_full.ensures ∙ w.if-is_full.true) in
          rw (c.last_number.ensures, w.table-is, w.held-is, w.before-is, w.grants-is, w.stopped-is)
          (record { same_loan = i.loan; outcome = stop.0; stopped = stop.1 })
      | else-is_full+then-ended w ↦
          let fits = sym c.is_full.ensures ∙ w.if-is_full.false in
          let next = rw (w.read.ensures.same_size, w.read.ensures.same_bytes, i.loan.size) at w.next_station-i.ensures in
          let t = w.take_turn-held.ensures in
          let turned = turned-is _ _ q _ _ next (rw (i.loan.wiring, i.loan.size) at t.state_after) in
          let r = w.read-in-loop-tally.ensures in
          let over = rw (r.same_size, r.same_bytes, t.same_loan.size, i.loan.size) at (sym w.has_ended-ended.ensures ∙ w.if-ended.true) in
          let stop = end-stop _ _ _ _ q i.led i.driving fits _ turned over in
          rw (c.last_number.ensures, w.table-is, w.held-is, w.before-is, w.grants-is, w.stopped-is)
          (record {
            same_loan = record {
              reference = t.same_loan.reference ∙ i.loan.reference;
              wiring = t.same_loan.wiring ∙ i.loan.wiring;
              size = t.same_loan.size ∙ i.loan.size;
            };
            outcome = stop.0;
            stopped = stop.1;
          })
    ]

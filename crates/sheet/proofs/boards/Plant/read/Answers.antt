-- The boards are named one after the other.
use Rattle.std.proofs.Common.{refl, sym, ◌∙◌, arith}
use Rattle.sheet.specs.Named.{plant_of}
use Rattle.sheet.proofs.NamedLaws.{rows-next, rows-wrong, rows-end, plant-is, two-live, few-live}
use Rattle.sheet.proofs.boards.Plant.read.Goals as goal

pub returns-in_default : goal.returns-in_default
unfolding plant_of
returns-in_default c = rw (← c.in_default.ensures.size)

pub returns-in-Err : goal.returns-in-Err
returns-in-Err c =
    let i = c.loop-board.invariant in
    let named = rw (c.as_bytes.ensures.value, i.same) at c.in-Err.ensures.row in
    let wrong = rows-wrong (λ w. w.now) _ _ _ c.args.boards.now c.loop-board.board-index _ _ c.loop-board-test.true refl c.in-Err.wrong named in
    sym (plant-is _ _ c.in-Some.ensures.size _ _ c.in-Some.ensures.nobody_dead _ (sym i.rest ∙ wrong))

pub loop-board-preserved : goal.loop-board-preserved
loop-board-preserved c =
    let i = c.loop-board.invariant in
    let named = rw (c.as_bytes.ensures.value, i.same) at c.in_default-name_dead.ensures.row in
    let next = rows-next (λ w. w.now) _ _ _ c.args.boards.now c.loop-board.board-index _ _ c.loop-board-test.true refl _ named in
    record {
      counted = omega (arith, i.counted);
      rest = sym next ∙ i.rest;
      same = c.name_dead.ensures.size_unchanged ∙ i.same;
    }

pub returns-then-live_boards-lt2 : goal.returns-then-live_boards-lt2
returns-then-live_boards-lt2 c =
    let i = c.loop-board.invariant in
    let end = rows-end (λ w. w.now) _ c.loop-board.argument _ c.args.boards.now c.loop-board.board-index (omega arith) in
    let few =
    few-live c.in-Some.plant.size c.loop-board.plant.row c.live_boards.result (rw i.same at c.live_boards.ensures) c.if-live_boards-lt2.true in
    sym (plant-is _ _ c.in-Some.ensures.size _ _ c.in-Some.ensures.nobody_dead _ (sym i.rest ∙ end) ∙ few)

pub returns : goal.returns
returns c =
    let i = c.loop-board.invariant in
    let end = rows-end (λ w. w.now) _ c.loop-board.argument _ c.args.boards.now c.loop-board.board-index (omega arith) in
    let live =
    two-live c.in-Some.plant.size c.loop-board.plant.row c.live_boards.result (rw i.same at c.live_boards.ensures) c.if-live_boards-lt2.false in
    rw i.same (sym (plant-is _ _ c.in-Some.ensures.size _ _ c.in-Some.ensures.nobody_dead _ (sym i.rest ∙ end) ∙ live))

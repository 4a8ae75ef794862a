-- The boards that were gone through are dead.
use Rattle.std.proofs.Common.{◌≡◌, ◌+◌, map, drop}
use Rattle.sheet.specs.Named.{rows_with}
use Rattle.sheet.proofs.boards.Plant.read.Given as goal

abbrev pub invariant-loop-board : goal.invariant-loop-board
invariant-loop-board l = record {
  counted : l.argument ≡ l.board-index + 2;
  rest : rows_with l.initial.plant.size l.argument (map (λ w. w.now) (drop l.board-index l.boards)) l.plant.row
      ≡ rows_with l.initial.plant.size 2 (map (λ w. w.now) l.boards) l.initial.plant.row;
  same : l.plant.size ≡ l.initial.plant.size;
}

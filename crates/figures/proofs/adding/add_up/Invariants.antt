-- The totals so far are those of the results passed, and such as results of 16 bits can have.
use Rattle.std.proofs.Common.{◌≡◌, ◌*◌, ◌≤◌, min, max, take, get_or, fold}
use Rattle.std.specs.List.{sum, sum_by}
use Rattle.figures.specs.Totals.{greatest_result}
use Rattle.figures.proofs.adding.add_up.Given as goal

abbrev pub invariant-loop-result : goal.invariant-loop-result
invariant-loop-result l = record {
  sum_so_far : l.sum ≡ sum (take l.result-index l.results);
  squares_so_far : l.squares ≡ sum_by (λ x. x * x) (take l.result-index l.results);
  least_so_far : l.least ≡ fold min (get_or l.results 0 0) (take l.result-index l.results);
  greatest_so_far : l.greatest ≡ fold max 0 (take l.result-index l.results);
  sum_bound : l.sum ≤ greatest_result * l.result-index;
  squares_bound : l.squares ≤ greatest_result * greatest_result * l.result-index;
}

use Rattle.std.proofs.Common.{◌≡◌, sum, take, map}
use Rattle.std.specs.List.{range_with_len}
use Rattle.degree_table.specs.DegreeTable.{sum_through}
use Rattle.degree_table.proofs.weights.cumulative.Given as goal

abbrev pub invariant-loop-weight : goal.invariant-loop-weight
invariant-loop-weight l = record {
  so_far : l.sum ≡ sum (take l.weight-index l.weights);
  added : l.sums.items ≡ map (sum_through l.weights) (range_with_len 0 l.weight-index);
}

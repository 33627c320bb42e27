use Rattle.std.proofs.Common.{◌≡◌, ◌-◌, map}
use Rattle.std.specs.List.{range_with_len}
use Rattle.degree_table.specs.DegreeTable.{weight_of, least_of}
use Rattle.degree_table.proofs.weights.weights_of.Given as goal

abbrev pub invariant-loop-degree : goal.invariant-loop-degree
invariant-loop-degree l = l.weights.items ≡ map (weight_of l.spec) (range_with_len (least_of l.spec) (l.degree - least_of l.spec))

use Rattle.std.proofs.Common.{◌≡◌, Some, take}
use Rattle.sparql_mean.specs.Joins.{values}
use Rattle.sparql_mean.proofs.queries.row_of.Given as goal

abbrev pub invariant-loop-i : goal.invariant-loop-i
invariant-loop-i l = values l.m (take l.i l.query.variables) ≡ Some l.numbers.items

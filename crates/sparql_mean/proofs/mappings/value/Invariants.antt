use Rattle.std.proofs.Common.{◌≡◌, drop}
use Rattle.sparql_mean.specs.Joins.{mapping_of, value}
use Rattle.sparql_mean.proofs.mappings.value.Given as goal

abbrev pub invariant-loop-entry : goal.invariant-loop-entry
invariant-loop-entry l = value (mapping_of (drop l.entry-index l.entries)) l.variable ≡ value (mapping_of l.entries) l.variable

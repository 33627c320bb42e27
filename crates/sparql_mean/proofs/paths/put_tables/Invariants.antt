use Rattle.std.proofs.Common.{◌≡◌, take}
use Rattle.sparql_mean.specs.Tables.{tables_of}
use Rattle.sparql_mean.proofs.paths.put_tables.Given as goal

abbrev pub invariant-loop-i : goal.invariant-loop-i
invariant-loop-i l = l.tables.items ≡ tables_of l.labels l.graph l.nodes (take l.i l.query.paths)

use Rattle.std.proofs.Common.{◌≡◌, map, take}
use Rattle.sql_mean.specs.Rows.{edge_row}
use Rattle.sql_mean.proofs.tables.edge_rows.Given as goal

abbrev pub invariant-loop-triple : goal.invariant-loop-triple
invariant-loop-triple l = l.rows.items ≡ map edge_row (take l.triple-index l.triples)

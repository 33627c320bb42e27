use Rattle.std.proofs.Common.{◌≡◌, take}
use Rattle.rpq_meaning.specs.Tables.{tables_of}
use Rattle.rpq_meaning.proofs.tables.put_tables.Given as goal

abbrev pub invariant-loop-n : goal.invariant-loop-n
invariant-loop-n l = l.tables.items ≡ tables_of l.graph l.nodes (take l.n l.terms)

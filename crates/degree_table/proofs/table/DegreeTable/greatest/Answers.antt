use Rattle.std.proofs.Common.{arith}
use Rattle.degree_table.proofs.PickLemmas.{IsGreatest-degree_of}
use Rattle.degree_table.proofs.table.DegreeTable.greatest.Goals as goal

pub returns-clause-value : goal.returns-clause-value
returns-clause-value c = rw (c.degree_past.ensures.value, c.total.ensures.value) (IsGreatest-degree_of _ (omega arith))

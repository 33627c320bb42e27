use Rattle.degree_table.proofs.PickLemmas.{positive-le-greatest}
use Rattle.degree_table.proofs.table.DegreeTable.degree_at.Goals as goal

pub returns-clause-within : goal.returns-clause-within
returns-clause-within c greatest is = positive-le-greatest _ _ greatest c.degree_past.ensures.holds.positive is

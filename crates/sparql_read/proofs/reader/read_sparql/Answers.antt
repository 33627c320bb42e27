use Rattle.sparql_read.proofs.reader.read_sparql.Goals as goal

pub returns-in-None-clause-not_sparql : goal.returns-in-None-clause-not_sparql
returns-in-None-clause-not_sparql c = λ e. rw c.in_ok-text.ensures at (rw c.in-None.is at c.in_ok-parts.ensures.is)

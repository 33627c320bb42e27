use Rattle.sparql_read.proofs.SpotLemmas.{triple_dot}
use Rattle.sparql_read.proofs.places.behind_triple.Goals as goal

pub returns-in-Dot-clause-is : goal.returns-in-Dot-clause-is
returns-in-Dot-clause-is c = rw c.in-Dot.is (triple_dot _)

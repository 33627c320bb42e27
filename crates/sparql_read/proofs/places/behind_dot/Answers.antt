use Rattle.sparql_read.proofs.SpotLemmas.{dot_path}
use Rattle.sparql_read.proofs.places.behind_dot.Goals as goal

pub returns-in-Variable-clause-is : goal.returns-in-Variable-clause-is
returns-in-Variable-clause-is c = rw c.in-Variable.is (λ s x. dot_path _ s c.in-Variable.name x)

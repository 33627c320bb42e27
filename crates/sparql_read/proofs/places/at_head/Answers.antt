use Rattle.std.proofs.Common.{refl}
use Rattle.sparql_read.proofs.SpotLemmas.{head_first}
use Rattle.sparql_read.proofs.places.at_head.Goals as goal

pub returns-in_ok-push-in-Variable-clause-is : goal.returns-in_ok-push-in-Variable-clause-is
returns-in_ok-push-in-Variable-clause-is c = rw c.in-Variable.is (λ s x. head_first _ _ s c.in-Variable.name c.in_ok-push-in-Variable.ensures.items record { groups = refl; patterns = refl; paths = refl; levels = refl; first = refl; all_occur = refl } x)

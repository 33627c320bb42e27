use Rattle.sparql_read.proofs.PlaceLemmas.{ok_then, seq_made}
use Rattle.sparql_read.proofs.paths.whole_seq.Goals as goal

pub returns-in-Some-clause-is : goal.returns-in-Some-clause-is
returns-in-Some-clause-is c =
    ok_then c.push.result c.push.ensures.is
    (λ made x mid above seq p o d. seq_made _ _ _ _ _ _ _ _ _ (rw c.in-Some.is at o) x (c.in_ok-elt.ensures.is above p d))

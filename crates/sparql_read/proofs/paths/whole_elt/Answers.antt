use Rattle.sparql_read.proofs.PlaceLemmas.{ok_then, elt_made}
use Rattle.sparql_read.proofs.paths.whole_elt.Goals as goal

pub returns-then-frame-clause-is : goal.returns-then-frame-clause-is
returns-then-frame-clause-is c = ok_then c.push.result c.push.ensures.is (λ made x below p d. elt_made _ _ _ _ _ _ _ c.if-frame.true x d)

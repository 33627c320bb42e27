use Rattle.sparql_read.proofs.PlaceLemmas.{ok_then, alt_made, alt_none}
use Rattle.sparql_read.proofs.paths.whole_path.Goals as goal

pub returns-in-Some-clause-is : goal.returns-in-Some-clause-is
returns-in-Some-clause-is c =
    ok_then c.push.result c.push.ensures.is
    (λ made x below mid above alt seq p o s d. alt_made _ _ _ _ _ _ _ _ _ (rw c.in-Some.is at o) x (c.in_ok-seq.ensures.is mid above seq p s d))

pub returns-in-None-clause-is : goal.returns-in-None-clause-is
returns-in-None-clause-is c =
    λ below mid above alt seq p o s d. alt_none _ _ _ _ _ _ (rw c.in-None.is at o) (c.in_ok-seq.ensures.is mid above seq p s d)

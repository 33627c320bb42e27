use Rattle.sparql_read.proofs.PlaceLemmas.{ok_then, stored_pushed, number_pushed}
use Rattle.sparql_read.proofs.LevelLemmas.{have_done, have_signed}
use Rattle.sparql_read.proofs.levels.path_step.Goals as goal

pub returns-in_ok-push-in-Some-clause-is : goal.returns-in_ok-push-in-Some-clause-is
returns-in_ok-push-in-Some-clause-is c =
    let x = c.in_ok-push-in-Some.ensures.is in
    rw c.in-Have.is (λ below fs f m y. have_signed _ _ _ _ _ _ _ _ _ _ y _ _ c.in-Some.ensures (stored_pushed _ _ _ _ x) (number_pushed _ _ _ _ x))

pub returns-in-None-clause-is : goal.returns-in-None-clause-is
returns-in-None-clause-is c =
    rw c.in-Have.is (ok_then c.done.result c.done.ensures.is (λ next x below fs f m y. have_done _ _ _ _ _ _ _ _ _ _ y _ _ _ c.in-None.ensures (x below)))

use Rattle.sparql_read.proofs.PlaceLemmas.{stored_pushed, number_pushed}
use Rattle.sparql_read.proofs.LevelLemmas.{want_predicate, want_open, want_caret}
use Rattle.sparql_read.proofs.levels.want.Goals as goal

pub returns-in_ok-push-in-Predicate-clause-is : goal.returns-in_ok-push-in-Predicate-clause-is
returns-in_ok-push-in-Predicate-clause-is c =
    let x = c.in_ok-push-in-Predicate.ensures.is in
    rw c.in-Predicate.is (λ below fs f m y. want_predicate _ _ _ _ _ _ _ y _ _ _ _ (stored_pushed _ _ _ _ x) (number_pushed _ _ _ _ x))

pub returns-in_ok-push-in-Open-clause-is : goal.returns-in_ok-push-in-Open-clause-is
returns-in_ok-push-in-Open-clause-is c =
    rw c.in-Open.is (λ below fs f m y. want_open _ _ _ _ _ _ _ y _ _ c.in_ok-push-in-Open.ensures.items c.empty-levels.ensures)

pub returns-else-levels-clause-is : goal.returns-else-levels-clause-is
returns-else-levels-clause-is c = rw c.in-Caret.is (λ below fs f m y. want_caret _ _ _ _ _ _ _ y c.if-levels.false)

use Rattle.query_draw.proofs.TypeSetLemmas.{AreIn}
use Rattle.query_draw.proofs.ClassLemmas.{IsGreatestBut}
use Rattle.query_draw.proofs.classes.greatest_to.Given as goal

abbrev pub invariant-loop-from : goal.invariant-loop-from
invariant-loop-from l = record {
  there : AreIn l.rest l.column.there;
  greatest : IsGreatestBut l.rest l.kinds l.column l.to l.greatest;
}

-- what is left of the set
abbrev pub decreases-loop-from : goal.decreases-loop-from
decreases-loop-from l = l.rest

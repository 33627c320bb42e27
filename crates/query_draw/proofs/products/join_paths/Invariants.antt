use Rattle.query_draw.proofs.TypeSetLemmas.{AreIn}
use Rattle.query_draw.proofs.ProductLemmas.{JoinsPathsBut}
use Rattle.query_draw.proofs.products.join_paths.Given as goal

abbrev pub invariant-loop-middle : goal.invariant-loop-middle
invariant-loop-middle l = record {
  steps : AreIn l.rest l.steps.there;
  joins : JoinsPathsBut l.rest l.growing l.paths l.steps l.to l.fn.column l.joined;
}

-- what is left of the set
abbrev pub decreases-loop-middle : goal.decreases-loop-middle
decreases-loop-middle l = l.rest

use Rattle.std.proofs.Common.{◌≡◌}
use Rattle.query_draw.proofs.QueryLemmas.{arity_after}
use Rattle.query_draw.proofs.query.draw_arity.Given as goal

abbrev pub invariant-loop-size : goal.invariant-loop-size
invariant-loop-size l = record {
  so_far : l.arity ≡ arity_after l.plan.config.now l.plan.seed l.plan.query l.size-index;
}

use Rattle.sparql_mean.proofs.StepLemmas.{grown_step}
use Rattle.sparql_mean.proofs.queries.mappings.Goals as goal

pub loop-i-preserved : goal.loop-i-preserved
loop-i-preserved c = λ group at.
    grown_step _ c.args.query.now.groups c.args.g group _ _ _ _ _ _ _ at c.pattern-pattern.ensures (c.loop-i.invariant group at) c.deref.ensures.value c.table_at-pairs.ensures c.in_ok-all.ensures

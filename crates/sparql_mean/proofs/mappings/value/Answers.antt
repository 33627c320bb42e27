use Rattle.sparql_mean.proofs.StepLemmas.{value_hit, value_miss, value_end}
use Rattle.sparql_mean.proofs.mappings.value.Goals as goal

pub returns-then-eq : goal.returns-then-eq
returns-then-eq c = value_hit _ _ _ _ _ c.loop-entry-test.true c.if-eq.ensures c.loop-entry.invariant

pub loop-entry-preserved : goal.loop-entry-preserved
loop-entry-preserved c = value_miss _ _ _ _ _ c.loop-entry-test.true c.if-eq.ensures c.loop-entry.invariant

pub returns : goal.returns
returns c = value_end _ _ _ _ c.loop-entry-test.false c.loop-entry.invariant

use Rattle.std.proofs.Common.{arith}
use Rattle.sparql_mean.proofs.StepLemmas.{rows_step}
use Rattle.sparql_mean.proofs.queries.rows_of.Goals as goal

pub loop-g-preserved : goal.loop-g-preserved
loop-g-preserved c = record {
  values = rows_step _ _ _ _ _ (record { first = 0; count = 0 }) _ _ _ _
      (omega (arith, c.loop-g-test.true, c.group_count-g-end.ensures))
      c.loop-g.invariant.values c.in_ok-all.ensures c.deref.ensures.value c.in_ok-push_rows.ensures.values;
  rows = c.in_ok-push_rows.ensures.rows;
}

use Rattle.std.proofs.Common.{sym, ap, arith}
use Rattle.query_draw.specs.Query.{has_query}
use Rattle.query_draw.proofs.DrawnLemmas.{passes_more}
use Rattle.query_draw.proofs.missing.first_missing.Goals as goal

pub loop-query-preserved : goal.loop-query-preserved
loop-query-preserved c = record {
  before = passes_more (has_query c.args.config.now c.args.seed) c.loop-query.query c.loop-query.invariant.before (sym c.if-not-has_query.ensures);
}

pub returns : goal.returns
returns c = λ n below. c.loop-query.invariant.before n (omega (arith, below, c.loop-query-test.false, c.loop-query.auto.query-end, ap (λ w. w.queries) c.workload.ensures.workload))

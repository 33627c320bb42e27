use Rattle.std.proofs.Common.{arith}
use Rattle.sql_mean.specs.Evaluation.{headers_in, query_of, if_met}
use Rattle.sql_mean.proofs.LoopLemmas.{grown_by, item_at}
use Rattle.sql_mean.proofs.selects.push_rows.Goals as goal

pub loop-product-preserved : goal.loop-product-preserved
loop-product-preserved c =
    grown_by (if_met (headers_in c.args.known.now) (query_of c.cut-columns.result.now c.cut-froms.result.now c.cut-equations.result.now)) c.deref-product-items.result.now c.loop-product.product-index
    c.product-item.result _ _ _ _
    (item_at c.deref-product-items.result.now c.loop-product.product-index c.product-item.result (omega (arith, c.loop-product-test.true)) c.product-item.is) c.rows.ensures c.loop-product.invariant c.in_ok-push_if_met.ensures

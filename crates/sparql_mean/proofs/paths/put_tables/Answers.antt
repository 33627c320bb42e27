use Rattle.sparql_mean.proofs.StepLemmas.{put_step}
use Rattle.sparql_mean.proofs.paths.put_tables.Goals as goal

pub loop-i-preserved : goal.loop-i-preserved
loop-i-preserved c =
    put_step c.args.labels.now c.args.graph.now c.args.nodes.now _ _ _ _ _ _ _ _ c.loop-i.invariant c.deref.ensures.value c.path_id.ensures
    c.path-path.ensures c.in_ok-table.ensures c.in_ok-push.ensures.items

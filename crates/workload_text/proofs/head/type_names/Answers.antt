use Rattle.schema_graph.proofs.ConfiguredLemmas.{map-take-more}
use Rattle.workload_text.proofs.head.type_names.Goals as goal

pub loop-t-preserved : goal.loop-t-preserved
loop-t-preserved c =
    let more = map-take-more (λ t. t.name) c.args.config.now.types c.loop-t.t c.node_type.result.now c.node_type.ensures.node_type in
    let pushed = c.in_ok-push.ensures.items in
    let copied = c.in_ok-copy.ensures in
    cc

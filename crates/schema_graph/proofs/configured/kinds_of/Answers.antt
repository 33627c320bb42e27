use Rattle.schema_graph.specs.Configured.{kind_of}
use Rattle.schema_graph.proofs.ConfiguredLemmas.{map-take-more}
use Rattle.schema_graph.proofs.configured.kinds_of.Goals as goal

pub loop-t-preserved : goal.loop-t-preserved
loop-t-preserved c =
    let more = map-take-more kind_of c.args.config.now.types c.loop-t.t c.node_type.result.now c.node_type.ensures.node_type in
    let pushed = c.in_ok-push.ensures.items in
    cc

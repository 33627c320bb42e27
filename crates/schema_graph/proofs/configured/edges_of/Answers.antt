use Rattle.schema_graph.specs.Configured.{edge_of}
use Rattle.schema_graph.proofs.ConfiguredLemmas.{map-take-more, IsSchema-schema_of}
use Rattle.schema_graph.proofs.configured.edges_of.Goals as goal

pub loop-c-preserved : goal.loop-c-preserved
loop-c-preserved c =
    let more = map-take-more (edge_of c.args.kinds.now) c.args.config.now.constraints c.loop-c.c c.constraint.result.now c.constraint.ensures.constraint in
    let pushed = c.in_ok-push.ensures.items in
    cc

pub returns-in_err-push-clause-schema : goal.returns-in_err-push-clause-schema
returns-in_err-push-clause-schema c = IsSchema-schema_of _ c.constraint.ensures.config

pub returns-clause-schema : goal.returns-clause-schema
returns-clause-schema c = IsSchema-schema_of _ c.constraint_count-c-end.ensures.config

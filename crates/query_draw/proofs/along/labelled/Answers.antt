use Rattle.query_draw.proofs.AlongLemmas.{labelled-more}
use Rattle.query_draw.proofs.along.labelled.Goals as goal

pub loop-edge-preserved : goal.loop-edge-preserved
loop-edge-preserved c =
    let more = labelled-more c.args.schema.now.edges c.args.label c.loop-edge.edge in
    let first = c.in_ok-push_if.ensures in
    cc

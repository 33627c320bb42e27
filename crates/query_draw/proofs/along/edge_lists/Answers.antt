use Rattle.std.proofs.Common.{arith}
use Rattle.std.proofs.lemmas.List.FromFn.{map-range_with_len_more}
use Rattle.query_draw.specs.Columns.{labelled}
use Rattle.query_draw.proofs.along.edge_lists.Goals as goal

pub loop-label-preserved : goal.loop-label-preserved
loop-label-preserved c =
    let more = map-range_with_len_more (labelled c.args.schema.now.edges) 0 c.loop-label.label c.loop-label.label (omega arith) in
    let first = c.in_ok-labelled.ensures in
    let second = c.in_ok-push.ensures.items in
    cc

use Rattle.std.proofs.Common.{arith}
use Rattle.std.proofs.lemmas.List.FromFn.{map-range_with_len_more}
use Rattle.sel_graph.specs.Steps.{next_from}
use Rattle.sel_graph.proofs.next_places.kind_nexts.Goals as goal

pub loop-place-preserved : goal.loop-place-preserved
loop-place-preserved c =
    let more = map-range_with_len_more (next_from c.args.schema.now c.args.kind) 0 c.loop-place.place c.loop-place.place (omega arith) in
    let first = c.in_ok-next_from.ensures in
    let second = c.in_ok-push.ensures.items in
    cc

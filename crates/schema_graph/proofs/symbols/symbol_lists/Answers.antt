use Rattle.std.proofs.Common.{arith}
use Rattle.std.proofs.lemmas.List.FromFn.{map-range_with_len_more}
use Rattle.schema_graph.specs.Symbols.{symbols_of}
use Rattle.schema_graph.proofs.symbols.symbol_lists.Goals as goal

pub loop-start-preserved : goal.loop-start-preserved
loop-start-preserved c =
    let more = map-range_with_len_more (symbols_of c.args.edges.now) 0 c.loop-start.start c.loop-start.start (omega arith) in
    let first = c.in_ok-symbols_of.ensures in
    let second = c.in_ok-push.ensures.items in
    cc

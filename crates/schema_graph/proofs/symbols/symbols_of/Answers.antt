use Rattle.schema_graph.proofs.SymbolLemmas.{filter-first_symbols-more}
use Rattle.schema_graph.proofs.symbols.symbols_of.Goals as goal

pub loop-edge-preserved : goal.loop-edge-preserved
loop-edge-preserved c =
    let more = filter-first_symbols-more c.args.edges.now c.args.start c.loop-edge.edge in
    let first = c.in_ok-push_if.ensures in
    let second = c.in_ok-push_if-2.ensures in
    cc

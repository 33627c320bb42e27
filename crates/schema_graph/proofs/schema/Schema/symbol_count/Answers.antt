use Rattle.std.proofs.Common.{arith}
use Rattle.schema_graph.proofs.SymbolLemmas.{length-symbols_of}
use Rattle.schema_graph.proofs.schema.Schema.symbol_count.Goals as goal

pub overflow_cast-result : goal.overflow_cast-result
overflow_cast-result c =
    let few = length-symbols_of c.args.self.now.edges c.args.t in
    rw c.symbols_at.ensures.symbols (omega (arith, c.symbols_at.ensures.schema.few_edges))

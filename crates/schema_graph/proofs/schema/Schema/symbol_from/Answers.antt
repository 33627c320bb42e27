use Rattle.schema_graph.proofs.SymbolLemmas.{symbols_of-edge, symbols_of-start}
use Rattle.schema_graph.proofs.schema.Schema.symbol_from.Goals as goal

pub returns-clause-edge : goal.returns-clause-edge
returns-clause-edge c = rw c.symbols_at.ensures.symbols (symbols_of-edge _ _ c.args.n _ c.requires.n)

pub returns-clause-start : goal.returns-clause-start
returns-clause-start c = rw c.symbols_at.ensures.symbols (symbols_of-start _ _ c.args.n _ c.requires.n)

use Rattle.std.proofs.Common.{◌∙◌}
use Rattle.schema_graph.proofs.SymbolLemmas.{HasSymbols-at}
use Rattle.schema_graph.proofs.schema.Schema.symbols_at.Goals as goal

pub index-requires : goal.index-requires
index-requires c =
    rw c.self.inside.symbols.ok.0 (HasSymbols-at _ _ c.self.invariant c.args.t (rw (← c.self.view_is) at c.requires)).0

pub returns-clause-symbols : goal.returns-clause-symbols
returns-clause-symbols c =
    rw (← c.self.view_is) (c.as_slice.ensures ∙ (c.index.ensures ∙ (HasSymbols-at _ _ c.self.invariant c.args.t (rw (← c.self.view_is) at c.requires)).1 _))

-- Walks of symbols.
--   CarriesBySymbol g s c u    symbol c of the schema carries state s to state u
--   HasWalk g n s t            some n symbols carry s to t, one after another
use Rattle.std.specs.Prelude.{◌≡◌, ℕ, ◌<◌, length}
use Rattle.sel_algebra.specs.declared.vocabulary.Symbol.{Symbol}
use Rattle.schema_graph.specs.Edge.{start_of}
use Rattle.schema_graph.specs.Schema.{SchemaValue}
use Rattle.sel_graph.specs.Runs.{HasRun}
use Rattle.sel_graph.specs.declared.states.State.{State}
use Rattle.sel_graph.specs.States.{carried}

-- a symbol of the schema carries a state, where it starts at the type to which the state has come
abbrev pub CarriesBySymbol : SchemaValue → State → Symbol → State → Type 0
CarriesBySymbol g s c u = (c.edge < length g.edges) × (start_of g.edges c ≡ s.at) × (carried g s c ≡ u)

-- some n symbols carry s to t, one after another
abbrev pub HasWalk : SchemaValue → ℕ → State → State → Type 0
HasWalk g n s t = HasRun (CarriesBySymbol g) n (λ u. u ≡ t) s

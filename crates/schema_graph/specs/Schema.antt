-- What a schema is, and what is true of each.
--   edges_most               the most edges of a schema
--   SchemaValue              the kinds of its types, and its edges
--   IsSchema s               the rules that each schema keeps
--   HasSymbols s lists       these, and for each type the list of its symbols
use Rattle.std.specs.Prelude.{◌≡◌, ◌≢◌, ℕ, ◌≤◌, List, length, map, All, AllPairs}
use Rattle.std.specs.List.{range_with_len}
use Rattle.sel_algebra.specs.Table.{types_most}
use Rattle.sel_algebra.specs.declared.vocabulary.Kind.{Kind}
use Rattle.sel_algebra.specs.declared.vocabulary.Symbol.{Symbol}
use Rattle.schema_graph.specs.declared.edge.SchemaEdge.{SchemaEdge}
use Rattle.schema_graph.specs.Edge.{ends, IsSchemaEdge}
use Rattle.schema_graph.specs.Symbols.{symbols_of}

-- the most edges of a schema
abbrev pub edges_most : ℕ
edges_most = 128

-- a schema: the kinds of its types, and its edges
pub record SchemaValue : Type 0 where
  pub kinds : List Kind
  pub edges : List SchemaEdge

-- few types, few edges between them, and no two with the same source, label and target
pub record IsSchema (s : SchemaValue) : Type 0 where
  pub few_types : length s.kinds ≤ types_most
  pub few_edges : length s.edges ≤ edges_most
  pub each_edge : All (IsSchemaEdge s.kinds) s.edges
  pub edges_differ : AllPairs (λ d e. ends d ≢ ends e) s.edges

-- a schema, and for each type the list of its symbols
pub record HasSymbols (s : SchemaValue) (lists : List (List Symbol)) : Type 0 where
  pub schema : IsSchema s
  pub symbols : lists ≡ map (symbols_of s.edges) (range_with_len 0 (length s.kinds))

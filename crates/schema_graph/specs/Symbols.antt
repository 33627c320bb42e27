-- The symbols of a schema, in their order: by their edges, and along an edge before against it.
--   first_symbols n        the symbols of the first n edges
--   symbols_of edges t     the symbols that start at type t
use Rattle.std.specs.Prelude.{ℕ, ◌==◌, if◌then◌else◌, Bool, true, false, List, [], ◌∷◌, length, filter}
use Rattle.std.specs.List.{range_with_len, flat_map}
use Rattle.sel_algebra.specs.declared.vocabulary.Symbol.{Symbol}
use Rattle.schema_graph.specs.declared.edge.SchemaEdge.{SchemaEdge}
use Rattle.schema_graph.specs.Edge.{start_of}

-- the two symbols of an edge: along it and against it
abbrev pub both_ways : ℕ → List Symbol
both_ways e = record { edge = e; back = false } ∷ record { edge = e; back = true } ∷ []

-- the symbol that takes an edge in a direction, if it is wanted
abbrev pub symbol_if : Bool → ℕ → Bool → List Symbol
symbol_if wanted edge back = if wanted then record { edge = edge; back = back } ∷ [] else []

-- the symbols of the first n edges
abbrev pub first_symbols : ℕ → List Symbol
first_symbols n = flat_map both_ways (range_with_len 0 n)

-- whether a symbol starts at type t
abbrev pub starts_at : List SchemaEdge → ℕ → Symbol → Bool
starts_at edges t s = start_of edges s == t

-- the symbols that start at type t
abbrev pub symbols_of : List SchemaEdge → ℕ → List Symbol
symbols_of edges t = filter (starts_at edges t) (first_symbols (length edges))

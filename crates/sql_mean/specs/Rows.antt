-- The rows of a SQL text over a graph.
--   IsEdgeRow graph row             source, label and target of a triple of the graph
--   Has reading graph name row      the table of the text with the name, or `edge`, has the row
--   TableRows reading graph k row   table k of the text, counted from 0, has the row
--   IsSqlRow reading graph row      a row of the last union
use Rattle.std.specs.Prelude.{◌≡◌, ℕ, List, [], ◌∷◌, codes, slice_get, Some, Contains}
use Rattle.graph_text.specs.declared.graphs.Triple.{Triple}
use Rattle.sql_read.specs.Grammar.{Table, Reading}
use Rattle.sql_read.specs.Conditions.{Header, edge_header, headers_after}
use Rattle.sql_mean.specs.Selects.{IsUnionRow}
use Rattle.sql_mean.specs.Tables.{With, After}

-- the numbers of a triple
abbrev pub edge_row : Triple → List ℕ
edge_row t = t.src ∷ t.label ∷ t.trg ∷ []

-- a triple of the graph
abbrev pub IsEdgeRow : List Triple → List ℕ → Type 0
IsEdgeRow graph row = (t : Triple) × Contains graph t × (row ≡ edge_row t)

-- at first there is `edge` alone
abbrev pub AtFirst : List Triple → List ℕ → List ℕ → Type 0
AtFirst graph = With (λ name row. ⊥) (codes "edge") (IsEdgeRow graph)

-- the columns of all tables of a text
abbrev pub headers_of : Reading → List Header
headers_of reading = headers_after (edge_header ∷ []) reading.tables

-- all tables of a text, one after the other
abbrev pub Has : Reading → List Triple → List ℕ → List ℕ → Type 0
Has reading graph = After (edge_header ∷ []) (AtFirst graph) reading.tables

-- the table with this number
abbrev pub TableRows : Reading → List Triple → ℕ → List ℕ → Type 0
TableRows reading graph k row = (t : Table) × (slice_get reading.tables k ≡ Some t) × Has reading graph t.name row

-- the last union over all tables
abbrev pub IsSqlRow : Reading → List Triple → List ℕ → Type 0
IsSqlRow reading graph row = IsUnionRow (headers_of reading) (Has reading graph) reading.last row

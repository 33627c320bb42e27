-- The operators of the edges with one label.
--   goes i label j e               whether an edge goes from type i to type j and has this label
--   matrix_of s label back         the operators of these edges, along them or against them
--   HasOperators s label back m    the same, said by the edges: an entry is an operator just where an edge has it
--   EntersEdge old new label e     an edge's operator becomes the entry at its ends, if it has this label
use Rattle.std.specs.Prelude.{◌≡◌, ◌↔◌, ℕ, ◌==◌, Bool, ◌&&◌, if◌then◌else◌, Option, Some, option_map, List, map, find, Contains}
use Rattle.sel_algebra.specs.declared.vocabulary.Op.{Op}
use Rattle.sel_algebra.specs.Table.{Table, table_of, entry, EachPair}
use Rattle.schema_graph.specs.declared.edge.SchemaEdge.{SchemaEdge}
use Rattle.schema_graph.specs.Edge.{taken}
use Rattle.schema_graph.specs.Schema.{SchemaValue}

-- whether an edge goes from type i to type j and has this label
abbrev pub goes : ℕ → ℕ → ℕ → SchemaEdge → Bool
goes i label j e = (e.source == i) && ((e.label == label) && (e.target == j))

-- the operator of the edge with this label from type i to type j, and nothing where there is none
abbrev pub operator_of : List SchemaEdge → ℕ → ℕ → ℕ → Option Op
operator_of edges label i j = option_map (λ e. e.op) (find (goes i label j) edges)

-- the edges, all along their directions or all against them
abbrev pub all_taken : SchemaValue → Bool → List SchemaEdge
all_taken s back = map (taken back) s.edges

-- the operators of the edges with a label, along them or against them, at their two ends
abbrev pub matrix_of : SchemaValue → ℕ → Bool → Table
matrix_of s label back = table_of s.kinds (operator_of (all_taken s back) label)

-- a matrix over the types, in which an operator stands from i to j just where an edge of this label has it
pub record HasOperators (s : SchemaValue) (label : ℕ) (back : Bool) (m : Table) : Type 0 where
  pub kinds : m.kinds ≡ s.kinds
  pub entries : EachPair s.kinds (λ i j. (op : Op) →
      (entry m i j ≡ Some op) ↔ Contains (all_taken s back) (record { source = i; label = label; target = j; op = op }))

-- an edge's operator becomes the entry from its source to its target, if it has this label, and all else stays
pub record EntersEdge (old new : Table) (label : ℕ) (e : SchemaEdge) : Type 0 where
  pub kinds : new.kinds ≡ old.kinds
  pub entries : EachPair old.kinds (λ i j. entry new i j ≡ (if goes i label j e then Some e.op else entry old i j))

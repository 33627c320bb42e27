-- The edges of a schema, and their use as symbols.
--   edge_at edges n           the edge with a number
--   taken back e              an edge along its direction, or against it
--   use_of edges s            the edge of a symbol, as the symbol takes it: its source, target, label and operator
--                             are start_of, end_of, label_of and op_of edges s
--   ends e                    the source, the label and the target of an edge
--   IsSchemaEdge kinds e      what is true of each edge of a schema
use Rattle.std.specs.Prelude.{ℕ, ◌<◌, Bool, true, false, List, length, slice_index_or}
use Rattle.sel_algebra.specs.declared.vocabulary.Op.{Op}
use Rattle.sel_algebra.specs.declared.vocabulary.Op.TheVariants.{Equal}
use Rattle.sel_algebra.specs.declared.vocabulary.Kind.{Kind}
use Rattle.sel_algebra.specs.declared.vocabulary.Symbol.{Symbol}
use Rattle.sel_algebra.specs.Operators.{mirror_of, IsNormal}
use Rattle.sel_algebra.specs.Table.{kind_at}
use Rattle.gm_config.specs.Limits.{labels_most}
use Rattle.schema_graph.specs.declared.edge.SchemaEdge.{SchemaEdge}

-- what stands past the end of a list of edges
abbrev pub no_edge : SchemaEdge
no_edge = record { source = 0; label = 0; target = 0; op = Equal }

-- the edge with a number
abbrev pub edge_at : List SchemaEdge → ℕ → SchemaEdge
edge_at edges n = slice_index_or edges n no_edge

-- an edge along its direction, or against it: then the ends are swapped and the operator is mirrored
abbrev pub taken : Bool → SchemaEdge → SchemaEdge
taken false e = e
taken true e = record { source = e.target; label = e.label; target = e.source; op = mirror_of e.op }

-- the edge of a symbol, as the symbol takes it
abbrev pub use_of : List SchemaEdge → Symbol → SchemaEdge
use_of edges s = taken s.back (edge_at edges s.edge)

-- the type at which a symbol starts
abbrev pub start_of : List SchemaEdge → Symbol → ℕ
start_of edges s = (use_of edges s).source

-- the type at which a symbol ends
abbrev pub end_of : List SchemaEdge → Symbol → ℕ
end_of edges s = (use_of edges s).target

-- the operator of a symbol
abbrev pub op_of : List SchemaEdge → Symbol → Op
op_of edges s = (use_of edges s).op

-- the label of a symbol
abbrev pub label_of : List SchemaEdge → Symbol → ℕ
label_of edges s = (use_of edges s).label

-- the source, the label and the target of an edge
abbrev pub ends : SchemaEdge → ℕ × (ℕ × ℕ)
ends e = (e.source, (e.label, e.target))

-- an edge between types of the list, with a small label and an operator that is normal for its ends
pub record IsSchemaEdge (kinds : List Kind) (e : SchemaEdge) : Type 0 where
  pub source : e.source < length kinds
  pub label : e.label < labels_most
  pub target : e.target < length kinds
  pub normal : IsNormal e.op (kind_at kinds e.source) (kind_at kinds e.target)

-- The schema of a configuration.
--   kinds_of c                 the kind of each type: growing with a share of the nodes, fixed with a number of nodes
--   growing_operator out in    the operator between growing types, by whether a side is `zipf`
--   edges_of c                 the edge of each constraint, with the normal form of that operator
--   schema_of c                the schema of these
use Rattle.std.specs.Prelude.{Bool, true, false, List, map}
use Rattle.sel_algebra.specs.declared.vocabulary.Op.{Op}
use Rattle.sel_algebra.specs.declared.vocabulary.Op.TheVariants.{Equal, Less, Greater, Diamond}
use Rattle.sel_algebra.specs.declared.vocabulary.Kind.{Kind}
use Rattle.sel_algebra.specs.declared.vocabulary.Kind.TheVariants.{Fixed, Growing}
use Rattle.sel_algebra.specs.Operators.{normal_of}
use Rattle.sel_algebra.specs.Table.{kind_at}
use Rattle.gm_config.specs.Config.{ConfigValue}
use Rattle.gm_config.specs.declared.values.Amount.{Amount}
use Rattle.gm_config.specs.declared.values.Amount.TheVariants.{Share, Count}
use Rattle.gm_config.specs.declared.values.NodeType.{NodeType}
use Rattle.gm_config.specs.declared.values.Constraint.{Constraint}
use Rattle.gm_config.specs.declared.degree_specs.DegreeSpec.{DegreeSpec}
use Rattle.gm_config.specs.declared.degree_specs.DegreeSpec.TheVariants.{Uniform, Bell, Zipf, Table, Free}
use Rattle.schema_graph.specs.declared.edge.SchemaEdge.{SchemaEdge}
use Rattle.schema_graph.specs.Schema.{SchemaValue}

-- the kind of a type with this amount of nodes
abbrev pub kind_with : Amount → Kind
kind_with (Share thousandths) = Growing
kind_with (Count count) = Fixed

-- the kind of a type
abbrev pub kind_of : NodeType → Kind
kind_of t = kind_with t.amount

-- the kinds of the types
abbrev pub kinds_of : ConfigValue → List Kind
kinds_of c = map kind_of c.types

-- whether a side is `zipf`
abbrev pub is_zipf : DegreeSpec → Bool
is_zipf (Uniform min max) = false
is_zipf (Bell center width) = false
is_zipf (Zipf exponent max) = true
is_zipf (Table weights) = false
is_zipf Free = false

-- the operator between growing types, by whether the out side and the in side are `zipf`
abbrev pub growing_operator : Bool → Bool → Op
growing_operator false false = Equal
growing_operator true false = Less
growing_operator false true = Greater
growing_operator true true = Diamond

-- the operator of a constraint: its normal form for the kinds of its ends
abbrev pub constraint_operator : List Kind → Constraint → Op
constraint_operator kinds k =
    normal_of (growing_operator (is_zipf k.out_spec) (is_zipf k.in_spec)) (kind_at kinds k.source) (kind_at kinds k.target)

-- the edge of a constraint, between types of these kinds
abbrev pub edge_of : List Kind → Constraint → SchemaEdge
edge_of kinds k = record { source = k.source; label = k.label; target = k.target; op = constraint_operator kinds k }

-- the edges of the constraints
abbrev pub edges_of : ConfigValue → List SchemaEdge
edges_of c = map (edge_of (kinds_of c)) c.constraints

-- the schema of a configuration
abbrev pub schema_of : ConfigValue → SchemaValue
schema_of c = record { kinds = kinds_of c; edges = edges_of c }

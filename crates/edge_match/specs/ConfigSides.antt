-- The two sides of a constraint of a configuration.
--   opposite side             the other side
--   constraint_at config c    constraint c
--   label_at config c         its label
--   side_spec config c side   its degree specification at a side
--   is_free config c side     that specification is `Free`
--   side_type config c side   the type whose nodes stand at a side
--   side_first config c side  the first of these nodes
--   side_count config c side  the number of these nodes
use Rattle.std.specs.Prelude.{ℕ, Bool, true, false, slice_index, slice_index_or}
use Rattle.gm_config.specs.Config.{ConfigValue, node_counts, first_node}
use Rattle.gm_config.specs.declared.values.Constraint.{Constraint}
use Rattle.gm_config.specs.declared.degree_specs.DegreeSpec.{DegreeSpec}
use Rattle.gm_config.specs.declared.degree_specs.DegreeSpec.TheVariants.{Free}
use Rattle.edge_match.specs.declared.config_sides.Side.{Side}
use Rattle.edge_match.specs.declared.config_sides.Side.TheVariants.{Out, In}

-- the other side
abbrev pub opposite : Side → Side
opposite Out = In
opposite In = Out

-- what stands for a constraint where there is none
abbrev pub no_constraint : Constraint
no_constraint = record { source = 0; label = 0; target = 0; out_spec = Free; in_spec = Free }

-- constraint c
abbrev pub constraint_at : ConfigValue → ℕ → Constraint
constraint_at config c = slice_index_or config.constraints c no_constraint

-- the label of constraint c
abbrev pub label_at : ConfigValue → ℕ → ℕ
label_at config c = (constraint_at config c).label

-- the degree specification of a constraint at a side
abbrev pub spec_at : Constraint → Side → DegreeSpec
spec_at constraint Out = constraint.out_spec
spec_at constraint In = constraint.in_spec

-- the type whose nodes stand at a side of a constraint: the source type at the out side
abbrev pub type_at : Constraint → Side → ℕ
type_at constraint Out = constraint.source
type_at constraint In = constraint.target

-- a degree specification is `Free`
abbrev pub is_free_spec : DegreeSpec → Bool
is_free_spec Free = true
is_free_spec _ = false

-- the degree specification of constraint c at a side
abbrev pub side_spec : ConfigValue → ℕ → Side → DegreeSpec
side_spec config c side = spec_at (constraint_at config c) side

-- the degrees at a side of constraint c are free
abbrev pub is_free : ConfigValue → ℕ → Side → Bool
is_free config c side = is_free_spec (side_spec config c side)

-- the type whose nodes stand at a side of constraint c
abbrev pub side_type : ConfigValue → ℕ → Side → ℕ
side_type config c side = type_at (constraint_at config c) side

-- the first node at a side of constraint c
abbrev pub side_first : ConfigValue → ℕ → Side → ℕ
side_first config c side = first_node config (side_type config c side)

-- the number of nodes at a side of constraint c
abbrev pub side_count : ConfigValue → ℕ → Side → ℕ
side_count config c side = slice_index (node_counts config) (side_type config c side)

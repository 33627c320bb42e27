-- Lists of triples that keep to the constraints of a configuration and to the drawn degrees.
--   is_node_at config c side node        a node stands at a side of constraint c
--   is_triple_of config c triple         a triple is one of constraint c
--   triples_of config c triples          the triples of constraint c
--   HasOneConstraint config triple       a triple is one of exactly one constraint
--   IsConforming config seed triples     triples keep to the constraints, and their nodes to the drawn degrees
use Rattle.std.specs.Prelude.{◌≡◌, ℕ, ◌+◌, ◌<◌, ◌≤◌, Bool, ◌&&◌, ◌==◌, nat_lt, nat_le, List, length, slice_index, filter, All, count_by}
use Rattle.std.specs.List.{range_with_len}
use Rattle.graph_text.specs.declared.graphs.Triple.{Triple}
use Rattle.gm_config.specs.Config.{ConfigValue}
use Rattle.edge_match.specs.declared.config_sides.Side.{Side}
use Rattle.edge_match.specs.declared.config_sides.Side.TheVariants.{Out, In}
use Rattle.edge_match.specs.ConfigSides.{label_at, side_first, side_count}
use Rattle.edge_match.specs.DrawnDegrees.{side_degrees, smaller_total}
use Rattle.edge_match.specs.Conforming.{edges_at}

-- a node is one of the type whose nodes stand at a side of constraint c
abbrev pub is_node_at : ConfigValue → ℕ → Side → ℕ → Bool
is_node_at config c side node = nat_le (side_first config c side) node && nat_lt node (side_first config c side + side_count config c side)

-- the node of a triple at a side
abbrev pub end_at : Side → Triple → ℕ
end_at Out triple = triple.src
end_at In triple = triple.trg

-- by its end nodes and its label, a triple has the source type, the label and the target type of constraint c
abbrev pub is_triple_of : ConfigValue → ℕ → Triple → Bool
is_triple_of config c triple = is_node_at config c Out triple.src && (triple.label == label_at config c) && is_node_at config c In triple.trg

-- the triples of constraint c
abbrev pub triples_of : ConfigValue → ℕ → List Triple → List Triple
triples_of config c triples = filter (is_triple_of config c) triples

-- a triple is one of exactly one constraint
abbrev pub HasOneConstraint : ConfigValue → Triple → Type 0
HasOneConstraint config triple = count_by (λ c. is_triple_of config c triple) (range_with_len 0 (length config.constraints)) ≡ 1

-- each triple is one of exactly one constraint; no node has more triples of a constraint than its drawn degree;
-- and each constraint has as many triples as the smaller of its two totals
pub record IsConforming (config : ConfigValue) (seed : ℕ) (triples : List Triple) : Type 0 where
  pub constraints : All (HasOneConstraint config) triples
  pub degrees : (c : ℕ) (side : Side) (place : ℕ) → c < length config.constraints → place < side_count config c side
      → edges_at (end_at side) (triples_of config c triples) (side_first config c side + place) ≤ slice_index (side_degrees config seed c side) place
  pub numbers : (c : ℕ) → c < length config.constraints
      → length (triples_of config c triples) ≡ smaller_total config seed c

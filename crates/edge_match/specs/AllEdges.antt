-- The edges of all constraints of a configuration.
--   AreEdgesOf config seed c edges       edges are those of constraint c
--   AreEdgesBefore config seed n edges   edges are those of the constraints before constraint n
--   AreAllEdges config seed edges        edges are those of all constraints
--   AllEdgesConform                      such edges conform
--   AllEdgesAreOne                       there is one list of them alone
--   SmallerSideIsMet                     where triples conform, the nodes of the smaller side have exactly their degrees
use Rattle.std.specs.Prelude.{◌≡◌, ℕ, zero, suc, ◌+◌, ◌<◌, ◌≤◌, List, [], ◌++◌, length, slice_index}
use Rattle.graph_text.specs.declared.graphs.Triple.{Triple}
use Rattle.gm_config.specs.Config.{ConfigValue, IsConfig}
use Rattle.edge_match.specs.declared.config_sides.Side.{Side}
use Rattle.edge_match.specs.declared.config_sides.Side.TheVariants.{Out, In}
use Rattle.edge_match.specs.ConfigSides.{opposite, label_at, side_first, side_count}
use Rattle.edge_match.specs.DrawnDegrees.{side_degrees, side_total, side_stubs}
use Rattle.edge_match.specs.Matching.{IsMatching}
use Rattle.edge_match.specs.Conforming.{edges_at}
use Rattle.edge_match.specs.ConformingGraph.{end_at, triples_of, IsConforming}

-- edges are those of constraint c: they join the stubs of its two sides by rank
abbrev pub AreEdgesOf : ConfigValue → (seed c : ℕ) → List Triple → Type 0
AreEdgesOf config seed c edges = IsMatching (side_stubs config seed c Out) (side_stubs config seed c In) (label_at config c) edges

-- edges are those of the constraints before constraint n, one constraint after another
unfoldable pub AreEdgesBefore : ConfigValue → (seed n : ℕ) → List Triple → Type 0
AreEdgesBefore config seed zero edges = edges ≡ []
AreEdgesBefore config seed (suc c) edges = (before : List Triple) × (own : List Triple) × AreEdgesBefore config seed c before × AreEdgesOf config seed c own × (edges ≡ before ++ own)

-- edges are those of all constraints, one constraint after another
abbrev pub AreAllEdges : ConfigValue → ℕ → List Triple → Type 0
AreAllEdges config seed edges = AreEdgesBefore config seed (length config.constraints) edges

-- the edges of all constraints of a configuration conform to it
abbrev pub AllEdgesConform : Type 0
AllEdgesConform = (config : ConfigValue) (seed : ℕ) (edges : List Triple) → IsConfig config → AreAllEdges config seed edges → IsConforming config seed edges

-- there is one list alone of the edges of all constraints
abbrev pub AllEdgesAreOne : Type 0
AllEdgesAreOne = (config : ConfigValue) (seed : ℕ) (edges others : List Triple) → AreAllEdges config seed edges → AreAllEdges config seed others → edges ≡ others

-- where triples conform, each node of the side with the smaller total has exactly its drawn degree
abbrev pub SmallerSideIsMet : Type 0
SmallerSideIsMet = (config : ConfigValue) (seed c : ℕ) (side : Side) (place : ℕ) (triples : List Triple) → IsConforming config seed triples
    → c < length config.constraints → place < side_count config c side → side_total config seed c side ≤ side_total config seed c (opposite side)
    → edges_at (end_at side) (triples_of config c triples) (side_first config c side + place) ≡ slice_index (side_degrees config seed c side) place

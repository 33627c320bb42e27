-- Graphs that keep to the types of the constraints of a configuration.
--   HasConstraint config triple   a triple is one of some constraint
--   KeepsTypes config graph       each triple of a graph is
use Rattle.std.specs.Prelude.{ℕ, ◌<◌, IsTrue, List, length, All}
use Rattle.graph_text.specs.declared.graphs.Triple.{Triple}
use Rattle.gm_config.specs.Config.{ConfigValue}
use Rattle.edge_match.specs.ConformingGraph.{is_triple_of}

-- by its end nodes and its label, a triple has the source type, the label and the target type of some constraint
abbrev pub HasConstraint : ConfigValue → Triple → Type 0
HasConstraint config triple = (c : ℕ) × (c < length config.constraints) × IsTrue (is_triple_of config c triple)

-- each triple has those of some constraint; a triple may stand more than once
abbrev pub KeepsTypes : ConfigValue → List Triple → Type 0
KeepsTypes config graph = All (HasConstraint config) graph

-- The edges of a constraint keep to the degrees of its sides, and are in the range of the text of a graph.
use Rattle.std.proofs.Common.{◌≡◌, ◌<◌, ◌≤◌, ◌+◌, ℕ, List, length, arith, All}
use Rattle.graph_text.specs.declared.graphs.Triple.{Triple}
use Rattle.graph_text.specs.EdgesText.{IsInRange}
use Rattle.gm_config.specs.Config.{ConfigValue, IsConfig}
use Rattle.gm_config.proofs.ConfigLemmas.{first_node-within}
use Rattle.edge_match.specs.declared.config_sides.Side.TheVariants.{Out, In}
use Rattle.edge_match.specs.ConfigSides.{label_at, side_type}
use Rattle.edge_match.specs.Conforming.{Conforms}
use Rattle.edge_match.specs.DrawnDegrees.{node_degrees}
use Rattle.edge_match.specs.AllEdges.{AreEdgesOf}
use Rattle.edge_match.proofs.SideLemmas.{IsConstraint-constraint_at, length-side_degrees}
use Rattle.edge_match.proofs.MeetingLemmas.{Conforms-IsMatching}

node_in_range : (node first len count : ℕ) → node < first + len → len ≡ count → first + count ≤ 1000000 → node ≤ 999999
node_in_range node first len count below same within = omega arith

label_in_range : (label own labels : ℕ) → label ≡ own → own < labels → labels ≤ 64 → label ≤ 63
label_in_range label own labels same known few = omega arith

module _ (config : ConfigValue) (seed c : ℕ) (edges : List Triple) where
  pub Conforms-AreEdgesOf : AreEdgesOf config seed c edges → Conforms (node_degrees config seed c Out) (node_degrees config seed c In) (label_at config c) edges
  Conforms-AreEdgesOf matching = Conforms-IsMatching _ _ (node_degrees config seed c Out) (node_degrees config seed c In) (label_at config c) edges matching

  pub IsInRange-AreEdgesOf : IsConfig config → c < length config.constraints → AreEdgesOf config seed c edges → All IsInRange edges
  IsInRange-AreEdgesOf rules known matching = λ k d lt.
      let own = IsConstraint-constraint_at config c rules known in
      let keeps = Conforms-AreEdgesOf matching in
      record {
        src = node_in_range _ _ _ _ (keeps.sources.nodes k d lt).1 (length-side_degrees config seed c Out)
            (first_node-within config (side_type config c Out) rules.all_nodes own.source);
        label = label_in_range _ _ _ (keeps.labels k d lt) own.label rules.labels.few;
        trg = node_in_range _ _ _ _ (keeps.targets.nodes k d lt).1 (length-side_degrees config seed c In)
            (first_node-within config (side_type config c In) rules.all_nodes own.target);
      }

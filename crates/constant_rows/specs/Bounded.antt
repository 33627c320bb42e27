-- Queries whose rows are of nodes of types with a count.
--   IsBoundedOver config query graph   each row over a graph is of two such nodes, and so the rows are few
--   IsBounded config query             over each graph that keeps to the types of the constraints
use Rattle.std.specs.Prelude.{◌≡◌, ℕ, ◌*◌, ◌≤◌, List, length, All}
use Rattle.graph_text.specs.declared.graphs.Triple.{Triple}
use Rattle.gm_config.specs.Config.{ConfigValue, AllDiffer}
use Rattle.query_terms.specs.Values.{QueryValue}
use Rattle.rpq_meaning.specs.QueryRows.{IsQueryRow}
use Rattle.constant_rows.specs.Nodes.{IsCountedNode, counted_total}
use Rattle.constant_rows.specs.Graphs.{KeepsTypes}

-- over a graph, each row is of two nodes of types with a count, and there are at most so many different rows
pub record IsBoundedOver (config : ConfigValue) (query : QueryValue) (graph : List Triple) : Type 0 where
  pub counted : (row : List ℕ) → IsQueryRow query graph row → (length row ≡ 2) × All (IsCountedNode config) row
  pub few : (rows : List (List ℕ)) → AllDiffer rows → All (IsQueryRow query graph) rows
      → length rows ≤ counted_total config * counted_total config

-- over each graph that keeps to the types of the constraints
abbrev pub IsBounded : ConfigValue → QueryValue → Type 0
IsBounded config query = (graph : List Triple) → KeepsTypes config graph → IsBoundedOver config query graph

-- The laws of constant queries.
--   ConstantQueriesAreBounded   a drawn query whose wide class is constant is bounded
--   ConformingGraphsKeepTypes   a conforming list of triples keeps to the types of the constraints
use Rattle.std.specs.Prelude.{◌≡◌, ℕ, IsTrue, Some, List}
use Rattle.sel_algebra.specs.declared.vocabulary.Class.TheVariants.{Constant}
use Rattle.graph_text.specs.declared.graphs.Triple.{Triple}
use Rattle.gm_config.specs.Config.{ConfigValue, IsConfig}
use Rattle.edge_match.specs.ConformingGraph.{IsConforming}
use Rattle.query_draw.specs.Query.{has_query, query_of}
use Rattle.constant_rows.specs.Graphs.{KeepsTypes}
use Rattle.constant_rows.specs.Bounded.{IsBounded}

-- a drawn query whose wide class is constant is bounded
abbrev pub ConstantQueriesAreBounded : Type 0
ConstantQueriesAreBounded = (config : ConfigValue) → IsConfig config → (seed number : ℕ) → IsTrue (has_query config seed number)
    → (query_of config seed number).wide ≡ Some Constant → IsBounded config (query_of config seed number)

-- a conforming list of triples keeps to the types of the constraints
abbrev pub ConformingGraphsKeepTypes : Type 0
ConformingGraphsKeepTypes = (config : ConfigValue) (seed : ℕ) (triples : List Triple) → IsConforming config seed triples
    → KeepsTypes config triples

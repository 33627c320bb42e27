-- The sample: a configuration of researchers, papers, journals, conferences and cities.
--   sample_text     its text, which asks for 1000 nodes
--   sample_of k     the configuration, with 1000 times k nodes asked for
use Rattle.std.specs.Prelude.{ℕ, ◌*◌, List, [], ◌∷◌, ◌++◌, codes, Some, None}
use Rattle.sel_algebra.specs.declared.vocabulary.Shape.TheVariants.{Chain, Star, Cycle, StarChain}
use Rattle.sel_algebra.specs.declared.vocabulary.Class.TheVariants.{Constant, Linear, Quadratic}
use Rattle.gm_config.specs.Config.{ConfigValue}
use Rattle.gm_config.specs.declared.values.Amount.TheVariants.{Share, Count}
use Rattle.gm_config.specs.declared.values.NodeType.{NodeType}
use Rattle.gm_config.specs.declared.values.Constraint.{Constraint}
use Rattle.gm_config.specs.declared.degree_specs.DegreeSpec.TheVariants.{Uniform, Bell, Zipf, Free}
use Rattle.gm_config.specs.declared.workload_rules.Workload.{Workload}

-- its text, line by line
abbrev pub sample_text : List ℕ
sample_text =
    codes "{\"nodes\":1000,\n"
    ++ codes "\"types\":[{\"name\":\"researcher\",\"share\":500},{\"name\":\"paper\",\"share\":300},{\"name\":\"journal\",\"share\":100},"
    ++ codes "{\"name\":\"conference\",\"share\":100},{\"name\":\"city\",\"count\":100}],\n"
    ++ codes "\"labels\":[\"authors\",\"publishedIn\",\"extendedTo\",\"heldIn\"],\n"
    ++ codes "\"constraints\":[\n"
    ++ codes "{\"source\":\"researcher\",\"label\":\"authors\",\"target\":\"paper\","
    ++ codes "\"out\":{\"kind\":\"zipf\",\"exponent\":2,\"max\":50},\"in\":{\"kind\":\"bell\",\"center\":3,\"width\":2}},\n"
    ++ codes "{\"source\":\"paper\",\"label\":\"publishedIn\",\"target\":\"conference\","
    ++ codes "\"out\":{\"kind\":\"uniform\",\"min\":1,\"max\":1},\"in\":{\"kind\":\"free\"}},\n"
    ++ codes "{\"source\":\"paper\",\"label\":\"extendedTo\",\"target\":\"journal\","
    ++ codes "\"out\":{\"kind\":\"uniform\",\"min\":0,\"max\":1},\"in\":{\"kind\":\"free\"}},\n"
    ++ codes "{\"source\":\"conference\",\"label\":\"heldIn\",\"target\":\"city\","
    ++ codes "\"out\":{\"kind\":\"uniform\",\"min\":1,\"max\":1},\"in\":{\"kind\":\"zipf\",\"exponent\":1}}],\n"
    ++ codes "\"workload\":{\"queries\":10,\"shapes\":[\"chain\",\"star\",\"cycle\",\"starchain\"],\"classes\":[\"constant\",\"linear\",\"quadratic\"],"
    ++ codes "\"star\":300,\"rules\":[1,2],\"conjuncts\":[1,3],\"disjuncts\":[1,2],\"length\":[1,4]}}\n"

-- its types of nodes
abbrev sample_types : List NodeType
sample_types =
    record { name = codes "researcher"; amount = Share 500 }
    ∷ record { name = codes "paper"; amount = Share 300 }
    ∷ record { name = codes "journal"; amount = Share 100 }
    ∷ record { name = codes "conference"; amount = Share 100 }
    ∷ record { name = codes "city"; amount = Count 100 }
    ∷ []

-- the labels of its edges
abbrev sample_labels : List (List ℕ)
sample_labels = codes "authors" ∷ codes "publishedIn" ∷ codes "extendedTo" ∷ codes "heldIn" ∷ []

-- authors of papers, papers in conferences, papers extended to journals, and conferences in cities
abbrev sample_constraints : List Constraint
sample_constraints =
    record { source = 0; label = 0; target = 1; out_spec = Zipf 2 (Some 50); in_spec = Bell 3 2 }
    ∷ record { source = 1; label = 1; target = 3; out_spec = Uniform 1 1; in_spec = Free }
    ∷ record { source = 1; label = 2; target = 2; out_spec = Uniform 0 1; in_spec = Free }
    ∷ record { source = 3; label = 3; target = 4; out_spec = Uniform 1 1; in_spec = Zipf 1 None }
    ∷ []

-- what is asked of its queries
abbrev sample_workload : Workload
sample_workload = record {
  queries = 10;
  shapes = Chain ∷ Star ∷ Cycle ∷ StarChain ∷ [];
  classes = Constant ∷ Linear ∷ Quadratic ∷ [];
  star = 300;
  rules = record { least = 1; most = 2 };
  conjuncts = record { least = 1; most = 3 };
  disjuncts = record { least = 1; most = 2 };
  length = record { least = 1; most = 4 };
  arity = record { least = 2; most = 2 };
  format = 1;
}

-- the sample with 1000 times k nodes asked for
abbrev pub sample_of : ℕ → ConfigValue
sample_of k = record {
  nodes = 1000 * k;
  types = sample_types;
  labels = sample_labels;
  constraints = sample_constraints;
  workload = sample_workload;
}

-- What a configuration is, and what is true of each.
--   ConfigValue         its number of nodes, its types, labels and constraints, and its workload
--   node_counts c       the numbers of nodes of its types
--   first_node c t      the number of the first node of a type: all nodes of the earlier types come before
--   ends k              the source type, the label and the target type of a constraint
--   IsConfig c          the rules that each configuration keeps
use Rattle.std.specs.Prelude.{◌≡◌, ◌≢◌, ℕ, ◌<◌, ◌≤◌, List, length, map, sum, take, All, AllPairs}
use Rattle.gm_text.specs.Name.{IsName}
use Rattle.gm_config.specs.Limits.{nodes_most, types_most, labels_most, constraints_most, thousand}
use Rattle.gm_config.specs.TypeRules.{share, node_count}
use Rattle.gm_config.specs.DegreeSpec.{IsDegreeSpec}
use Rattle.gm_config.specs.WorkloadRules.{IsWorkload}
use Rattle.gm_config.specs.declared.values.Amount.{Amount}
use Rattle.gm_config.specs.declared.values.Amount.TheVariants.{Share, Count}
use Rattle.gm_config.specs.declared.values.NodeType.{NodeType}
use Rattle.gm_config.specs.declared.values.Constraint.{Constraint}
use Rattle.gm_config.specs.declared.degree_specs.DegreeSpec.TheVariants.{Free}
use Rattle.gm_config.specs.declared.workload_rules.Workload.{Workload}

-- a configuration: the number of nodes asked for, the types, the names of the labels, the constraints and the workload
pub record ConfigValue : Type 0 where
  pub nodes : ℕ
  pub types : List NodeType
  pub labels : List (List ℕ)
  pub constraints : List Constraint
  pub workload : Workload

-- the configuration of its parts
abbrev pub config_value : ℕ → List NodeType → List (List ℕ) → List Constraint → Workload → ConfigValue
config_value nodes types labels constraints workload =
    record { nodes = nodes; types = types; labels = labels; constraints = constraints; workload = workload }

-- the numbers of nodes of its types
abbrev pub node_counts : ConfigValue → List ℕ
node_counts c = map (λ t. node_count c.nodes t.amount) c.types

-- the number of the first node of a type: all nodes of the earlier types come before
abbrev pub first_node : ConfigValue → ℕ → ℕ
first_node c t = sum (take t (node_counts c))

-- the shares of its types, 0 where a type has a count
abbrev pub shares : ConfigValue → List ℕ
shares c = map (λ t. share t.amount) c.types

-- an amount in its limit
abbrev pub IsAmount : Amount → Type 0
IsAmount (Share thousandths) = thousandths ≤ thousand
IsAmount (Count count) = count ≤ nodes_most

-- at least one and at most so many
pub record IsCount (most n : ℕ) : Type 0 where
  pub some : 1 ≤ n
  pub few : n ≤ most

-- no two elements of a list are equal
abbrev pub AllDiffer : {A : Type 0} → List A → Type 0
AllDiffer xs = AllPairs (λ x y. x ≢ y) xs

-- the source type, the label and the target type of a constraint, by their numbers
abbrev pub ends : Constraint → ℕ × (ℕ × ℕ)
ends k = (k.source, (k.label, k.target))

-- a constraint's numbers are those of types and of a label, its degree specifications keep their rule, and one of them is not free
pub record IsConstraint (types labels : ℕ) (k : Constraint) : Type 0 where
  pub source : k.source < types
  pub label : k.label < labels
  pub target : k.target < types
  pub out_spec : IsDegreeSpec k.out_spec
  pub in_spec : IsDegreeSpec k.in_spec
  pub bound : k.out_spec ≡ Free → k.in_spec ≢ Free

-- the rules that each configuration keeps
pub record IsConfig (c : ConfigValue) : Type 0 where
  pub nodes : IsCount nodes_most c.nodes
  pub types : IsCount types_most (length c.types)
  pub type_names : All (λ t. IsName t.name) c.types
  pub types_differ : AllDiffer (map (λ t. t.name) c.types)
  pub amounts : All (λ t. IsAmount t.amount) c.types
  pub shares : sum (shares c) ≤ thousand
  pub all_nodes : sum (node_counts c) ≤ nodes_most
  pub labels : IsCount labels_most (length c.labels)
  pub label_names : All IsName c.labels
  pub labels_differ : AllDiffer c.labels
  pub constraints : IsCount constraints_most (length c.constraints)
  pub each_constraint : All (IsConstraint (length c.types) (length c.labels)) c.constraints
  pub constraints_differ : AllDiffer (map ends c.constraints)
  pub workload : IsWorkload c.workload

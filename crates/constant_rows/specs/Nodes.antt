-- The nodes of the types of a configuration, and of its types with a count.
--   IsNodeOfType config t node    a node is one of type t
--   IsCountedNode config node     a node is one of a type with a count
--   count_of amount               the count of an amount
--   counted_total config          the number of the nodes of all types with a count
use Rattle.std.specs.Prelude.{◌≡◌, ℕ, ◌+◌, ◌<◌, ◌≤◌, length, map, sum, slice_index}
use Rattle.sel_algebra.specs.declared.vocabulary.Kind.TheVariants.{Fixed}
use Rattle.sel_algebra.specs.Table.{kind_at}
use Rattle.gm_config.specs.declared.values.Amount.{Amount}
use Rattle.gm_config.specs.declared.values.Amount.TheVariants.{Share, Count}
use Rattle.gm_config.specs.Config.{ConfigValue, node_counts, first_node}
use Rattle.schema_graph.specs.Configured.{kinds_of}

-- a node is one of type t
pub record IsNodeOfType (config : ConfigValue) (t node : ℕ) : Type 0 where
  pub known : t < length config.types
  pub first : first_node config t ≤ node
  pub last : node < first_node config t + slice_index (node_counts config) t

-- a node is one of a type with a count, whose kind is then `Fixed`
abbrev pub IsCountedNode : ConfigValue → ℕ → Type 0
IsCountedNode config node = (t : ℕ) × IsNodeOfType config t node × (kind_at (kinds_of config) t ≡ Fixed)

-- the count of an amount, and 0 of a share
abbrev pub count_of : Amount → ℕ
count_of (Share thousandths) = 0
count_of (Count count) = count

-- the number of the nodes of all types with a count
abbrev pub counted_total : ConfigValue → ℕ
counted_total config = sum (map (λ t. count_of t.amount) config.types)

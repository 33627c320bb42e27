-- The rules on the number of nodes and on the types of nodes: rules 1 to 9.
--   nodes_of d          the number of nodes that a configuration asks for
--   types d             its types
--   type_name t         the name of a type
--   amount_of t         how many nodes a type has: a share of those asked for, or a count
--   node_count nodes a  that number of nodes, where so many are asked for
use Rattle.std.specs.Prelude.{ℕ, ◌*◌, ◌/◌, codes, Bool, ◌||◌, nat_le, List, [], ◌∷◌, length, sum_by, Option, is_some, option_map, unwrap_or}
use Rattle.std.specs.Option.{option_or}
use Rattle.std.specs.Str.{bytes_eq}
use Rattle.serde_json.specs.Data.{Data}
use Rattle.gm_text.specs.Name.{is_name}
use Rattle.gm_config.specs.declared.values.Amount.{Amount}
use Rattle.gm_config.specs.declared.values.Amount.TheVariants.{Share, Count}
use Rattle.gm_config.specs.Json.{elements_at, text_at, number_at, has_exactly}
use Rattle.gm_config.specs.Limits.{nodes_most, types_most, thousand}
use Rattle.gm_config.specs.Rule.{Rule, on_value, has_within, holds_at, differs_at}

-- the number of nodes that a configuration asks for, where it is in its limits
abbrev pub nodes_of : Data → Option ℕ
nodes_of d = number_at (codes "nodes") 1 nodes_most d

-- the types of a configuration
abbrev pub types : Data → List Data
types d = elements_at (codes "types") d

-- the name of a type
abbrev pub type_name : Data → List ℕ
type_name t = text_at (codes "name") t

-- two types have one name
abbrev pub same_type_name : Data → Data → Bool
same_type_name s t = bytes_eq (type_name s) (type_name t)

-- a type's share of the nodes asked for, in thousandths, or its count of nodes, where it is in its limits
abbrev pub amount_of : Data → Option Amount
amount_of t = option_or (option_map Share (number_at (codes "share") 0 thousand t)) (option_map Count (number_at (codes "count") 0 nodes_most t))

-- the share that is asked for
abbrev pub share : Amount → ℕ
share (Share thousandths) = thousandths
share (Count count) = 0

-- the number of nodes of a type, where so many are asked for
abbrev pub node_count : ℕ → Amount → ℕ
node_count nodes (Share thousandths) = nodes * thousandths / thousand
node_count nodes (Count count) = count

-- the amount of a type, no nodes where it has none in its limits
abbrev pub type_amount : Data → Amount
type_amount t = unwrap_or (amount_of t) (Count 0)

-- the share of a type
abbrev pub type_share : Data → ℕ
type_share t = share (type_amount t)

-- the number of nodes of a type
abbrev pub type_nodes : ℕ → Data → ℕ
type_nodes nodes t = node_count nodes (type_amount t)

-- it is an object with exactly these members
abbrev pub rule_1 : Data → Bool
rule_1 d = has_exactly (codes "nodes" ∷ codes "types" ∷ codes "labels" ∷ codes "constraints" ∷ codes "workload" ∷ []) d

-- the number of nodes is a whole number in its limits
abbrev pub rule_2 : Data → Bool
rule_2 d = is_some (nodes_of d)

-- the types are an array of at least one and at most so many
abbrev pub rule_3 : Data → Bool
rule_3 d = has_within types_most (types d)

-- a type is an object with exactly a name and a share, or a name and a count
abbrev pub is_type : Data → Bool
is_type t = has_exactly (codes "name" ∷ codes "share" ∷ []) t || has_exactly (codes "name" ∷ codes "count" ∷ []) t

abbrev pub rule_4 : Data → ℕ → Bool
rule_4 d i = holds_at is_type (types d) i

-- a type's name is a name
abbrev pub is_named_type : Data → Bool
is_named_type t = is_name (type_name t)

abbrev pub rule_5 : Data → ℕ → Bool
rule_5 d i = holds_at is_named_type (types d) i

-- a type's name differs from those of all earlier types
abbrev pub rule_6 : Data → ℕ → Bool
rule_6 d i = differs_at same_type_name (types d) i

-- a type's share or count is a whole number in its limits
abbrev pub has_amount : Data → Bool
has_amount t = is_some (amount_of t)

abbrev pub rule_7 : Data → ℕ → Bool
rule_7 d i = holds_at has_amount (types d) i

-- all shares together are at most the whole
abbrev pub rule_8 : Data → Bool
rule_8 d = nat_le (sum_by type_share (types d)) thousand

-- all types together have at most so many nodes
abbrev pub rule_9 : Data → Bool
rule_9 d = nat_le (sum_by (type_nodes (unwrap_or (nodes_of d) 0)) (types d)) nodes_most

-- a rule that is tried on each type
abbrev pub each_type : ℕ → (Data → ℕ → Bool) → Rule
each_type number holds = record { number = number; tries = λ d. length (types d); holds = holds }

abbrev pub type_rules : List Rule
type_rules =
    on_value 1 rule_1
    ∷ on_value 2 rule_2
    ∷ on_value 3 rule_3
    ∷ each_type 4 rule_4
    ∷ each_type 5 rule_5
    ∷ each_type 6 rule_6
    ∷ each_type 7 rule_7
    ∷ on_value 8 rule_8
    ∷ on_value 9 rule_9
    ∷ []

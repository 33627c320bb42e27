-- The drawn query of a number.
--   reach_of c                          what can be reached in the schema of a configuration
--   drawn_shape, drawn_class            the shape and the class of the query
--   rule_count                          the number of its rules
--   rule_size                           the number of conjuncts of a rule
--   drawn_arity                         the number of heads of each rule
--   variables_first m v                 the variables of a rule of v, whose spine is of m conjuncts: the ends of the spine first
--   drawn_rule, drawn_rules             a rule, and all rules
--   has_query                           some number of conjuncts in range has a start that can meet the shape and the class
--   drawn_query c seed number           the query, and none where there is no such number
use Rattle.std.specs.Prelude.{ℕ, ◌+◌, ◌-◌, nat_lt, Bool, if◌then◌else◌, Option, Some, None, List, ◌∷◌, ◌++◌, map, min, take}
use Rattle.std.specs.List.{range_with_len, list_any, fold}
use Rattle.sel_algebra.specs.declared.vocabulary.Class.{Class}
use Rattle.sel_algebra.specs.declared.vocabulary.Class.TheVariants.{Constant}
use Rattle.sel_algebra.specs.declared.vocabulary.Shape.{Shape}
use Rattle.sel_algebra.specs.declared.vocabulary.Shape.TheVariants.{Chain}
use Rattle.gm_config.specs.Config.{ConfigValue}
use Rattle.schema_graph.specs.Configured.{schema_of}
use Rattle.skeletons.specs.Skeleton.{spine_of, variables_of}
use Rattle.sel_graph.specs.Moves.{ReachValue}
use Rattle.sel_graph.specs.Tests.{numbers_of}
use Rattle.walk_pick.specs.Candidates.{is_live_count}
use Rattle.query_terms.specs.Values.{RuleValue, QueryValue, has_class}
use Rattle.query_draw.specs.Drawn.{words_for, picked_or, drawn_from, drawn_count, rule_conjuncts}
use Rattle.query_draw.specs.Wide.{query_wide}

-- what can be reached in the schema of a configuration, by words of its lengths, starred where it asks for some
abbrev pub reach_of : ConfigValue → ReachValue
reach_of c = record { schema = schema_of c; lengths = c.workload.length; stars = nat_lt 0 c.workload.star }

-- ---- what is drawn for the whole query, with the words of rule 0

-- its shape, one of the configured list
abbrev pub drawn_shape : ConfigValue → ℕ → ℕ → Shape
drawn_shape c seed number = picked_or Chain (words_for seed number 0 0) c.workload.shapes

-- its class, one of the configured list
abbrev pub drawn_class : ConfigValue → ℕ → ℕ → Class
drawn_class c seed number = picked_or Constant (words_for seed number 0 1) c.workload.classes

-- the number of its rules
abbrev pub rule_count : ConfigValue → ℕ → ℕ → ℕ
rule_count c seed number = drawn_from c.workload.rules (words_for seed number 0 2)

-- the number of heads that is wanted
abbrev pub wanted_arity : ConfigValue → ℕ → ℕ → ℕ
wanted_arity c seed number = drawn_from c.workload.arity (words_for seed number 0 5)

-- ---- its rules

-- the number of conjuncts of a rule
abbrev pub rule_size : ConfigValue → ℕ → ℕ → ℕ → ℕ
rule_size c seed number rule =
    drawn_count (reach_of c) c.workload (drawn_shape c seed number) (drawn_class c seed number) (words_for seed number rule)

-- the least among a number and the variables of a rule
abbrev pub at_most_variables : ConfigValue → ℕ → ℕ → ℕ → ℕ → ℕ
at_most_variables c seed number n rule = min n (variables_of (drawn_shape c seed number) (rule_size c seed number rule))

-- the number of heads: the wanted one, but no more than any rule has variables
abbrev pub drawn_arity : ConfigValue → ℕ → ℕ → ℕ
drawn_arity c seed number =
    fold (at_most_variables c seed number) (wanted_arity c seed number) (range_with_len 0 (rule_count c seed number))

-- the v variables of a rule whose spine is of m conjuncts: the ends of the spine, and then the others in their order
abbrev pub variables_first : ℕ → ℕ → List ℕ
variables_first m v = 0 ∷ m ∷ range_with_len 1 (m - 1) ++ range_with_len (m + 1) (v - (m + 1))

-- so many heads of a rule of k conjuncts
abbrev pub heads_of : Shape → ℕ → ℕ → List ℕ
heads_of shape k n = take n (variables_first (spine_of shape k) (variables_of shape k))

-- a rule
abbrev pub drawn_rule : ConfigValue → ℕ → ℕ → ℕ → RuleValue
drawn_rule c seed number rule = record {
  heads = heads_of (drawn_shape c seed number) (rule_size c seed number rule) (drawn_arity c seed number);
  conjuncts =
      rule_conjuncts (reach_of c) c.workload (drawn_shape c seed number) (drawn_class c seed number)
      (words_for seed number rule) (rule_size c seed number rule);
}

-- all its rules
abbrev pub drawn_rules : ConfigValue → ℕ → ℕ → List RuleValue
drawn_rules c seed number = map (drawn_rule c seed number) (range_with_len 0 (rule_count c seed number))

-- ---- the query

-- some number of conjuncts in range has a start from which its shape and class can be met
abbrev pub has_query : ConfigValue → ℕ → ℕ → Bool
has_query c seed number =
    list_any (is_live_count (reach_of c) (drawn_shape c seed number) (drawn_class c seed number)) (numbers_of c.workload.conjuncts)

-- the query of these parts: the drawn class where it has two heads, with its wide class
abbrev pub query_of : ConfigValue → ℕ → ℕ → QueryValue
query_of c seed number = record {
  labels = map (λ e. e.label) (schema_of c).edges;
  shape = drawn_shape c seed number;
  class = if has_class (drawn_rules c seed number) then Some (drawn_class c seed number) else None;
  wide = query_wide (schema_of c) (drawn_shape c seed number) (drawn_rules c seed number);
  rules = drawn_rules c seed number;
}

-- the query of a number, and none where no number of conjuncts can meet its shape and class
abbrev pub drawn_query : ConfigValue → ℕ → ℕ → Option QueryValue
drawn_query c seed number = if has_query c seed number then Some (query_of c seed number) else None

-- What is drawn of a plan.
--   sizes_of plan     the number of conjuncts of each rule
--   rules_of plan     the rules
use Rattle.std.specs.Prelude.{ℕ, List, map}
use Rattle.std.specs.List.{range_with_len}
use Rattle.query_terms.specs.Values.{RuleValue}
use Rattle.query_draw.specs.declared.plan.Plan.{Plan}
use Rattle.query_draw.specs.Query.{rule_size, rule_count, drawn_rules}

-- the number of conjuncts of each rule
abbrev pub sizes_of : Plan → List ℕ
sizes_of p = map (rule_size p.config.now p.seed p.query) (range_with_len 0 (rule_count p.config.now p.seed p.query))

-- the rules
abbrev pub rules_of : Plan → List RuleValue
rules_of p = drawn_rules p.config.now p.seed p.query

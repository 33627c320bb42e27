-- All rules of a configuration, in the order in which they are tried.
use Rattle.std.specs.Prelude.{List, ◌++◌}
use Rattle.gm_config.specs.Rule.{Rule}
use Rattle.gm_config.specs.TypeRules.{type_rules}
use Rattle.gm_config.specs.LabelRules.{label_rules}
use Rattle.gm_config.specs.ConstraintRules.{constraint_rules}
use Rattle.gm_config.specs.WorkloadRules.{workload_rules}

-- rules 1 to 24
abbrev pub rules : List Rule
rules = type_rules ++ (label_rules ++ (constraint_rules ++ workload_rules))

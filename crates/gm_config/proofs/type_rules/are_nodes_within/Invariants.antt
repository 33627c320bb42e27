use Rattle.std.proofs.Common.{◌≡◌, ◌+◌, take}
use Rattle.std.specs.List.{sum_by}
use Rattle.serde_json.specs.View.{view}
use Rattle.gm_config.specs.TypeRules.{type_nodes}
use Rattle.gm_config.proofs.type_rules.are_nodes_within.Given as goal

abbrev pub invariant-loop-value : goal.invariant-loop-value
invariant-loop-value l = l.left + sum_by (λ t. type_nodes l.nodes (view t)) (take l.value-index l.types) ≡ 1000000

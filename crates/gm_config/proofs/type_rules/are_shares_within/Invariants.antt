use Rattle.std.proofs.Common.{◌≡◌, ◌+◌, take}
use Rattle.std.specs.List.{sum_by}
use Rattle.serde_json.specs.View.{view}
use Rattle.gm_config.specs.TypeRules.{type_share}
use Rattle.gm_config.proofs.type_rules.are_shares_within.Given as goal

abbrev pub invariant-loop-value : goal.invariant-loop-value
invariant-loop-value l = l.left + sum_by (λ t. type_share (view t)) (take l.value-index l.types) ≡ 1000

use Rattle.std.proofs.Common.{◌≡◌, take}
use Rattle.std.specs.List.{sum_by}
use Rattle.gm_config.specs.TypeRules.{node_count}
use Rattle.gm_config.proofs.config.all_nodes.Given as goal

abbrev pub invariant-loop-node_type : goal.invariant-loop-node_type
invariant-loop-node_type l = l.total ≡ sum_by (λ t. node_count l.nodes t.amount) (take l.node_type-index l.types)

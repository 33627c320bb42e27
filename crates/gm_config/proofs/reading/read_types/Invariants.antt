use Rattle.std.proofs.Common.{◌≡◌, map, take}
use Rattle.serde_json.specs.View.{view}
use Rattle.gm_config.specs.Reading.{type_of}
use Rattle.gm_config.proofs.reading.read_types.Given as goal

abbrev pub invariant-loop-node_type : goal.invariant-loop-node_type
invariant-loop-node_type l = l.read.items ≡ map (λ t. type_of (view t)) (take l.node_type-index l.types)

use Rattle.std.proofs.Common.{◌≡◌, map, take}
use Rattle.serde_json.specs.View.{view}
use Rattle.gm_config.specs.Json.{text}
use Rattle.gm_config.proofs.reading.read_labels.Given as goal

abbrev pub invariant-loop-label : goal.invariant-loop-label
invariant-loop-label l = l.read.items ≡ map (λ v. text (view v)) (take l.label-index l.labels)

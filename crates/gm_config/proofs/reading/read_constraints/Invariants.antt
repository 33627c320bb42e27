use Rattle.std.proofs.Common.{◌≡◌, map, take}
use Rattle.serde_json.specs.View.{view}
use Rattle.gm_config.specs.Reading.{constraint_of}
use Rattle.gm_config.proofs.reading.read_constraints.Given as goal

abbrev pub invariant-loop-constraint : goal.invariant-loop-constraint
invariant-loop-constraint l = l.read.items ≡ map (λ c. constraint_of (view l.value) (view c)) (take l.constraint-index l.constraints)

use Rattle.std.proofs.Common.{map, ap, ◌∙◌}
use Rattle.std.proofs.lemmas.List.{take_all}
use Rattle.serde_json.specs.View.{view}
use Rattle.gm_config.specs.Reading.{constraint_of}
use Rattle.gm_config.proofs.reading.read_constraints.Goals as goal

pub returns : goal.returns
returns c =
    c.loop-constraint.invariant
    ∙ ap (map (λ constraint. constraint_of (view c.args.value.now) (view constraint))) (take_all c.loop-constraint.constraint-index c.args.constraints.now c.loop-constraint-test.false)

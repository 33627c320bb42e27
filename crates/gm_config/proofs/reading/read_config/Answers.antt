use Rattle.serde_json.specs.View.{view}
use Rattle.gm_config.proofs.reading.read_config.Goals as goal

pub returns-clause-no_reading : goal.returns-clause-no_reading
returns-clause-no_reading c = λ none _. absurd (none (view c.in-Ok.value) record { utf8 = c.in-Ok.ensures.ok.0; value = c.in-Ok.ensures.ok.1 })

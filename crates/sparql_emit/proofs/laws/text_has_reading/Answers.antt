use Rattle.sparql_emit.proofs.laws.text_has_reading.Goals as goal
use Rattle.sparql_emit.proofs.ReadingLemmas.{text_has_reading}

pub returns : goal.returns
returns c = text_has_reading

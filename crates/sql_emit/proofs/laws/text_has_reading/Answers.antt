use Rattle.sql_emit.proofs.ReadingLemmas.{text_has_reading}
use Rattle.sql_emit.proofs.laws.text_has_reading.Goals as goal

pub returns : goal.returns
returns c = text_has_reading

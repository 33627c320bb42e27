use Rattle.graph_text.proofs.EdgesTextLemmas.{IsReading-unique}
use Rattle.graph_text.proofs.laws.reading_is_unique.Goals as goal

pub returns : goal.returns
returns c = IsReading-unique

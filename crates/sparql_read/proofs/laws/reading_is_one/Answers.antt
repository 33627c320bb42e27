use Rattle.sparql_read.proofs.TextComplete as text
use Rattle.sparql_read.proofs.laws.reading_is_one.Goals as goal

pub returns : goal.returns
returns c = text.reading_is_one

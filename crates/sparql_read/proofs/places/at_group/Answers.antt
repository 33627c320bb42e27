use Rattle.sparql_read.proofs.SpotLemmas.{group_subject}
use Rattle.sparql_read.proofs.places.at_group.Goals as goal

pub returns-in-LeftBrace : goal.returns-in-LeftBrace
returns-in-LeftBrace c = rw c.in-LeftBrace.is group_subject

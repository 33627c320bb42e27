use Rattle.sparql_read.proofs.SpotLemmas.{brace_body}
use Rattle.sparql_read.proofs.places.at_brace.Goals as goal

pub returns-in-LeftBrace : goal.returns-in-LeftBrace
returns-in-LeftBrace c = rw c.in-LeftBrace.is brace_body

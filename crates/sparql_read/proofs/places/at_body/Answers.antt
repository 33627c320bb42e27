use Rattle.std.proofs.Common.{refl}
use Rattle.sparql_read.proofs.SpotLemmas.{body_path, body_subject}
use Rattle.sparql_read.proofs.places.at_body.Goals as goal

pub returns-in-Variable-clause-is : goal.returns-in-Variable-clause-is
returns-in-Variable-clause-is c = rw c.in-Variable.is (λ s x. body_path _ s _ c.in-Variable.name record { heads = refl; groups = refl; patterns = refl; paths = refl; levels = refl; first = refl; all_occur = refl } refl x)

pub returns-in-LeftBrace-clause-is : goal.returns-in-LeftBrace-clause-is
returns-in-LeftBrace-clause-is c = rw c.in-LeftBrace.is (λ s x. body_subject _ s _ record { heads = refl; groups = refl; patterns = refl; paths = refl; levels = refl; first = refl; all_occur = refl } refl x)

use Rattle.sparql_read.proofs.SpotLemmas.{subject_path}
use Rattle.sparql_read.proofs.places.at_subject.Goals as goal

pub returns-in-Variable : goal.returns-in-Variable
returns-in-Variable c = rw c.in-Variable.is (λ l s x. subject_path l s c.in-Variable.name x)

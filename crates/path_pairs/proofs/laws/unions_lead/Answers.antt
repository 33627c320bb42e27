use Rattle.path_pairs.proofs.WordLemmas.{unions_lead}
use Rattle.path_pairs.proofs.laws.unions_lead.Goals as goal

pub returns : goal.returns
returns c = unions_lead

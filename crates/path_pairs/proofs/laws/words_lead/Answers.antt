use Rattle.path_pairs.proofs.WordLemmas.{words_lead}
use Rattle.path_pairs.proofs.laws.words_lead.Goals as goal

pub returns : goal.returns
returns c = words_lead

use Rattle.path_pairs.proofs.StarLemmas.{stars_agree}
use Rattle.path_pairs.proofs.laws.stars_agree.Goals as goal

pub returns : goal.returns
returns c = stars_agree

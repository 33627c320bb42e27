use Rattle.path_pairs.proofs.StarLemmas.{stable_rounds_agree}
use Rattle.path_pairs.proofs.laws.stable_rounds_agree.Goals as goal

pub returns : goal.returns
returns c = stable_rounds_agree

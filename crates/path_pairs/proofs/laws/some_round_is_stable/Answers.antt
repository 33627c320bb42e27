use Rattle.path_pairs.proofs.StarLemmas.{some_round_is_stable}
use Rattle.path_pairs.proofs.laws.some_round_is_stable.Goals as goal

pub returns : goal.returns
returns c = some_round_is_stable

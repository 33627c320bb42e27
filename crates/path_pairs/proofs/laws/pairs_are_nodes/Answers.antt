use Rattle.path_pairs.proofs.StarLemmas.{pairs_are_nodes}
use Rattle.path_pairs.proofs.laws.pairs_are_nodes.Goals as goal

pub returns : goal.returns
returns c = pairs_are_nodes

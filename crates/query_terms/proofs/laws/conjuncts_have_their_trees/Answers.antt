use Rattle.query_terms.proofs.TreeLemmas.{conjuncts_are_trees}
use Rattle.query_terms.proofs.laws.conjuncts_have_their_trees.Goals as goal

pub returns : goal.returns
returns c = conjuncts_are_trees

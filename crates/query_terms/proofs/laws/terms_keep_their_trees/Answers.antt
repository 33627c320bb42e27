use Rattle.query_terms.proofs.TreeLemmas.{terms_keep}
use Rattle.query_terms.proofs.laws.terms_keep_their_trees.Goals as goal

pub returns : goal.returns
returns c = terms_keep

use Rattle.query_terms.proofs.TreeLemmas.{put_is_tree}
use Rattle.query_terms.proofs.laws.what_was_put_has_its_tree.Goals as goal

pub returns : goal.returns
returns c = put_is_tree

use Rattle.path_pairs.proofs.TreeLemmas.{union_grows}
use Rattle.path_pairs.proofs.laws.a_union_grows_by_a_choice.Goals as goal

pub returns : goal.returns
returns c = union_grows

use Rattle.path_pairs.proofs.TreeLemmas.{word_grows}
use Rattle.path_pairs.proofs.laws.a_word_grows_by_a_sequence.Goals as goal

pub returns : goal.returns
returns c = word_grows

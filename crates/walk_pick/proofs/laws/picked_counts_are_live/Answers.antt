use Rattle.walk_pick.proofs.LawLemmas.{picked_counts_are_live}
use Rattle.walk_pick.proofs.laws.picked_counts_are_live.Goals as goal

pub returns : goal.returns
returns c = picked_counts_are_live

use Rattle.gm_top.proofs.LawLemmas.{files_are_one}
use Rattle.gm_top.proofs.laws.files_are_one.Goals as goal

pub returns : goal.returns
returns c = files_are_one

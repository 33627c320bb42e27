use Rattle.gm_top.proofs.LawLemmas.{IsDecision-one}
use Rattle.gm_top.proofs.laws.decisions_are_one.Goals as goal

pub returns : goal.returns
returns c = IsDecision-one

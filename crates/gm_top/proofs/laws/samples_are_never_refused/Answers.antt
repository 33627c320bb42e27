use Rattle.gm_top.proofs.LawLemmas.{samples_are_never_refused}
use Rattle.gm_top.proofs.laws.samples_are_never_refused.Goals as goal

pub returns : goal.returns
returns c = samples_are_never_refused

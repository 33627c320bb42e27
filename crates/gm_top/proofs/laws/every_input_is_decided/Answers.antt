use Rattle.gm_top.proofs.LawLemmas.{every_input_is_decided}
use Rattle.gm_top.proofs.laws.every_input_is_decided.Goals as goal

pub returns : goal.returns
returns c = every_input_is_decided

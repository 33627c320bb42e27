use Rattle.gm_top.proofs.LawLemmas.{accepted_asks_for_its_files}
use Rattle.gm_top.proofs.laws.accepted_inputs_ask_for_files.Goals as goal

pub returns : goal.returns
returns c = accepted_asks_for_its_files

use Rattle.summary_text.proofs.CountLemmas.{classes-add_up}
use Rattle.summary_text.proofs.laws.classes_add_up.Goals as goal

pub returns : goal.returns
returns c = classes-add_up

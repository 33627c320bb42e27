use Rattle.summary_text.proofs.CountLemmas.{constraints-smaller_total}
use Rattle.summary_text.proofs.laws.constraints_have_smaller_total.Goals as goal

pub returns : goal.returns
returns c = constraints-smaller_total

use Rattle.workload_text.proofs.QueryPassLemmas.{read-back}
use Rattle.workload_text.proofs.laws.values_are_read_back.Goals as goal

pub returns : goal.returns
returns c = read-back

use Rattle.workload_text.proofs.QueryPassLemmas.{one-reading}
use Rattle.workload_text.proofs.laws.one_reading.Goals as goal

pub returns : goal.returns
returns c = one-reading

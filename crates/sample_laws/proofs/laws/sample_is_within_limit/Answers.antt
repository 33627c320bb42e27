use Rattle.sample_laws.proofs.TotalLemmas.{sample-within_limit}
use Rattle.sample_laws.proofs.laws.sample_is_within_limit.Goals as goal

pub returns : goal.returns
returns c = sample-within_limit

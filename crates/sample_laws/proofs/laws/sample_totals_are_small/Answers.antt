use Rattle.sample_laws.proofs.TotalLemmas.{side_total-small}
use Rattle.sample_laws.proofs.laws.sample_totals_are_small.Goals as goal

pub returns : goal.returns
returns c = side_total-small

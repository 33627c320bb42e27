use Rattle.sample_laws.proofs.LiveLemmas.{sample_has_query}
use Rattle.sample_laws.proofs.laws.sample_queries_can_be_drawn.Goals as goal

pub returns : goal.returns
returns c = sample_has_query

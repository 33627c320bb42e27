use Rattle.sparql_mean.proofs.JoinLemmas.{solutions-are_mappings}
use Rattle.sparql_mean.proofs.laws.solutions_are_mappings.Goals as goal

pub returns : goal.returns
returns c = solutions-are_mappings

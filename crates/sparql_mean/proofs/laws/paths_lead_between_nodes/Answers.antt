use Rattle.sparql_mean.proofs.PathLemmas.{path_nodes}
use Rattle.sparql_mean.proofs.laws.paths_lead_between_nodes.Goals as goal

pub returns : goal.returns
returns c = path_nodes

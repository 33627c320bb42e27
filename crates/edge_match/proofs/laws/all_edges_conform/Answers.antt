use Rattle.edge_match.proofs.AllEdgesLemmas.{IsConforming-AreAllEdges}
use Rattle.edge_match.proofs.laws.all_edges_conform.Goals as goal

pub returns : goal.returns
returns c = IsConforming-AreAllEdges

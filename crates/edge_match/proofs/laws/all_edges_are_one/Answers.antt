use Rattle.edge_match.proofs.AllEdgesLemmas.{AreAllEdges-one}
use Rattle.edge_match.proofs.laws.all_edges_are_one.Goals as goal

pub returns : goal.returns
returns c = AreAllEdges-one

use Rattle.std.proofs.Common.{◌∙◌}
use Rattle.edge_match.proofs.RangeLemmas.{Conforms-AreEdgesOf}
use Rattle.edge_match.proofs.edge_stream.match_edges.Goals as goal

pub returns-clause-conforms : goal.returns-clause-conforms
returns-clause-conforms c = rw (c.of.ensures ∙ c.in_ok-collected.ensures) (Conforms-AreEdgesOf c.args.config.now c.args.seed c.args.c _ c.in_ok-stream.ensures.edges)

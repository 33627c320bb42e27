use Rattle.std.proofs.Common.{length, drop, ap, arith}
use Rattle.std.proofs.lemmas.List.{length-drop}
use Rattle.edge_match.proofs.MatchingLemmas.{length-edges_between}
use Rattle.edge_match.proofs.edge_stream.EdgeStream.len.Goals as goal

pub returns : goal.returns
returns c =
    let stream = c.self.inside in
    let sources = length-drop stream.next stream.sources.items in
    let targets = length-drop stream.next stream.targets.items in
    let both = length-edges_between stream.label (drop stream.next stream.sources.items) (drop stream.next stream.targets.items) in
    omega (arith, both, sources, targets, ap length c.self.view_is, c.saturating_sub.ensures, c.min-ends.ensures)

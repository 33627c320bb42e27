use Rattle.std.proofs.Common.{◌≡◌, ◌++◌, length, map, All}
use Rattle.gm_text.specs.Lines.{lines_of}
use Rattle.graph_text.specs.EdgesText.{IsInRange}
use Rattle.graph_text.proofs.EdgesTextLemmas.{text_line}
use Rattle.graph_text.proofs.edge_text.read_edges.Given as goal

-- the lines so far are those of the triples, which are in range
abbrev pub invariant-loop-line : goal.invariant-loop-line
invariant-loop-line l = record {
  within : All IsInRange l.triples.items;
  lines : lines_of l.bytes ≡ map text_line l.triples.items ++ lines_of l.scan;
}

abbrev pub decreases-loop-line : goal.decreases-loop-line
decreases-loop-line l = length (lines_of l.scan)

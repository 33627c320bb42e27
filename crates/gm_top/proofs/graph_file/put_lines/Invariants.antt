use Rattle.std.proofs.Common.{◌≡◌, length, List, ◌++◌, All, true}
use Rattle.graph_text.specs.declared.graphs.Triple.{Triple}
use Rattle.graph_text.specs.EdgesText.{IsInRange, edges_text}
use Rattle.gm_top.specs.Putting.{Puts, CallsToPut}
use Rattle.gm_top.proofs.graph_file.put_lines.Given as goal

-- the lines of the edges so far were put, and no call failed
abbrev pub invariant-loop-edge : goal.invariant-loop-edge
invariant-loop-edge g l = record {
  put : (done : List Triple) × (l.fn.edges ≡ done ++ l.edges)
      × Puts (g.F.Folder.files l.fn.folder) (g.F.Folder.files l.folder) l.fn.pieces l.pieces (edges_text done)
      × CallsToPut (g.F.Folder.calls l.fn.folder) (g.F.Folder.calls l.folder) l.fn.pieces l.pieces (edges_text done);
  in_range : All IsInRange l.edges;
  unfinished : g.F.Folder.unfinished l.folder ≡ true;
  no_fault : g.F.Folder.faults l.folder ≡ g.F.Folder.faults l.fn.folder;
}

abbrev pub decreases-loop-edge : goal.decreases-loop-edge
decreases-loop-edge g l = length l.edges

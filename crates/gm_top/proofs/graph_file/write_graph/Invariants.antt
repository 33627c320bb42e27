use Rattle.std.proofs.Common.{◌≡◌, ℕ, List, [], ◌++◌, true}
use Rattle.gm_io.specs.Count.{raised}
use Rattle.gm_io.specs.FileList.{Gained}
use Rattle.summary_text.specs.Counts.{drawn_summary}
use Rattle.gm_top.specs.Putting.{AreLinesBefore, CallsToPut}
use Rattle.gm_top.proofs.GraphLemmas.{graph_file}
use Rattle.gm_top.proofs.graph_file.write_graph.Given as goal

-- the file, and then what is kept, are the lines of the constraints so far, which were counted, and no call failed
abbrev pub invariant-loop-c : goal.invariant-loop-c
invariant-loop-c g l = record {
  lines : (done : List ℕ) × AreLinesBefore l.config l.seed l.c (done ++ l.pieces)
      × Gained (g.F.Folder.files l.fn.folder) (g.F.Folder.files l.folder) (graph_file l.config l.seed done)
      × CallsToPut (raised (g.F.Folder.calls l.fn.folder) 1) (g.F.Folder.calls l.folder) [] l.pieces (done ++ l.pieces);
  counted : l.counted ≡ drawn_summary l.config l.seed l.c [];
  unfinished : g.F.Folder.unfinished l.folder ≡ true;
  no_fault : g.F.Folder.faults l.folder ≡ g.F.Folder.faults l.fn.folder;
}

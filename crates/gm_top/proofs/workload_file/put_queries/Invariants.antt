use Rattle.std.proofs.Common.{◌≡◌, true}
use Rattle.gm_top.specs.Putting.{PutsText}
use Rattle.gm_top.specs.Workload.{queries_text}
use Rattle.gm_top.proofs.WorkloadLemmas.{first_queries}
use Rattle.gm_top.proofs.workload_file.put_queries.Given as goal

-- the lines of the queries so far were put, these are kept, and no call failed
abbrev pub invariant-loop-number : goal.invariant-loop-number
invariant-loop-number g l = record {
  put :
      PutsText (g.F.Folder.files l.fn.folder) (g.F.Folder.files l.folder) (g.F.Folder.calls l.fn.folder) (g.F.Folder.calls l.folder) l.fn.pieces l.pieces
      (queries_text l.generation.config l.generation.seed l.number);
  kept : l.outlines ≡ first_queries l.generation.config l.generation.seed l.number;
  unfinished : g.F.Folder.unfinished l.folder ≡ true;
  no_fault : g.F.Folder.faults l.folder ≡ g.F.Folder.faults l.fn.folder;
}

use Rattle.std.proofs.Common.{◌≡◌, false, take}
use Rattle.workload_text.specs.Head.{head_of}
use Rattle.gm_top.specs.Workload.{queries_of}
use Rattle.gm_top.specs.Outputs.{query_outputs, MakesFiles, TakesCalls}
use Rattle.gm_top.proofs.query_files.write_queries.Given as goal

-- the files of the queries so far were made, and no call failed
abbrev pub invariant-loop-number : goal.invariant-loop-number
invariant-loop-number g l = record {
  files :
      MakesFiles (query_outputs (head_of l.generation.config).labels 0 (take l.number (queries_of l.generation.config l.generation.seed)))
      (g.F.Folder.files l.fn.folder) (g.F.Folder.files l.folder);
  calls :
      TakesCalls (query_outputs (head_of l.generation.config).labels 0 (take l.number (queries_of l.generation.config l.generation.seed)))
      (g.F.Folder.calls l.fn.folder) (g.F.Folder.calls l.folder);
  finished : g.F.Folder.unfinished l.folder ≡ false;
  no_fault : g.F.Folder.faults l.folder ≡ g.F.Folder.faults l.fn.folder;
}

use Rattle.std.proofs.Common.{◌≡◌, false, take}
use Rattle.gm_top.specs.Outputs.{query_outputs, MakesFiles, TakesCalls}
use Rattle.gm_top.proofs.translating.written.Given as goal

-- the files of the queries so far were made, and no call failed
abbrev pub invariant-loop-number : goal.invariant-loop-number
invariant-loop-number g l = record {
  files : MakesFiles (query_outputs l.work.head.labels 0 (take l.number l.work.queries)) (g.F.Folder.files l.fn.folder) (g.F.Folder.files l.folder);
  calls : TakesCalls (query_outputs l.work.head.labels 0 (take l.number l.work.queries)) (g.F.Folder.calls l.fn.folder) (g.F.Folder.calls l.folder);
  finished : g.F.Folder.unfinished l.folder ≡ false;
  no_fault : g.F.Folder.faults l.folder ≡ g.F.Folder.faults l.fn.folder;
}

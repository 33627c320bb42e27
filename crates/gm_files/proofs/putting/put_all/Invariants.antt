use Rattle.std.proofs.Common.{◌≡◌, false, take}
use Rattle.gm_io.specs.Count.{raised}
use Rattle.gm_io.specs.FileList.{Gained}
use Rattle.gm_files.specs.Calls.{all_calls}
use Rattle.gm_files.specs.FileText.{files_of}
use Rattle.gm_files.proofs.putting.put_all.Given as goal

-- The files before the index are made, and no call failed.
abbrev pub invariant-loop-file : goal.invariant-loop-file
invariant-loop-file g l = record {
  gained : Gained (g.F.Folder.files l.fn.folder) (g.F.Folder.files l.folder) (files_of (take l.file-index l.list));
  unfinished : g.F.Folder.unfinished l.folder ≡ false;
  calls : g.F.Folder.calls l.folder ≡ raised (g.F.Folder.calls l.fn.folder) (all_calls (files_of (take l.file-index l.list)));
  no_fault : g.F.Folder.faults l.folder ≡ g.F.Folder.faults l.fn.folder;
}

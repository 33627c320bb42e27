use Rattle.std.proofs.Common.{◌≡◌, ◌++◌, List, ℕ, length, true}
use Rattle.gm_top.specs.Putting.{PutsText}
use Rattle.gm_top.proofs.putting.put_text.Given as goal

-- the text so far was put, and no call failed
abbrev pub invariant-loop-rest : goal.invariant-loop-rest
invariant-loop-rest g l = record {
  put : (done : List ℕ) × (l.fn.text ≡ done ++ l.rest)
      × PutsText (g.F.Folder.files l.fn.folder) (g.F.Folder.files l.folder) (g.F.Folder.calls l.fn.folder) (g.F.Folder.calls l.folder) l.fn.pieces l.pieces done;
  unfinished : g.F.Folder.unfinished l.folder ≡ true;
  no_fault : g.F.Folder.faults l.folder ≡ g.F.Folder.faults l.fn.folder;
}

abbrev pub decreases-loop-rest : goal.decreases-loop-rest
decreases-loop-rest g l = length l.rest

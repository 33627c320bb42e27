use Rattle.std.proofs.Common.{◌≡◌, ℕ, ◌+◌, List, [], ◌∷◌, ◌++◌, length, true}
use Rattle.std.specs.Slice.Iter.{chunks_rest, chunks_size}
use Rattle.gm_io.specs.Count.{raised}
use Rattle.gm_io.specs.FileList.{Gained}
use Rattle.gm_files.specs.Calls.{pieces_of}
use Rattle.gm_files.proofs.putting.put_file.Given as goal

-- The file has the bytes before those that are left to cut, one write for each piece, and none failed.
abbrev pub invariant-loop-piece : goal.invariant-loop-piece
invariant-loop-piece g l = record {
  can_next : (goal.iterator-loop-piece g).can_next l.piece-iterator;
  is_finite : (goal.iterator-loop-piece g).is_finite l.piece-iterator;
  size : chunks_size l.piece-iterator ≡ 65536;
  gained : (done : List ℕ) × (l.fn.bytes ≡ done ++ chunks_rest l.piece-iterator)
      × Gained (g.F.Folder.files l.fn.folder) (g.F.Folder.files l.folder) ((l.fn.name, done) ∷ []);
  unfinished : g.F.Folder.unfinished l.folder ≡ true;
  pieces : length l.yielded + pieces_of (length (chunks_rest l.piece-iterator)) ≡ pieces_of (length l.fn.bytes);
  calls : g.F.Folder.calls l.folder ≡ raised (g.F.Folder.calls l.fn.folder) (1 + length l.yielded);
  no_fault : g.F.Folder.faults l.folder ≡ g.F.Folder.faults l.fn.folder;
}

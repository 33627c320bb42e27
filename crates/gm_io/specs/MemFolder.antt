-- What a folder in memory is seen as, and what its calls do to that.
--   FolderState            the files, the counts, and what the folder was made to refuse
--   IsFailing state        the next call is one of those that are to fail
--   kept state piece       what a failed write keeps of a piece
--   counted, failed        a call was counted; it failed too
--   created, written       a file was created; a piece was written
--   partly_written         a write failed, and part of the piece was kept
--   finished               the last file was finished
use Rattle.std.specs.Prelude.{ℕ, ◌-◌, min, Bool, true, false, List, [], ◌∷◌, ◌++◌, length, take, Contains}
use Rattle.gm_io.specs.Count.{raised}
use Rattle.gm_io.specs.FileList.{FileList, with_piece}

-- the files and whether the last is unfinished, the counts, the numbers of the calls that are to fail,
-- the most bytes that a failed write keeps, and how many more files and bytes of names and contents fit
pub record FolderState : Type 0 where
  pub files : FileList
  pub unfinished : Bool
  pub calls : ℕ
  pub faults : ℕ
  pub failing : List ℕ
  pub keep : ℕ
  pub spare_files : ℕ
  pub room : ℕ

-- the next call's number is among those that are to fail
abbrev pub IsFailing : FolderState → Type 0
IsFailing state = Contains state.failing (raised state.calls 1)

-- what a failed write keeps of a piece: its first bytes, as many as are kept, as there are and as fit
abbrev pub kept : FolderState → List ℕ → List ℕ
kept state piece = take (min state.keep (min (length piece) state.room)) piece

-- one more call
abbrev pub counted : FolderState → FolderState
counted state = record state { calls = raised state.calls 1 }

-- one more call, which failed
abbrev pub failed : FolderState → FolderState
failed state = record (counted state) { faults = raised state.faults 1 }

-- a file without bytes stands last, unfinished
abbrev pub created : FolderState → List ℕ → FolderState
created state name =
    record (counted state) {
      files = state.files ++ (name, []) ∷ [];
      unfinished = true;
      spare_files = state.spare_files - 1;
      room = state.room - length name;
    }

-- the last file has gained the piece
abbrev pub written : FolderState → List ℕ → FolderState
written state piece = record (counted state) { files = with_piece state.files piece; room = state.room - length piece }

-- the write failed, and the last file has gained what is kept of the piece
abbrev pub partly_written : FolderState → List ℕ → FolderState
partly_written state piece =
    record (failed state) {
      files = with_piece state.files (kept state piece);
      room = state.room - length (kept state piece);
    }

-- no file is unfinished
abbrev pub finished : FolderState → FolderState
finished state = record state { unfinished = false }

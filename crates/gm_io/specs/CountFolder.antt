-- What a contract sees of a folder that only counts.
use Rattle.std.specs.Prelude.{ℕ, Bool}

-- the numbers of files created, of bytes written and of calls, and whether the last file is unfinished
pub record FolderCounts : Type 0 where
  pub files : ℕ
  pub bytes : ℕ
  pub calls : ℕ
  pub unfinished : Bool

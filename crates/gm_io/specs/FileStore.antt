-- What a store of files is seen as.
use Rattle.std.specs.Prelude.{ℕ}
use Rattle.gm_io.specs.FileList.{FileList}

-- the files, how many more there is memory for, and for how many more bytes of names and contents
pub record StoreState : Type 0 where
  pub files : FileList
  pub spare_files : ℕ
  pub room : ℕ

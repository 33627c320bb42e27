-- What a folder is left with when files were to be put into it and a call of it failed.
use Rattle.std.specs.Prelude.{◌≡◌, ℕ, ◌+◌, ◌<◌, ◌≤◌, Option, ◌++◌, take}
use Rattle.gm_io.specs.Count.{raised}
use Rattle.gm_io.specs.FileList.{FileList, Told}
use Rattle.gm_files.specs.Calls.{pieces_of}

-- the files are those before, and then the first few of these, each of them whole
abbrev pub GainedWhole : Option FileList → Option FileList → FileList → Type 0
GainedWhole old new files = Told old new (λ xs ys. (count : ℕ) × (ys ≡ xs ++ take count files))

-- the calls end with a write of a file of n bytes: its create was done, and its finish was not called
pub record EndsInWrite (before now n : ℕ) : Type 0 where
  pub some_bytes : 0 < n
  pub created : raised before 2 ≤ now
  pub not_finished : now ≤ raised before (1 + pieces_of n)

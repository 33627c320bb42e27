-- The files of a folder: their names and bytes, in the order in which they were created.
--   FileList                    the list
--   with_piece files piece      the last file has gained a piece
--   Told old new step           a folder that tells its files tells them after the step too
--   Gained old new files        the folder has gained just these files
--   IsFilePart part files       whole files in order, then at most one with a prefix of its bytes
--   GainedPart old new files    the folder has gained such a part of these files
use Rattle.std.specs.Prelude.{◌≡◌, ℕ, Option, Some, None, List, [], ◌∷◌, ◌++◌, ◌⊎◌, ⊤}

-- each file's name and bytes
abbrev pub FileList : Type 0
FileList = List (List ℕ × List ℕ)

-- the last file has gained a piece
abbrev pub with_piece : FileList → List ℕ → FileList
with_piece [] piece = []
with_piece (file ∷ []) piece = (file.0, file.1 ++ piece) ∷ []
with_piece (file ∷ next ∷ files) piece = file ∷ with_piece (next ∷ files) piece

-- told files stay told, and the step leads from the old ones to the new ones
abbrev pub Told : Option FileList → Option FileList → (FileList → FileList → Type 0) → Type 0
Told None new step = ⊤
Told (Some xs) None step = ⊥
Told (Some xs) (Some ys) step = step xs ys

-- the files are those before, and then these
abbrev pub Gained : Option FileList → Option FileList → FileList → Type 0
Gained old new files = Told old new (λ xs ys. ys ≡ xs ++ files)

-- bytes begin with a prefix
abbrev pub IsPrefix : List ℕ → List ℕ → Type 0
IsPrefix prefix bytes = (rest : List ℕ) × (bytes ≡ prefix ++ rest)

-- whole files of a list in order, and then at most one more, with a prefix of its bytes
abbrev pub IsFilePart : FileList → FileList → Type 0
IsFilePart [] files = ⊤
IsFilePart (part ∷ parts) [] = ⊥
IsFilePart (part ∷ parts) (file ∷ files) =
    ((part ≡ file) × IsFilePart parts files) ⊎ ((parts ≡ []) × (part.0 ≡ file.0) × IsPrefix part.1 file.1)

-- the files are those before, and then a part of these
abbrev pub GainedPart : Option FileList → Option FileList → FileList → Type 0
GainedPart old new files = Told old new (λ xs ys. (part : FileList) × IsFilePart part files × (ys ≡ xs ++ part))

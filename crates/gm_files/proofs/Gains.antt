-- How what a folder has gained adds up, step by step.
use Rattle.std.proofs.Common.{◌≡◌, ℕ, Option, Some, None, ◌+◌, List, [], ◌∷◌, ◌++◌, length, take, drop, refl, ap, ◌∙◌, inl, inr, append_assoc}
use Rattle.std.proofs.Math.Seq.{take-append-add, take-append_seam}
use Rattle.std.proofs.lemmas.List.{append-nil, take-append-drop}
use Rattle.gm_io.specs.FileList.{FileList, Told, with_piece, Gained, GainedPart, IsPrefix, IsFilePart}
use Rattle.gm_io.specs.Folder.{KeepsFiles}
use Rattle.gm_files.specs.Leaves.{GainedWhole}

-- a folder whose files stayed has gained none
pub Gained-nil : (old new : Option FileList) → KeepsFiles old new → Gained old new []
Gained-nil None new kept = tt
Gained-nil (Some xs) None kept = kept
Gained-nil (Some xs) (Some ys) kept = rw append-nil kept

-- what it gained in two steps, it gained one after the other
pub Gained-append : (old mid new : Option FileList) (files more : FileList)
    → Gained old mid files → Gained mid new more → Gained old new (files ++ more)
Gained-append None mid new files more first second = tt
Gained-append (Some xs) None new files more first second = absurd first
Gained-append (Some xs) (Some ys) None files more first second = second
Gained-append (Some xs) (Some ys) (Some zs) files more first second = rw (second, first) (append_assoc xs files more)

-- whole files, and then a part of those that follow
pub IsFilePart-append : (files part more : FileList) → IsFilePart part more → IsFilePart (files ++ part) (files ++ more)
IsFilePart-append [] part more is_part = is_part
IsFilePart-append (file ∷ files) part more is_part = inl (refl, IsFilePart-append files part more is_part)

-- a part of a list is a part of a longer one
pub IsFilePart-longer : (part files more : FileList) → IsFilePart part files → IsFilePart part (files ++ more)
IsFilePart-longer [] files more is_part = tt
IsFilePart-longer (p ∷ part) [] more is_part = absurd is_part
IsFilePart-longer (p ∷ part) (file ∷ files) more (inl (same, rest)) = inl (same, IsFilePart-longer part files more rest)
IsFilePart-longer (p ∷ part) (file ∷ files) more (inr last) = inr last

-- whole files, and then a part of those that follow, are a part of all of them
pub GainedPart-append : (old mid new : Option FileList) (files more : FileList)
    → Gained old mid files → GainedPart mid new more → GainedPart old new (files ++ more)
GainedPart-append None mid new files more first second = tt
GainedPart-append (Some xs) None new files more first second = absurd first
GainedPart-append (Some xs) (Some ys) None files more first second = second
GainedPart-append (Some xs) (Some ys) (Some zs) files more first (part, is_part, ends) =
    (files ++ part, IsFilePart-append files part more is_part, rw (ends, first) (append_assoc xs files part))

-- a part of some files is a part of more files
pub GainedPart-longer : (old new : Option FileList) (files more : FileList) → GainedPart old new files → GainedPart old new (files ++ more)
GainedPart-longer None new files more gained = tt
GainedPart-longer (Some xs) None files more gained = gained
GainedPart-longer (Some xs) (Some ys) files more (part, is_part, ends) = (part, IsFilePart-longer part files more is_part, ends)

-- a folder whose files stayed has gained a part of any list
pub GainedPart-none : (old new : Option FileList) (files : FileList) → KeepsFiles old new → GainedPart old new files
GainedPart-none None new files kept = tt
GainedPart-none (Some xs) None files kept = kept
GainedPart-none (Some xs) (Some ys) files kept = ([], tt, rw append-nil kept)

-- all files are a part of them
IsFilePart-all : (files : FileList) → IsFilePart files files
IsFilePart-all [] = tt
IsFilePart-all (file ∷ files) = inl (refl, IsFilePart-all files)

-- a folder that has gained files has gained a part of them
pub GainedPart-all : (old new : Option FileList) (files : FileList) → Gained old new files → GainedPart old new files
GainedPart-all None new files gained = tt
GainedPart-all (Some xs) None files gained = gained
GainedPart-all (Some xs) (Some ys) files gained = (files, IsFilePart-all files, gained)

-- a piece that is appended to the last file of a list
pub with_piece-append : (files : FileList) (name done piece : List ℕ)
    → with_piece (files ++ (name, done) ∷ []) piece ≡ files ++ (name, done ++ piece) ∷ []
with_piece-append [] name done piece = refl
with_piece-append (file ∷ []) name done piece = refl
with_piece-append (file ∷ next ∷ files) name done piece = ap (λ rest. file ∷ rest) (with_piece-append (next ∷ files) name done piece)

-- a done write makes the gained file longer by its piece
pub Gained-write : (old mid new : Option FileList) (name done piece : List ℕ)
    → Gained old mid ((name, done) ∷ []) → Told mid new (λ xs ys. ys ≡ with_piece xs piece) → Gained old new ((name, done ++ piece) ∷ [])
Gained-write None mid new name done piece gained wrote = tt
Gained-write (Some xs) None new name done piece gained wrote = absurd gained
Gained-write (Some xs) (Some ys) None name done piece gained wrote = wrote
Gained-write (Some xs) (Some ys) (Some zs) name done piece gained wrote = rw (wrote, gained) (with_piece-append xs name done piece)

-- bytes up to within a piece are a prefix of them all
IsPrefix-piece : (done piece rest : List ℕ) (kept : ℕ) → IsPrefix (done ++ take kept piece) (done ++ (piece ++ rest))
IsPrefix-piece done piece rest kept =
    (drop kept piece ++ rest, rw (append_assoc, ← append_assoc (take kept piece) (drop kept piece) rest, take-append-drop) refl)

-- a failed write leaves the gained file with a prefix of its bytes
pub GainedPart-write : (old mid new : Option FileList) (name bytes done piece left rest : List ℕ)
    → bytes ≡ done ++ left → left ≡ piece ++ rest → Gained old mid ((name, done) ∷ [])
    → Told mid new (λ xs ys. (kept : ℕ) × (ys ≡ with_piece xs (take kept piece))) → GainedPart old new ((name, bytes) ∷ [])
GainedPart-write None mid new name bytes done piece left rest all first gained wrote = tt
GainedPart-write (Some xs) None new name bytes done piece left rest all first gained wrote = absurd gained
GainedPart-write (Some xs) (Some ys) None name bytes done piece left rest all first gained wrote = wrote
GainedPart-write (Some xs) (Some ys) (Some zs) name bytes done piece left rest all first gained (kept, wrote) = (
  (name, done ++ take kept piece) ∷ [],
  inr (refl, refl, rw (all, first) (IsPrefix-piece done piece rest kept)),
  rw (wrote, gained) (with_piece-append xs name done (take kept piece)),
)

-- a failed finish leaves the file whole
pub GainedWhole-finish : (old mid new : Option FileList) (file : List ℕ × List ℕ)
    → Gained old mid (file ∷ []) → KeepsFiles mid new → GainedWhole old new (file ∷ [])
GainedWhole-finish None mid new file gained kept = tt
GainedWhole-finish (Some xs) None new file gained kept = absurd gained
GainedWhole-finish (Some xs) (Some ys) None file gained kept = kept
GainedWhole-finish (Some xs) (Some ys) (Some zs) file gained kept = (1, kept ∙ gained)

-- whole files, and then the first few of those that follow
pub GainedWhole-append : (old mid new : Option FileList) (files more : FileList)
    → Gained old mid files → GainedWhole mid new more → GainedWhole old new (files ++ more)
GainedWhole-append None mid new files more first second = tt
GainedWhole-append (Some xs) None new files more first second = absurd first
GainedWhole-append (Some xs) (Some ys) None files more first second = second
GainedWhole-append (Some xs) (Some ys) (Some zs) files more first (count, ends) =
    (length files + count, rw (ends, first, take-append-add) (append_assoc xs files (take count more)))

-- the first few of some files are the first few of more
pub GainedWhole-longer : (old new : Option FileList) (files more : FileList) → GainedWhole old new files → GainedWhole old new (files ++ more)
GainedWhole-longer None new files more gained = tt
GainedWhole-longer (Some xs) None files more gained = gained
GainedWhole-longer (Some xs) (Some ys) files more (count, ends) =
    let first = take count files in
    let same : first ++ (drop count files ++ more) ≡ files ++ more = rw (← append_assoc first (drop count files) more, take-append-drop) refl in
    (length first, rw (ends, ← same, take-append_seam) refl)

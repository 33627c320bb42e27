-- Files that are made one after another.
use Rattle.std.proofs.Common.{◌≡◌, ℕ, ◌+◌, ◌≤◌, List, [], ◌∷◌, ◌++◌, length, Option, refl, arith}
use Rattle.std.proofs.lemmas.List.Sums.{sum_by-append}
use Rattle.gm_io.specs.Count.{raised}
use Rattle.gm_io.specs.FileList.{FileList, Gained, GainedPart}
use Rattle.gm_io.specs.Folder.{KeepsFiles}
use Rattle.gm_files.specs.Calls.{file_calls, all_calls}
use Rattle.gm_files.proofs.Gains.{Gained-append, Gained-nil, GainedPart-append, GainedPart-longer, GainedPart-none, GainedPart-all}
use Rattle.gm_top.specs.Outputs.{Output, name_of, IsTextOf, AreFilesOf, MakesFiles, MakesPart, TakesCalls, TakesCallsWithin}
use Rattle.gm_top.proofs.PutLemmas.{KeepsFiles-same}

all_calls-append : (files more : FileList) → all_calls (files ++ more) ≡ all_calls files + all_calls more
all_calls-append files more = sum_by-append (λ (file : List ℕ × List ℕ). file_calls (length file.1)) files more

-- files of outputs, and then those of others
pub AreFilesOf-append : (outputs others : List Output) (files more : FileList) → AreFilesOf outputs files → AreFilesOf others more → AreFilesOf (outputs ++ others) (files ++ more)
AreFilesOf-append [] others [] more are and = and
AreFilesOf-append [] others (file ∷ files) more are and = absurd are
AreFilesOf-append (output ∷ outputs) others [] more are and = absurd are
AreFilesOf-append (output ∷ outputs) others (file ∷ files) more are and = (are.0, are.1, AreFilesOf-append outputs others files more are.2 and)

-- ---- what the folder has gained

pub MakesFiles-append : (outputs others : List Output) (old mid new : Option FileList) → MakesFiles outputs old mid → MakesFiles others mid new
    → MakesFiles (outputs ++ others) old new
MakesFiles-append outputs others old mid new (files, are, gained) (more, and, then) =
    (files ++ more, AreFilesOf-append outputs others files more are and, Gained-append old mid new files more gained then)

pub MakesPart-append : (outputs others : List Output) (old mid new : Option FileList) → MakesFiles outputs old mid → MakesPart others mid new
    → MakesPart (outputs ++ others) old new
MakesPart-append outputs others old mid new (files, are, gained) (more, and, then) =
    (files ++ more, AreFilesOf-append outputs others files more are and, GainedPart-append old mid new files more gained then)

-- others have files, of which none was made
pub MakesPart-longer : (outputs others : List Output) (old new : Option FileList) → MakesPart outputs old new → (more : FileList) × AreFilesOf others more
    → MakesPart (outputs ++ others) old new
MakesPart-longer outputs others old new (files, are, gained) (more, and) =
    (files ++ more, AreFilesOf-append outputs others files more are and, GainedPart-longer old new files more gained)

pub MakesPart-none : (outputs : List Output) (old new : Option FileList) → (files : FileList) × AreFilesOf outputs files → KeepsFiles old new → MakesPart outputs old new
MakesPart-none outputs old new (files, are) kept = (files, are, GainedPart-none old new files kept)

pub MakesPart-all : (outputs : List Output) (old new : Option FileList) → MakesFiles outputs old new → MakesPart outputs old new
MakesPart-all outputs old new (files, are, gained) = (files, are, GainedPart-all old new files gained)

pub MakesFiles-none : (files : Option FileList) → MakesFiles [] files files
MakesFiles-none files = ([], tt, Gained-nil files files (KeepsFiles-same files))

-- ---- the calls

pub TakesCalls-append : (outputs others : List Output) (before mid now : ℕ) → TakesCalls outputs before mid → TakesCalls others mid now
    → TakesCalls (outputs ++ others) before now
TakesCalls-append outputs others before mid now (files, are, called) (more, and, then) =
    (files ++ more, AreFilesOf-append outputs others files more are and, omega (arith, called, then, all_calls-append files more))

pub TakesCallsWithin-append : (outputs others : List Output) (before mid now : ℕ) → TakesCalls outputs before mid → TakesCallsWithin others mid now
    → TakesCallsWithin (outputs ++ others) before now
TakesCallsWithin-append outputs others before mid now (files, are, called) (more, and, then) =
    (files ++ more, AreFilesOf-append outputs others files more are and, omega (arith, called, then, all_calls-append files more))

pub TakesCallsWithin-longer : (outputs others : List Output) (before now : ℕ) → TakesCallsWithin outputs before now → (more : FileList) × AreFilesOf others more
    → TakesCallsWithin (outputs ++ others) before now
TakesCallsWithin-longer outputs others before now (files, are, called) (more, and) =
    (files ++ more, AreFilesOf-append outputs others files more are and, omega (arith, called, all_calls-append files more))

pub TakesCallsWithin-none : (outputs : List Output) (calls : ℕ) → (files : FileList) × AreFilesOf outputs files → TakesCallsWithin outputs calls calls
TakesCallsWithin-none outputs calls (files, are) = (files, are, omega arith)

pub TakesCalls-none : (calls : ℕ) → TakesCalls [] calls calls
TakesCalls-none calls = ([], tt, omega arith)

-- ---- one file

pub MakesFiles-one : (output : Output) (text : List ℕ) (old new : Option FileList) → IsTextOf output text → Gained old new ((name_of output, text) ∷ [])
    → MakesFiles (output ∷ []) old new
MakesFiles-one output text old new is gained = ((name_of output, text) ∷ [], (refl, is, tt), gained)

pub TakesCalls-one : (output : Output) (text : List ℕ) (before now : ℕ) → IsTextOf output text → now ≡ raised before (file_calls (length text))
    → TakesCalls (output ∷ []) before now
TakesCalls-one output text before now is called = ((name_of output, text) ∷ [], (refl, is, tt), omega (arith, called))

pub TakesCallsWithin-one : (output : Output) (text : List ℕ) (before now : ℕ) → IsTextOf output text → now ≤ raised before (file_calls (length text))
    → TakesCallsWithin (output ∷ []) before now
TakesCallsWithin-one output text before now is few = ((name_of output, text) ∷ [], (refl, is, tt), omega (arith, few))

pub MakesPart-one : (output : Output) (text : List ℕ) (old new : Option FileList) → IsTextOf output text → GainedPart old new ((name_of output, text) ∷ [])
    → MakesPart (output ∷ []) old new
MakesPart-one output text old new is gained = ((name_of output, text) ∷ [], (refl, is, tt), gained)

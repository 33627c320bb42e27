-- What a run decides, and what it leaves in a folder. `left` are the bytes that a source has left, where it tells
-- them, and files are those of a folder, where it tells them.
--   IsReadWhole left left_after         the input was read to its end, and is within the limit
--   IsTooLong left                      more bytes are left than an input may have
--   IsDecided words left decision       this is what the command that the words ask for decides of its input
--   GainsFiles words left old new       the folder has gained just the files of the decided work
--   GainsPart words left old new        the folder has gained a part of these files
--   GainsPartIfAny words left old new   the folder has gained such a part, or nothing
--   GainsMeaning words left old new     the bytes of the files that the folder has gained mean what they are to mean
--   CallsForFiles words left before now         the folder was called as often as the files of the decided work take
--   CallsForPart words left before now          it was called no more often than that
--   CallsForPartIfAny words left before now     so it was, or it was not called
--   AnswersInput words left answer      a run of the command that the words ask for ends so, where nothing fails
use Rattle.std.specs.Prelude.{◌≡◌, ◌<◌, ◌≤◌, ◌⊎◌, ℕ, List, ◌++◌, length, Option, IfSome, Result, Ok}
use Rattle.std.specs.Io.KnownBytes.{IsAtEnd}
use Rattle.gm_io.specs.Limit.{input_limit}
use Rattle.gm_io.specs.FileList.{FileList, Told}
use Rattle.gm_io.specs.Folder.{KeepsFiles}
use Rattle.gm_top.specs.declared.commands.Command.{Command}
use Rattle.gm_top.specs.declared.outcomes.Outcome.{Outcome}
use Rattle.gm_top.specs.declared.work.Work.{Work}
use Rattle.gm_top.specs.Command.{IsCommand, input_of}
use Rattle.gm_top.specs.Decision.{Decides, IsAnswerTo}
use Rattle.gm_top.specs.Outputs.{outputs_of, AreMeant, MakesFiles, MakesPart, TakesCalls, TakesCallsWithin}

pub record IsReadWhole (left left_after : Option (List ℕ)) : Type 0 where
  pub at_end : IsAtEnd left_after
  pub short : IfSome left (λ bytes. length bytes ≤ input_limit)

abbrev pub IsTooLong : Option (List ℕ) → Type 0
IsTooLong left = IfSome left (λ bytes. input_limit < length bytes)

pub record IsDecided (words : List (List ℕ)) (left : Option (List ℕ)) (decision : Result Work Outcome) : Type 0 where
  pub command : Command
  pub asked : IsCommand command words
  pub decided : Decides command left decision

pub record GainsFiles (words : List (List ℕ)) (left : Option (List ℕ)) (old new : Option FileList) : Type 0 where
  pub work : Work
  pub decided : IsDecided words left (Ok work)
  pub made : MakesFiles (outputs_of work) old new

pub record GainsPart (words : List (List ℕ)) (left : Option (List ℕ)) (old new : Option FileList) : Type 0 where
  pub work : Work
  pub decided : IsDecided words left (Ok work)
  pub made : MakesPart (outputs_of work) old new

abbrev pub GainsPartIfAny : List (List ℕ) → Option (List ℕ) → (old new : Option FileList) → Type 0
GainsPartIfAny words left old new = KeepsFiles old new ⊎ GainsPart words left old new

-- the files are those that the folder has gained, as it has them now
pub record GainsMeaning (words : List (List ℕ)) (left : Option (List ℕ)) (old new : Option FileList) : Type 0 where
  pub work : Work
  pub decided : IsDecided words left (Ok work)
  pub read_back : Told old new (λ xs ys. (files : FileList) × (ys ≡ xs ++ files) × AreMeant (outputs_of work) files)

-- the numbers of calls are those before and now
pub record CallsForFiles (words : List (List ℕ)) (left : Option (List ℕ)) (before now : ℕ) : Type 0 where
  pub work : Work
  pub decided : IsDecided words left (Ok work)
  pub calls : TakesCalls (outputs_of work) before now

pub record CallsForPart (words : List (List ℕ)) (left : Option (List ℕ)) (before now : ℕ) : Type 0 where
  pub work : Work
  pub decided : IsDecided words left (Ok work)
  pub calls : TakesCallsWithin (outputs_of work) before now

abbrev pub CallsForPartIfAny : List (List ℕ) → Option (List ℕ) → (before now : ℕ) → Type 0
CallsForPartIfAny words left before now = (now ≡ before) ⊎ CallsForPart words left before now

abbrev pub AnswersInput : List (List ℕ) → Option (List ℕ) → Outcome → Type 0
AnswersInput words left answer = (command : Command) → IsCommand command words
    → IfSome (input_of command left) (λ bytes. IsAnswerTo command bytes answer)

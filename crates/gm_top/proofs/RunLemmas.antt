-- What a run answers, and what its folder has gained.
use Rattle.std.proofs.Common.{◌≡◌, ◌≢◌, ◌<◌, ◌≤◌, ◌++◌, ℕ, List, length, refl, ap, subst, Option, Some, None, Result, Ok, Err, IfSome, IsTrue, arith}
use Rattle.gm_io.specs.Limit.{input_limit}
use Rattle.gm_io.specs.Source.{AreAllLeft}
use Rattle.gm_io.specs.FileList.{FileList, Told, Gained}
use Rattle.gm_top.specs.declared.commands.Command.{Command}
use Rattle.gm_top.specs.declared.outcomes.Outcome.{Outcome}
use Rattle.gm_top.specs.declared.outcomes.Outcome.TheVariants.{Done, Usage, ReadFault, InputTooLong, Config, BadWorkload, NoSuchQuery, TooManyStubs, WriteFault, NoMemory}
use Rattle.gm_top.specs.declared.work.Work.{Work}
use Rattle.gm_top.specs.Command.{IsCommand, input_of}
use Rattle.gm_top.specs.Outcome.{is_after_reading, is_of_bytes, is_of_input}
use Rattle.gm_top.specs.Decision.{IsDecision, Decides, outcome_of, IsAnswerTo}
use Rattle.gm_top.specs.Outputs.{outputs_of, AreMeant, MakesFiles}
use Rattle.gm_top.specs.Run.{GainsMeaning}
use Rattle.gm_top.proofs.CommandLemmas.{IsCommand-same, asked-can}
use Rattle.gm_top.proofs.DecisionLemmas.{IsAccepted-IsDecision}
use Rattle.gm_top.proofs.LawLemmas.{IsDecision-one, outputs-accepted, AreMeant-AreFilesOf}

-- ---- the files

pub Told-files : (old new : Option FileList) (P : FileList → Type 0) (files : FileList) → Gained old new files → P files
    → Told old new (λ xs ys. (files : FileList) × (ys ≡ xs ++ files) × P files)
Told-files None new P files gained p = tt
Told-files (Some xs) None P files gained p = gained
Told-files (Some xs) (Some ys) P files gained p = (files, gained, p)

pub GainsMeaning-Gained : (words : List (List ℕ)) (command : Command) (left : Option (List ℕ)) (old new : Option FileList) (work : Work) → IsCommand command words
    → Decides command left (Ok work) → MakesFiles (outputs_of work) old new → GainsMeaning words left old new
GainsMeaning-Gained words command left old new work asked (bytes, given, decided) (files, are, gained) =
    record {
      work = work;
      decided = record { command = command; asked = asked; decided = (bytes, given, decided) };
      read_back =
          Told-files old new (AreMeant (outputs_of work)) files gained
          (AreMeant-AreFilesOf (outputs_of work) files (outputs-accepted work (IsAccepted-IsDecision command (asked-can words command asked) bytes work decided)) are);
    }

-- ---- the answer

decided_answer : (command : Command) (xs : List ℕ) (decision : Result Work Outcome) → length xs ≤ input_limit → IsDecision command xs decision
    → IsAnswerTo command xs (outcome_of decision)
decided_answer command xs decision short decided =
    record { too_long = λ long. absurd (omega arith); decided = λ _ other is. ap outcome_of (IsDecision-one command xs decision other decided is) }

too_long : (command : Command) (xs : List ℕ) → input_limit < length xs → IsAnswerTo command xs InputTooLong
too_long command xs long = record { too_long = λ _. refl; decided = λ short _ _. absurd (omega arith) }

-- what holds of the answer to the input of a command holds of that of the command that the words ask for
answers : (words : List (List ℕ)) (command asked : Command) (left : Option (List ℕ)) (answer : Outcome) → IsCommand command words → IsCommand asked words
    → IfSome (input_of command left) (λ bytes. IsAnswerTo command bytes answer) → IfSome (input_of asked left) (λ bytes. IsAnswerTo asked bytes answer)
answers words command asked left answer is wanted all =
    subst (λ (c : Command). IfSome (input_of c left) (λ bytes. IsAnswerTo c bytes answer)) (IsCommand-same words command asked is wanted) all

pub IsAnswerTo-done : (words : List (List ℕ)) (command asked : Command) (left : Option (List ℕ)) (work : Work) → IsCommand command words → IsCommand asked words
    → Decides command left (Ok work) → IfSome (input_of command left) (λ bytes. length bytes ≤ input_limit) → IfSome (input_of asked left) (λ bytes. IsAnswerTo asked bytes Done)
IsAnswerTo-done words command asked left work is wanted (bytes, all, decided) short = answers words command asked left Done is wanted (by_input (input_of command left) all short)
  where
    by_input : (input : Option (List ℕ)) → AreAllLeft input bytes → IfSome input (λ bytes. length bytes ≤ input_limit) → IfSome input (λ bytes. IsAnswerTo command bytes Done)
    by_input None all short = tt
    by_input (Some xs) all short = decided_answer command xs (Ok work) short (subst (λ (b : List ℕ). IsDecision command b (Ok work)) all decided)

-- an answer that neither a fault nor memory explains is the answer to the bytes
refused_answer : (command : Command) (xs : List ℕ) (answer : Outcome) → IsTrue (is_of_input answer) → answer ≢ NoMemory → answer ≢ ReadFault
    → (answer ≡ InputTooLong → input_limit < length xs) → (IsTrue (is_of_bytes answer) → IsDecision command xs (Err answer))
    → (IsTrue (is_of_bytes answer) → length xs ≤ input_limit) → IsAnswerTo command xs answer
refused_answer command xs Done is memory fault long decided short = cc
refused_answer command xs Usage is memory fault long decided short = cc
refused_answer command xs WriteFault is memory fault long decided short = cc
refused_answer command xs NoMemory is memory fault long decided short = absurd (memory refl)
refused_answer command xs ReadFault is memory fault long decided short = absurd (fault refl)
refused_answer command xs InputTooLong is memory fault long decided short = too_long command xs (long refl)
refused_answer command xs (Config reason) is memory fault long decided short = decided_answer command xs (Err (Config reason)) (short refl) (decided refl)
refused_answer command xs (BadWorkload line rule) is memory fault long decided short = decided_answer command xs (Err (BadWorkload line rule)) (short refl) (decided refl)
refused_answer command xs (NoSuchQuery n shape class) is memory fault long decided short =
    decided_answer command xs (Err (NoSuchQuery n shape class)) (short refl) (decided refl)
refused_answer command xs (TooManyStubs c side total) is memory fault long decided short =
    decided_answer command xs (Err (TooManyStubs c side total)) (short refl) (decided refl)

pub IsAnswerTo-refused : (words : List (List ℕ)) (command asked : Command) (left : Option (List ℕ)) (answer : Outcome) → IsCommand command words
    → IsCommand asked words → IsTrue (is_of_input answer) → answer ≢ NoMemory → answer ≢ ReadFault
    → (answer ≡ InputTooLong → IfSome (input_of command left) (λ bytes. input_limit < length bytes))
    → (IsTrue (is_of_bytes answer) → Decides command left (Err answer)) → (IsTrue (is_of_bytes answer) → IfSome (input_of command left) (λ bytes. length bytes ≤ input_limit))
    → IfSome (input_of asked left) (λ bytes. IsAnswerTo asked bytes answer)
IsAnswerTo-refused words command asked left answer is wanted input memory fault long decided short =
    answers words command asked left answer is wanted (by_input (input_of command left) long decided short)
  where
    by_input : (given : Option (List ℕ)) → (answer ≡ InputTooLong → IfSome given (λ bytes. input_limit < length bytes))
        → (IsTrue (is_of_bytes answer) → (bytes : List ℕ) × AreAllLeft given bytes × IsDecision command bytes (Err answer))
        → (IsTrue (is_of_bytes answer) → IfSome given (λ bytes. length bytes ≤ input_limit)) → IfSome given (λ bytes. IsAnswerTo command bytes answer)
    by_input None long decided short = tt
    by_input (Some xs) long decided short =
        refused_answer command xs answer input memory fault long
        (λ of_bytes. let own = decided of_bytes in subst (λ (b : List ℕ). IsDecision command b (Err answer)) own.1 own.2) short

-- an answer before a work is decided that comes only after the input was read is one that the bytes decide
pub after-is_of_bytes : (answer : Outcome) → IsTrue (is_of_input answer) → IsTrue (is_after_reading answer) → IsTrue (is_of_bytes answer)
after-is_of_bytes Done is after = cc
after-is_of_bytes Usage is after = cc
after-is_of_bytes ReadFault is after = cc
after-is_of_bytes InputTooLong is after = cc
after-is_of_bytes (Config reason) is after = refl
after-is_of_bytes (BadWorkload line rule) is after = refl
after-is_of_bytes (NoSuchQuery n shape class) is after = refl
after-is_of_bytes (TooManyStubs c side total) is after = refl
after-is_of_bytes WriteFault is after = cc
after-is_of_bytes NoMemory is after = cc

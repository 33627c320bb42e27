-- What is true of every command and every input.
--   Refuses command bytes refusal         a command refuses the bytes so
--   DefinesFiles command bytes files      these are the files that a command makes of the bytes
--   EveryInputIsDecided                   every input of a command that can be asked for is refused, or defines files
--   DecisionsAreOne                       no input has two decisions
--   FilesAreOne                           no input defines two lists of files
--   SamplesAreNeverRefused                no sample is refused, and none has a cause to be
--   AcceptedInputsAskForFiles             a configuration whose queries can be drawn and that is within the limit is not refused
use Rattle.std.specs.Prelude.{◌≡◌, ◌⊎◌, ℕ, List, None, Result, Ok, Err}
use Rattle.serde_json.specs.Data.{Data}
use Rattle.gm_io.specs.FileList.{FileList}
use Rattle.gm_config.specs.Reading.{Reads, config_of}
use Rattle.gm_config.specs.Rule.{first_broken}
use Rattle.gm_config.specs.Rules.{rules}
use Rattle.edge_match.specs.Limit.{IsWithinLimit}
use Rattle.gm_config.specs.Sample.{sample_of}
use Rattle.gm_top.specs.Generation.{CanDraw, IsAcceptedFor}
use Rattle.gm_top.specs.declared.commands.Command.{Command}
use Rattle.gm_top.specs.declared.commands.Command.TheVariants.{Generate, Sample}
use Rattle.gm_top.specs.declared.outcomes.Outcome.{Outcome}
use Rattle.gm_top.specs.declared.work.Work.{Work}
use Rattle.gm_top.specs.declared.work.Work.TheVariants.{Files}
use Rattle.gm_top.specs.Command.{CanBeAsked}
use Rattle.gm_top.specs.Decision.{IsDecision}
use Rattle.gm_top.specs.Outputs.{outputs_of, AreFilesOf}

-- a command refuses the bytes so
abbrev pub Refuses : Command → List ℕ → Outcome → Type 0
Refuses command bytes refusal = IsDecision command bytes (Err refusal)

-- these are the files that a command makes of the bytes
abbrev pub DefinesFiles : Command → List ℕ → FileList → Type 0
DefinesFiles command bytes files = (work : Work) × IsDecision command bytes (Ok work) × AreFilesOf (outputs_of work) files

-- every input of a command that can be asked for is refused, or defines files
abbrev pub EveryInputIsDecided : Type 0
EveryInputIsDecided = (command : Command) → CanBeAsked command → (bytes : List ℕ)
    → ((refusal : Outcome) × Refuses command bytes refusal)
    ⊎ ((files : FileList) × DefinesFiles command bytes files)

-- no sample is refused, and none has a cause to be: its configuration keeps the rules, each of its queries can be drawn,
-- and no side has too many stubs
abbrev pub SamplesAreNeverRefused : Type 0
SamplesAreNeverRefused = (k : ℕ) → CanBeAsked (Sample k)
    → IsAcceptedFor (sample_of k) k × ((bytes : List ℕ) (refusal : Outcome) → ¬ Refuses (Sample k) bytes refusal)

-- no input has two decisions
abbrev pub DecisionsAreOne : Type 0
DecisionsAreOne = (command : Command) (bytes : List ℕ) (a b : Result Work Outcome)
    → IsDecision command bytes a → IsDecision command bytes b → a ≡ b

-- no input defines two lists of files
abbrev pub FilesAreOne : Type 0
FilesAreOne = (command : Command) (bytes : List ℕ) (files others : FileList)
    → DefinesFiles command bytes files → DefinesFiles command bytes others → files ≡ others

-- a configuration whose queries can be drawn, and none of whose sides has too many stubs, asks for its files
abbrev pub AcceptedInputsAskForFiles : Type 0
AcceptedInputsAskForFiles = (seed : ℕ) (bytes : List ℕ) (d : Data)
    → Reads bytes d → first_broken rules d ≡ None → CanDraw (config_of d) seed → IsWithinLimit (config_of d) seed
    → IsDecision (Generate seed) bytes (Ok (Files (record { config = config_of d; seed = seed })))

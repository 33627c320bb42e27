-- What a command decides of its input: a refusal, or the work that is to be done.
--   IsValueOf bytes value           the value of bytes that are JSON, and none of any other bytes
--   first_refusal refusals work     the first of some refusals, or else the work
--   text_decision verdict           what is decided of a workload text with this verdict
--   config_refusal d                how a value is refused that is no configuration
--   query_refusal config seed n     how a query is refused that can't be drawn
--   side_refusal config seed c      how a constraint is refused that has too many stubs
--   refusals_of d seed              all refusals of a value, in the order in which they are decided
--   IsRefusalOf generation refusal  how a configuration that keeps its rules is refused
--   files_decision seed value       what is decided of bytes that read so
--   IsDecision command bytes d      what a command decides of the bytes that it is given
--   Decides command left d          what it decides where a source has these bytes left
--   outcome_of decision             how a run ends that decides so
--   IsAnswerTo command bytes o      how a run ends that is given the bytes, where nothing fails
use Rattle.std.specs.Prelude.{◌≡◌, ◌⊎◌, ◌<◌, ◌≤◌, ℕ, List, [], ◌∷◌, ◌++◌, if◌then◌else◌, length, map, Result, Ok, Err}
use Rattle.std.specs.Prelude.{MatchOption, Option, Some, None, option_map}
use Rattle.std.specs.List.{range_with_len}
use Rattle.serde_json.specs.Data.{Data}
use Rattle.gm_io.specs.Limit.{input_limit}
use Rattle.gm_io.specs.Source.{AreAllLeft}
use Rattle.gm_config.specs.Config.{ConfigValue}
use Rattle.gm_config.specs.Reading.{Reads, config_of}
use Rattle.gm_config.specs.Rule.{first_broken}
use Rattle.gm_config.specs.Rules.{rules}
use Rattle.gm_config.specs.Sample.{sample_of}
use Rattle.gm_config.specs.declared.errors.ConfigFault.TheVariants as fault
use Rattle.query_draw.specs.Query.{drawn_shape, drawn_class, has_query}
use Rattle.query_draw.specs.declared.missing.NoSuchQuery.{NoSuchQuery}
use Rattle.query_draw.specs.Missing.{IsFirst}
use Rattle.edge_match.specs.declared.errors.TooManyStubs.{TooManyStubs}
use Rattle.edge_match.specs.Limit.{first_side_over, IsWithinLimit, IsFirstOver}
use Rattle.workload_text.specs.Rules.{Verdict, verdict_of}
use Rattle.gm_top.specs.declared.commands.Command.{Command}
use Rattle.gm_top.specs.declared.commands.Command.TheVariants.{Translate, Generate, Sample}
use Rattle.gm_top.specs.declared.outcomes.Outcome.{Outcome}
use Rattle.gm_top.specs.declared.outcomes.Outcome.TheVariants as outcome
use Rattle.gm_top.specs.declared.work.Work.{Work}
use Rattle.gm_top.specs.declared.work.Work.TheVariants.{Queries, Files, Sampled}
use Rattle.gm_top.specs.Command.{input_of}
use Rattle.gm_top.specs.Generation.{GenerationValue, CanDraw}
use Rattle.gm_top.specs.Outcome.{broken_outcome, missing_outcome, stubs_outcome}

-- the value of bytes that are JSON, and none of any other bytes
abbrev pub IsValueOf : List ℕ → Option Data → Type 0
IsValueOf bytes value = MatchOption value ((d : Data) → ¬ Reads bytes d) (λ d. Reads bytes d)

-- the first of some refusals, or else the work
abbrev pub first_refusal : List (Option Outcome) → Work → Result Work Outcome
first_refusal [] work = Ok work
first_refusal (None ∷ refusals) work = first_refusal refusals work
first_refusal (Some refusal ∷ refusals) work = Err refusal

-- a workload text asks for the texts of its queries; any other is refused with its first line that breaks a rule, and
-- the least rule that this line breaks
abbrev pub text_decision : Verdict → Result Work Outcome
text_decision (Ok v) = Ok (Queries v)
text_decision (Err (line, rule)) = Err (outcome.BadWorkload line rule)

-- a value that is no configuration is refused with the first rule that it breaks
abbrev pub config_refusal : Data → Option Outcome
config_refusal d = option_map broken_outcome (first_broken rules d)

-- a query is refused that can't be drawn, with its shape and its class
abbrev pub query_refusal : ConfigValue → (seed number : ℕ) → Option Outcome
query_refusal config seed number = if has_query config seed number
    then None
    else Some (outcome.NoSuchQuery number (drawn_shape config seed number) (drawn_class config seed number))

-- a constraint is refused with the first of its sides that has too many stubs
abbrev pub side_refusal : ConfigValue → (seed c : ℕ) → Option Outcome
side_refusal config seed c = option_map stubs_outcome (first_side_over config seed c)

-- the broken rules of a value, then its queries by their numbers, then its constraints by theirs
abbrev pub refusals_of : Data → ℕ → List (Option Outcome)
refusals_of d seed =
    let config = config_of d in
    config_refusal d
    ∷ map (query_refusal config seed) (range_with_len 0 config.workload.queries)
    ++ map (side_refusal config seed) (range_with_len 0 (length config.constraints))

-- a configuration that keeps its rules is refused for its first query that can't be drawn, or else for its first side
-- with too many stubs
abbrev pub IsRefusalOf : GenerationValue → Option Outcome → Type 0
IsRefusalOf g None = CanDraw g.config g.seed × IsWithinLimit g.config g.seed
IsRefusalOf g (Some refusal) =
    ((missing : NoSuchQuery) × IsFirst g.config g.seed missing × (refusal ≡ missing_outcome missing))
    ⊎ ((over : TooManyStubs) × CanDraw g.config g.seed × IsFirstOver g.config g.seed over × (refusal ≡ stubs_outcome over))

-- a configuration of which nothing is refused asks for its files
unfoldable pub files_decision : ℕ → Option Data → Result Work Outcome
files_decision seed None = Err (outcome.Config fault.NotJson)
files_decision seed (Some d) = first_refusal (refusals_of d seed) (Files (record { config = config_of d; seed = seed }))

-- what a command decides of the bytes that it is given
abbrev pub IsDecision : Command → List ℕ → Result Work Outcome → Type 0
IsDecision Translate bytes decision = decision ≡ text_decision (verdict_of bytes)
IsDecision (Generate seed) bytes decision =
    (value : Option Data) × IsValueOf bytes value × (decision ≡ files_decision seed value)
IsDecision (Sample k) bytes decision = decision ≡ Ok (Sampled (record { config = sample_of k; seed = k }))

-- what a command decides where a source has these bytes left
abbrev pub Decides : Command → Option (List ℕ) → Result Work Outcome → Type 0
Decides command left decision =
    (bytes : List ℕ) × AreAllLeft (input_of command left) bytes × IsDecision command bytes decision

-- how a run ends that decides so, where nothing fails
abbrev pub outcome_of : Result Work Outcome → Outcome
outcome_of (Ok work) = outcome.Done
outcome_of (Err refusal) = refusal

-- how a run ends that is given the bytes, where nothing fails
pub record IsAnswerTo (command : Command) (bytes : List ℕ) (answer : Outcome) : Type 0 where
  pub too_long : input_limit < length bytes → answer ≡ outcome.InputTooLong
  pub decided : length bytes ≤ input_limit
      → (decision : Result Work Outcome) → IsDecision command bytes decision → answer ≡ outcome_of decision

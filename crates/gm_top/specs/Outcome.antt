-- The exit status and the printed line of each outcome.
--   status_of outcome, line_of outcome     the two
--   broken_line, bad_line, missing_line, stubs_line   the lines that hold numbers
--   is_after_reading outcome               it comes only after the whole input was read
--   is_refusal outcome                     it is decided before a file is made
--   is_of_bytes outcome                    the bytes of the input decide it
--   is_decision result                     it is a work, or such an outcome
--   is_of_deciding outcome                 it can come while an input is decided that was read
--   is_of_input outcome                    it can come before a work is decided
--   is_of_writing outcome                  it can come while files are made
--   broken_outcome                         the outcome of a broken rule
--   missing_outcome, stubs_outcome         that of a query that can't be drawn, and of a side with too many stubs
--   read_outcome, config_outcome, ..       the outcome of an error of a part of the work
use Rattle.std.specs.Prelude.{ℕ, Bool, true, false, List, ◌++◌, codes, decimal, Result, Ok, Err}
use Rattle.gm_io.specs.declared.reading.ReadError.{ReadError}
use Rattle.gm_io.specs.declared.reading.ReadError.TheVariants as read
use Rattle.sel_algebra.specs.declared.vocabulary.Class.{Class}
use Rattle.sel_algebra.specs.declared.vocabulary.Class.TheVariants as class
use Rattle.sel_algebra.specs.declared.vocabulary.Shape.{Shape}
use Rattle.sel_algebra.specs.declared.vocabulary.Shape.TheVariants as shape
use Rattle.gm_config.specs.declared.errors.ConfigFault.TheVariants as fault
use Rattle.gm_config.specs.declared.errors.ConfigError.{ConfigError}
use Rattle.gm_config.specs.declared.errors.ConfigError.TheVariants as config
use Rattle.query_draw.specs.declared.missing.NoSuchQuery.{NoSuchQuery}
use Rattle.query_draw.specs.declared.errors.DrawError.{DrawError}
use Rattle.query_draw.specs.declared.errors.DrawError.TheVariants as draw
use Rattle.workload_text.specs.declared.reader.WorkloadError.{WorkloadError}
use Rattle.workload_text.specs.declared.reader.WorkloadError.TheVariants as workload
use Rattle.edge_match.specs.declared.config_sides.Side.{Side}
use Rattle.edge_match.specs.declared.config_sides.Side.TheVariants as side
use Rattle.edge_match.specs.declared.errors.TooManyStubs.{TooManyStubs}
use Rattle.edge_match.specs.declared.errors.MatchError.{MatchError}
use Rattle.edge_match.specs.declared.errors.MatchError.TheVariants as match
use Rattle.gm_top.specs.declared.outcomes.Outcome.{Outcome}
use Rattle.gm_top.specs.declared.work.Work.{Work}
use Rattle.gm_top.specs.declared.outcomes.Outcome.TheVariants as outcome

abbrev pub status_of : Outcome → ℕ
status_of outcome.Done = 0
status_of outcome.Usage = 2
status_of outcome.InputTooLong = 3
status_of (outcome.Config fault) = 3
status_of (outcome.BadWorkload line rule) = 3
status_of outcome.ReadFault = 4
status_of outcome.WriteFault = 5
status_of outcome.NoMemory = 6
status_of (outcome.NoSuchQuery query shape class) = 7
status_of (outcome.TooManyStubs constraint side total) = 8

-- the word that is printed for a side
abbrev pub side_word : Side → List ℕ
side_word side.Out = codes "out"
side_word side.In = codes "in"

-- the line of a configuration that breaks a rule
abbrev pub broken_line : ℕ → ℕ → List ℕ
broken_line rule index = codes "gmark: configuration breaks rule C" ++ (decimal rule ++ (codes " at " ++ decimal index))

-- the line of a workload text that breaks a rule
abbrev pub bad_line : ℕ → ℕ → List ℕ
bad_line line rule = codes "gmark: workload breaks rule F" ++ (decimal rule ++ (codes " at line " ++ decimal line))

-- the word that is printed for a shape
abbrev pub shape_word : Shape → List ℕ
shape_word shape.Chain = codes "chain"
shape_word shape.Star = codes "star"
shape_word shape.Cycle = codes "cycle"
shape_word shape.StarChain = codes "starchain"

-- the word that is printed for a class
abbrev pub class_word : Class → List ℕ
class_word class.Constant = codes "constant"
class_word class.Linear = codes "linear"
class_word class.Quadratic = codes "quadratic"

-- the line of a query that can't be drawn
abbrev pub missing_line : ℕ → Shape → Class → List ℕ
missing_line query shape class =
    codes "gmark: query " ++ (decimal query ++ (codes ": no " ++ (shape_word shape ++ (codes " of class " ++ class_word class))))

-- the line of a side with too many stubs
abbrev pub stubs_line : ℕ → Side → ℕ → List ℕ
stubs_line constraint side total =
    codes "gmark: constraint " ++ (decimal constraint ++ (codes " " ++ (side_word side ++ (codes ": " ++ (decimal total ++ codes " stubs")))))

abbrev pub line_of : Outcome → List ℕ
line_of outcome.Done = codes "gmark: done"
line_of outcome.Usage = codes "gmark: unknown command line"
line_of outcome.InputTooLong = codes "gmark: input longer than 16777216 bytes"
line_of (outcome.Config fault.NotJson) = codes "gmark: configuration is not JSON"
line_of (outcome.Config (fault.Broken rule index)) = broken_line rule index
line_of (outcome.BadWorkload line rule) = bad_line line rule
line_of outcome.ReadFault = codes "gmark: reading failed"
line_of outcome.WriteFault = codes "gmark: writing failed"
line_of outcome.NoMemory = codes "gmark: out of memory"
line_of (outcome.NoSuchQuery query shape class) = missing_line query shape class
line_of (outcome.TooManyStubs constraint side total) = stubs_line constraint side total

-- outcomes that come only after the whole input was read: all but these
abbrev pub is_after_reading : Outcome → Bool
is_after_reading outcome.Usage = false
is_after_reading outcome.ReadFault = false
is_after_reading outcome.InputTooLong = false
is_after_reading outcome.NoMemory = false
is_after_reading _ = true

-- refusals, which are decided before a file is made: all but these
abbrev pub is_refusal : Outcome → Bool
is_refusal outcome.Done = false
is_refusal outcome.WriteFault = false
is_refusal outcome.NoMemory = false
is_refusal _ = true

-- outcomes that the bytes of an input decide: all but these
abbrev pub is_of_bytes : Outcome → Bool
is_of_bytes outcome.Done = false
is_of_bytes outcome.Usage = false
is_of_bytes outcome.ReadFault = false
is_of_bytes outcome.InputTooLong = false
is_of_bytes outcome.WriteFault = false
is_of_bytes outcome.NoMemory = false
is_of_bytes _ = true

-- what is decided of an input: a work, or an outcome of its bytes
abbrev pub is_decision : Result Work Outcome → Bool
is_decision (Ok work) = true
is_decision (Err outcome) = is_of_bytes outcome

-- outcomes that can come while an input is decided that was read: all but these
abbrev pub is_of_deciding : Outcome → Bool
is_of_deciding outcome.Done = false
is_of_deciding outcome.Usage = false
is_of_deciding outcome.ReadFault = false
is_of_deciding outcome.InputTooLong = false
is_of_deciding outcome.WriteFault = false
is_of_deciding _ = true

-- outcomes that can come before a work is decided: all but these
abbrev pub is_of_input : Outcome → Bool
is_of_input outcome.Done = false
is_of_input outcome.Usage = false
is_of_input outcome.WriteFault = false
is_of_input _ = true

-- outcomes that can come while files are made
abbrev pub is_of_writing : Outcome → Bool
is_of_writing outcome.WriteFault = true
is_of_writing outcome.NoMemory = true
is_of_writing _ = false

-- the outcome of a value that breaks a rule, by its number, at an index
abbrev pub broken_outcome : ℕ × ℕ → Outcome
broken_outcome (rule, index) = outcome.Config (fault.Broken rule index)

-- the outcome where an input could not be read whole
abbrev pub read_outcome : ReadError → Outcome
read_outcome read.ReadFault = outcome.ReadFault
read_outcome read.InputTooLong = outcome.InputTooLong
read_outcome read.NoMemory = outcome.NoMemory

-- the outcome where an input has no configuration
abbrev pub config_outcome : ConfigError → Outcome
config_outcome (config.Fault fault) = outcome.Config fault
config_outcome config.NoMemory = outcome.NoMemory

-- the outcome where an input has no workload
abbrev pub workload_outcome : WorkloadError → Outcome
workload_outcome (workload.BadWorkload line rule) = outcome.BadWorkload line rule
workload_outcome workload.NoMemory = outcome.NoMemory

-- the outcome of a query that can't be drawn
abbrev pub missing_outcome : NoSuchQuery → Outcome
missing_outcome missing = outcome.NoSuchQuery missing.query missing.shape missing.class

-- the outcome where a query isn't drawn
abbrev pub draw_outcome : DrawError → Outcome
draw_outcome (draw.NoSuchQuery missing) = missing_outcome missing
draw_outcome draw.NoMemory = outcome.NoMemory

-- the outcome of a side with too many stubs
abbrev pub stubs_outcome : TooManyStubs → Outcome
stubs_outcome over = outcome.TooManyStubs over.constraint over.side over.total

-- the outcome where a constraint has no edges
abbrev pub match_outcome : MatchError → Outcome
match_outcome (match.TooManyStubs over) = stubs_outcome over
match_outcome match.NoMemory = outcome.NoMemory

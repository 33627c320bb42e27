-- The configuration that a value is.
--   Reads bytes d       JSON has a reading of the bytes, and this is its value
--   config_of d         the configuration of a value that breaks no rule: the values of its members
--   IsTextOf bytes c    the bytes are the text of a configuration
--   BreaksFirst bytes rule index   the value of the bytes breaks this rule first
--   answer_of d         the answer for a value: its configuration, or the first rule that it breaks
use Rattle.std.specs.Prelude.{◌≡◌, ℕ, List, map, None, Some, unwrap_or, Result, Ok, Err, IsUtf8}
use Rattle.std.specs.Option.{option_map_or}
use Rattle.serde_json.specs.Data.{Data}
use Rattle.serde_json.specs.Read.{read}
use Rattle.gm_config.specs.Json.{text}
use Rattle.gm_config.specs.TypeRules.{nodes_of, types, type_name, type_amount}
use Rattle.gm_config.specs.LabelRules.{labels}
use Rattle.gm_config.specs.DegreeSpec.{degree_spec_of}
use Rattle.gm_config.specs.ConstraintRules.{constraints, source_of, label_of, target_of, type_place, label_place, out_of, in_of}
use Rattle.gm_config.specs.WorkloadRules.{workload_of}
use Rattle.gm_config.specs.Rule.{first_broken}
use Rattle.gm_config.specs.Rules.{rules}
use Rattle.gm_config.specs.Config.{ConfigValue}
use Rattle.gm_config.specs.declared.errors.ConfigError.{ConfigError}
use Rattle.gm_config.specs.declared.errors.ConfigError.TheVariants.{Fault}
use Rattle.gm_config.specs.declared.errors.ConfigFault.TheVariants as ConfigFault
use Rattle.gm_config.specs.declared.values.NodeType.{NodeType}
use Rattle.gm_config.specs.declared.values.Constraint.{Constraint}

-- JSON has a reading of the bytes, and this is its value
pub record Reads (bytes : List ℕ) (d : Data) : Type 0 where
  pub utf8 : IsUtf8 bytes
  pub value : read bytes ≡ Some d

-- JSON has no reading of the bytes
abbrev pub HasNoReading : List ℕ → Type 0
HasNoReading bytes = (d : Data) → ¬ Reads bytes d

-- the type that a value is
abbrev pub type_of : Data → NodeType
type_of t = record { name = type_name t; amount = type_amount t }

-- the constraint that a value is, where a configuration has its types and labels
abbrev pub constraint_of : Data → Data → Constraint
constraint_of d c = record {
  source = unwrap_or (type_place d (source_of c)) 0;
  label = unwrap_or (label_place d (label_of c)) 0;
  target = unwrap_or (type_place d (target_of c)) 0;
  out_spec = degree_spec_of (out_of c);
  in_spec = degree_spec_of (in_of c);
}

-- the configuration of a value: the values of its members
abbrev pub config_of : Data → ConfigValue
config_of d = record {
  nodes = unwrap_or (nodes_of d) 0;
  types = map type_of (types d);
  labels = map text (labels d);
  constraints = map (constraint_of d) (constraints d);
  workload = workload_of d;
}

-- the answer for a value: its configuration, or the first rule that it breaks, at its first index
abbrev pub answer_of : Data → Result ConfigValue ConfigError
answer_of d = option_map_or (λ first. Err (Fault (ConfigFault.Broken first.0 first.1))) (first_broken rules d) (Ok (config_of d))

-- the bytes are the text of a configuration
abbrev pub IsTextOf : List ℕ → ConfigValue → Type 0
IsTextOf bytes config = (d : Data) × Reads bytes d × (first_broken rules d ≡ None) × (config ≡ config_of d)

-- the value of the bytes breaks this rule first, at this index
abbrev pub BreaksFirst : List ℕ → ℕ → ℕ → Type 0
BreaksFirst bytes rule index = (d : Data) × Reads bytes d × (first_broken rules d ≡ Some (rule, index))

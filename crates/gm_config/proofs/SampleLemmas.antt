-- The sample's text is read as the sample, which keeps the rules at each of its sizes.
use Rattle.std.proofs.Common.{◌≡◌, ◌≢◌, ℕ, ◌≤◌, List, Option, Some, None, refl, ap, subst, ◌∙◌, arith}
use Rattle.std.specs.Prelude.{option_map, Result, Ok, Err, IsUtf8}
use Rattle.std.proofs.lemmas.Str.{IsUtf8-from_is_utf8}
use Rattle.std.specs.Option.{option_map_or}
use Rattle.std.specs.Str.{is_utf8, chars}
use Rattle.std.specs.Float.Numeral.{scan_numeral}
use lib.Utf8.{encode}
use Rattle.json.specs.Json.{value}
use Rattle.json.specs.Lex.{punctuate, lex}
use Rattle.json.specs.Text.{content}
use Rattle.json.specs.Word.{word, after_number}
use Rattle.serde_json.specs.Data.{Data}
use Rattle.serde_json.specs.Read.{read, number_of}
use Rattle.gm_config.specs.Rule.{first_broken}
use Rattle.gm_config.specs.Rules.{rules}
use Rattle.gm_config.specs.Config.{ConfigValue, IsConfig}
use Rattle.gm_config.specs.Reading.{Reads, config_of, answer_of}
use Rattle.gm_config.specs.declared.errors.ConfigError.{ConfigError}
use Rattle.gm_config.specs.declared.errors.ConfigError.TheVariants.{Fault, NoMemory}
use Rattle.gm_config.specs.declared.errors.ConfigFault.{ConfigFault}
use Rattle.gm_config.specs.Sample.{sample_text, sample_of}
use Rattle.gm_config.proofs.ConfigLemmas.{Keeps-first_broken, IsConfig-config_of}

-- what the rules and the reading make of a value
abbrev judged : Data → Option (ℕ × ℕ) × ConfigValue
judged d = (first_broken rules d, config_of d)

text-judged : option_map judged (read sample_text) ≡ Some (None, sample_of 1)
unfolding number_of value punctuate lex content word after_number scan_numeral
text-judged = refl

text-utf8 : IsUtf8 sample_text
unfolding is_utf8 chars encode
text-utf8 = IsUtf8-from_is_utf8 sample_text refl

judged-value : (o : Option Data) (c : ConfigValue) → option_map judged o ≡ Some (None, c) → (d : Data) × (o ≡ Some d) × (first_broken rules d ≡ None) × (config_of d ≡ c)
judged-value None c is = absurd (cc)
judged-value (Some d) c is =
    let same : judged d ≡ (None, c) = cc in
    (d, refl, ap (λ p. p.0) same, ap (λ p. p.1) same)

pub sample-read : (d : Data) × Reads sample_text d × (first_broken rules d ≡ None) × (config_of d ≡ sample_of 1)
sample-read =
    let (d, is, none, config) = judged-value (read sample_text) (sample_of 1) text-judged in
    (d, record { utf8 = text-utf8; value = is }, none, config)

sample-config : IsConfig (sample_of 1)
sample-config = let (d, reads, none, config) = sample-read in subst IsConfig config (IsConfig-config_of d (Keeps-first_broken d none))

-- all but the number of nodes, and the sum of the nodes of its types, is that of the sample of 1000 nodes
pub IsConfig-sample_of : (k : ℕ) → 1 ≤ k → k ≤ 100 → IsConfig (sample_of k)
IsConfig-sample_of k some few = let one = sample-config in record {
  nodes = record { some = omega arith; few = omega arith };
  types = one.types;
  type_names = one.type_names;
  types_differ = one.types_differ;
  amounts = one.amounts;
  shares = one.shares;
  all_nodes = omega arith;
  labels = one.labels;
  label_names = one.label_names;
  labels_differ = one.labels_differ;
  constraints = one.constraints;
  each_constraint = one.each_constraint;
  constraints_differ = one.constraints_differ;
  workload = one.workload;
}

-- ---- what the call learns of its own text

ok-same : (a : ConfigValue) (broken : Option (ℕ × ℕ)) (b : ConfigValue) → broken ≡ None
    → ◌≡◌ {A = Result ConfigValue ConfigError} (Ok a) (option_map_or (λ first. Err (Fault (ConfigFault.Broken first.0 first.1))) broken (Ok b)) → a ≡ b
ok-same a broken b none told = let same : ◌≡◌ {A = Result ConfigValue ConfigError} (Ok a) (Ok b) = rw none at told in cc

no_err : (fault : ConfigFault) (broken : Option (ℕ × ℕ)) (b : ConfigValue) → broken ≡ None
    → ◌≡◌ {A = Result ConfigValue ConfigError} (Err (Fault fault)) (option_map_or (λ first. Err (Fault (ConfigFault.Broken first.0 first.1))) broken (Ok b)) → ⊥
no_err fault broken b none told = let same : ◌≡◌ {A = Result ConfigValue ConfigError} (Err (Fault fault)) (Ok b) = rw none at told in cc

-- what is answered for a text where memory does not run out
abbrev Answers : List ℕ → Result ConfigValue ConfigError → Type 0
Answers text answer = (d : Data) → Reads text d → answer ≢ Err NoMemory → answer ≡ answer_of d

pub config-sample : (text : List ℕ) (config : ConfigValue) → text ≡ sample_text → Answers text (Ok config) → config ≡ sample_of 1
config-sample text config same answers =
    let (d, reads, none, is) = sample-read in
    ok-same config (first_broken rules d) (config_of d) none (answers d (rw same reads) (λ memory. cc)) ∙ is

pub sample-no_fault : (text : List ℕ) (error : ConfigError) (fault : ConfigFault) → error ≡ Fault fault → text ≡ sample_text → Answers text (Err error) → ⊥
sample-no_fault text error fault faulty same answers =
    let (d, reads, none, is) = sample-read in
    no_err fault (first_broken rules d) (config_of d) none ((rw faulty at answers) d (rw same reads) (λ memory. cc))

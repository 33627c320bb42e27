-- The rules on the labels of edges: rules 10 to 12.
--   labels d   the labels of a configuration
use Rattle.std.specs.Prelude.{ℕ, codes, Bool, List, [], ◌∷◌, length}
use Rattle.std.specs.Str.{bytes_eq}
use Rattle.serde_json.specs.Data.{Data}
use Rattle.gm_text.specs.Name.{is_name}
use Rattle.gm_config.specs.Json.{text, elements_at}
use Rattle.gm_config.specs.Limits.{labels_most}
use Rattle.gm_config.specs.Rule.{Rule, on_value, has_within, holds_at, differs_at}

-- the labels of a configuration
abbrev pub labels : Data → List Data
labels d = elements_at (codes "labels") d

-- two labels are one name
abbrev pub same_label : Data → Data → Bool
same_label l m = bytes_eq (text l) (text m)

-- the labels are an array of at least one and at most so many
abbrev pub rule_10 : Data → Bool
rule_10 d = has_within labels_most (labels d)

-- a label is a name
abbrev pub is_label : Data → Bool
is_label l = is_name (text l)

abbrev pub rule_11 : Data → ℕ → Bool
rule_11 d i = holds_at is_label (labels d) i

-- a label differs from all earlier labels
abbrev pub rule_12 : Data → ℕ → Bool
rule_12 d i = differs_at same_label (labels d) i

-- a rule that is tried on each label
abbrev pub each_label : ℕ → (Data → ℕ → Bool) → Rule
each_label number holds = record { number = number; tries = λ d. length (labels d); holds = holds }

abbrev pub label_rules : List Rule
label_rules = on_value 10 rule_10 ∷ each_label 11 rule_11 ∷ each_label 12 rule_12 ∷ []

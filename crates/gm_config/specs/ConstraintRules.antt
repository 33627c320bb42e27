-- The rules on the constraints, which say how the edges with one label go from one type to one type: rules 13 to 19.
--   constraints d                       the constraints of a configuration
--   source_of c, label_of c, target_of c   the names of a constraint's source type, label and target type
--   type_place d name, label_place d name  the number of the type, or of the label, with a name
--   out_of c, in_of c                   the degree specifications of its two sides
use Rattle.std.specs.Prelude.{ℕ, codes, Bool, not, ◌&&◌, List, [], ◌∷◌, length, position, Option, is_some, unwrap_or}
use Rattle.std.specs.Str.{bytes_eq}
use Rattle.serde_json.specs.Data.{Data, null}
use Rattle.serde_json.specs.Find.{get}
use Rattle.gm_config.specs.Json.{text, text_at, elements_at, has_exactly}
use Rattle.gm_config.specs.Limits.{constraints_most}
use Rattle.gm_config.specs.Rule.{Rule, on_value, has_within, holds_at, differs_at}
use Rattle.gm_config.specs.TypeRules.{types, type_name}
use Rattle.gm_config.specs.LabelRules.{labels}
use Rattle.gm_config.specs.DegreeSpec.{is_degree_spec}

-- the constraints of a configuration
abbrev pub constraints : Data → List Data
constraints d = elements_at (codes "constraints") d

-- the names of a constraint's source type, label and target type
abbrev pub source_of : Data → List ℕ
source_of c = text_at (codes "source") c

abbrev pub label_of : Data → List ℕ
label_of c = text_at (codes "label") c

abbrev pub target_of : Data → List ℕ
target_of c = text_at (codes "target") c

-- the number of the type with a name
abbrev pub type_place : Data → List ℕ → Option ℕ
type_place d name = position (λ t. bytes_eq (type_name t) name) (types d)

-- the number of the label with a name
abbrev pub label_place : Data → List ℕ → Option ℕ
label_place d name = position (λ l. bytes_eq (text l) name) (labels d)

-- the degree specifications of a constraint's two sides, `null` where there is none
abbrev pub out_of : Data → Data
out_of c = unwrap_or (get (codes "out") c) null

abbrev pub in_of : Data → Data
in_of c = unwrap_or (get (codes "in") c) null

-- the constraints are an array of at least one and at most so many
abbrev pub rule_13 : Data → Bool
rule_13 d = has_within constraints_most (constraints d)

-- a constraint is an object with exactly these members
abbrev pub is_constraint : Data → Bool
is_constraint c = has_exactly (codes "source" ∷ codes "label" ∷ codes "target" ∷ codes "out" ∷ codes "in" ∷ []) c

abbrev pub rule_14 : Data → ℕ → Bool
rule_14 d i = holds_at is_constraint (constraints d) i

-- a constraint's ends name types, and its label names a label
abbrev pub has_known_names : Data → Data → Bool
has_known_names d c = is_some (type_place d (source_of c)) && is_some (label_place d (label_of c)) && is_some (type_place d (target_of c))

abbrev pub rule_15 : Data → ℕ → Bool
rule_15 d i = holds_at (has_known_names d) (constraints d) i

-- two constraints have one source, one label and one target
abbrev pub same_names : Data → Data → Bool
same_names b c = bytes_eq (source_of b) (source_of c) && bytes_eq (label_of b) (label_of c) && bytes_eq (target_of b) (target_of c)

-- a constraint's three names differ from those of all earlier constraints
abbrev pub rule_16 : Data → ℕ → Bool
rule_16 d i = differs_at same_names (constraints d) i

-- the out side has a degree specification
abbrev pub has_out_spec : Data → Bool
has_out_spec c = is_degree_spec (out_of c)

abbrev pub rule_17 : Data → ℕ → Bool
rule_17 d i = holds_at has_out_spec (constraints d) i

-- the in side has a degree specification
abbrev pub has_in_spec : Data → Bool
has_in_spec c = is_degree_spec (in_of c)

abbrev pub rule_18 : Data → ℕ → Bool
rule_18 d i = holds_at has_in_spec (constraints d) i

-- a degree specification is free: its kind says so
abbrev pub is_free : Data → Bool
is_free spec = bytes_eq (text_at (codes "kind") spec) (codes "free")

-- one of the two sides is not free
abbrev pub has_bound_side : Data → Bool
has_bound_side c = not (is_free (out_of c) && is_free (in_of c))

abbrev pub rule_19 : Data → ℕ → Bool
rule_19 d i = holds_at has_bound_side (constraints d) i

-- a rule that is tried on each constraint
abbrev pub each_constraint : ℕ → (Data → ℕ → Bool) → Rule
each_constraint number holds = record { number = number; tries = λ d. length (constraints d); holds = holds }

abbrev pub constraint_rules : List Rule
constraint_rules =
    on_value 13 rule_13
    ∷ each_constraint 14 rule_14
    ∷ each_constraint 15 rule_15
    ∷ each_constraint 16 rule_16
    ∷ each_constraint 17 rule_17
    ∷ each_constraint 18 rule_18
    ∷ each_constraint 19 rule_19
    ∷ []

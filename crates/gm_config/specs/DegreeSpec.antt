-- Degree specifications: how the degrees of the nodes of a type are drawn.
--   is_of_kind kind members d     an object with this kind, these members and no others
--   degree_spec_in d              the specification that a value is: one of the rows below
--   is_degree_spec d              there is one
--   degree_spec_of d              that one, `Free` where there is none
--   IsDegreeSpec spec             its numbers are in their limits
use Rattle.std.specs.Prelude.{ℕ, ◌+◌, ◌<◌, ◌≤◌, sum, Bool, ◌&&◌, nat_le, List, [], ◌∷◌, length, codes, if◌then◌else◌, Option, Some, None, option_map, option_and_then, unwrap_or, is_some, IfSome, ⊤}
use Rattle.std.specs.List.{list_all, list_any, filter_map, All}
use Rattle.std.specs.Option.{option_or}
use Rattle.std.specs.Str.{bytes_eq}
use Rattle.serde_json.specs.Data.{Data}
use Rattle.gm_config.specs.Limits.{degree_most, exponent_most, weight_most, weights_most}
use Rattle.gm_config.specs.Json.{text_at, number, number_at, elements_at, has_exactly}
use Rattle.gm_config.specs.declared.degree_specs.DegreeSpec.{DegreeSpec}
use Rattle.gm_config.specs.declared.degree_specs.DegreeSpec.TheVariants.{Uniform, Bell, Zipf, Table, Free}

-- an object with this kind, these members and no others
abbrev pub is_of_kind : List ℕ → List (List ℕ) → Data → Bool
is_of_kind kind members d = bytes_eq (text_at (codes "kind") d) kind && has_exactly (codes "kind" ∷ members) d

-- `max` in its limit, and `min` at most `max`
abbrev pub uniform_in : Data → Option DegreeSpec
uniform_in d = if is_of_kind (codes "uniform") (codes "min" ∷ codes "max" ∷ []) d
    then option_and_then (λ max. option_map (λ min. Uniform min max) (number_at (codes "min") 0 max d)) (number_at (codes "max") 0 degree_most d)
    else None

-- the bell whose farthest degree is in the limit
abbrev pub bell_within : ℕ → ℕ → Option DegreeSpec
bell_within center width = if nat_le (center + width) degree_most then Some (Bell center width) else None

-- `center` and `width` with a sum in the limit
abbrev pub bell_in : Data → Option DegreeSpec
bell_in d = if is_of_kind (codes "bell") (codes "center" ∷ codes "width" ∷ []) d
    then option_and_then (λ center. option_and_then (bell_within center) (number_at (codes "width") 0 degree_most d)) (number_at (codes "center") 0 degree_most d)
    else None

-- a small `exponent`
abbrev pub zipf_in : Data → Option DegreeSpec
zipf_in d = if is_of_kind (codes "zipf") (codes "exponent" ∷ []) d
    then option_map (λ exponent. Zipf exponent None) (number_at (codes "exponent") 1 exponent_most d)
    else None

-- a small `exponent`, and `max` in its limit but not 0
abbrev pub zipf_to_max_in : Data → Option DegreeSpec
zipf_to_max_in d = if is_of_kind (codes "zipf") (codes "exponent" ∷ codes "max" ∷ []) d
    then option_and_then (λ exponent. option_map (λ max. Zipf exponent (Some max)) (number_at (codes "max") 1 degree_most d)) (number_at (codes "exponent") 1 exponent_most d)
    else None

-- numbers in their limit, at least one of them and not too many, and not all 0
abbrev pub are_weights : List Data → Bool
are_weights ds = nat_le 1 (length ds) && nat_le (length ds) weights_most
    && list_all (λ d. is_some (number 0 weight_most d)) ds && list_any (λ d. is_some (number 1 weight_most d)) ds

-- those numbers
abbrev pub weights_of : List Data → List ℕ
weights_of ds = filter_map (number 0 weight_most) ds

-- `weights` is an array of weights
abbrev pub table_in : Data → Option DegreeSpec
table_in d = if is_of_kind (codes "table") (codes "weights" ∷ []) d && are_weights (elements_at (codes "weights") d)
    then Some (Table (weights_of (elements_at (codes "weights") d)))
    else None

-- nothing but the kind
abbrev pub free_in : Data → Option DegreeSpec
free_in d = if is_of_kind (codes "free") [] d then Some Free else None

-- a specification that is no table
abbrev pub plain_in : Data → Option DegreeSpec
plain_in d = option_or (uniform_in d) (option_or (bell_in d) (option_or (zipf_in d) (option_or (zipf_to_max_in d) (free_in d))))

-- the specification that a value is
abbrev pub degree_spec_in : Data → Option DegreeSpec
degree_spec_in d = option_or (plain_in d) (table_in d)

-- the value is a specification
abbrev pub is_degree_spec : Data → Bool
is_degree_spec d = is_some (degree_spec_in d)

-- that specification, `Free` where there is none
abbrev pub degree_spec_of : Data → DegreeSpec
degree_spec_of d = unwrap_or (degree_spec_in d) Free

-- weights in their limit, at least one of them and not too many, and not all 0
pub record AreWeights (weights : List ℕ) : Type 0 where
  pub some : 1 ≤ length weights
  pub few : length weights ≤ weights_most
  pub small : All (λ weight. weight ≤ weight_most) weights
  pub positive : 0 < sum weights

-- the numbers of a specification are in their limits
abbrev pub IsDegreeSpec : DegreeSpec → Type 0
IsDegreeSpec (Uniform min max) = (min ≤ max) × (max ≤ degree_most)
IsDegreeSpec (Bell center width) = center + width ≤ degree_most
IsDegreeSpec (Zipf exponent max) = (1 ≤ exponent) × (exponent ≤ exponent_most) × IfSome max (λ most. (1 ≤ most) × (most ≤ degree_most))
IsDegreeSpec (Table weights) = AreWeights weights
IsDegreeSpec Free = ⊤

-- The workload of a configuration: what is asked of its queries.
--   shape_named, class_named      the shape or class of a name
--   are_shapes, are_classes       an array of different names
--   range_within least most ds    the two numbers of a range that begins and ends within limits
--   range_at i workload           the range with a number: of rules, conjuncts, disjuncts, length or arity
--   rule_20 d .. rule_24 d        the rules on the member `workload` of a whole value
--   KeepsWorkloadRules d          all of them hold
--   workload_of d                 the workload that the member is
--   IsWorkload workload           what the rules say of it
use Rattle.std.specs.Prelude.{◌≡◌, ◌≢◌, ℕ, ◌<◌, ◌≤◌, Bool, true, false, not, ◌&&◌, ◌||◌, ◌==◌, nat_le, List, [], ◌∷◌, length, slice_get, codes, if◌then◌else◌, Option, Some, None, option_map, option_and_then, unwrap_or, is_some, IfSome, Contains, AllPairs}
use Rattle.std.specs.List.{list_all, list_any, filter_map}
use Rattle.std.specs.Option.{option_map_or}
use Rattle.std.specs.Str.{bytes_eq}
use Rattle.serde_json.specs.Data.{Data, null}
use Rattle.serde_json.specs.Find.{get}
use Rattle.sel_algebra.specs.declared.vocabulary.Shape.{Shape}
use Rattle.sel_algebra.specs.declared.vocabulary.Shape.TheVariants.{Chain, Star, Cycle, StarChain}
use Rattle.sel_algebra.specs.declared.vocabulary.Class.{Class}
use Rattle.sel_algebra.specs.declared.vocabulary.Class.TheVariants.{Constant, Linear, Quadratic}
use Rattle.gm_config.specs.Json.{text, number, number_at, elements, elements_at, has_exactly}
use Rattle.gm_config.specs.Limits.{queries_most, star_most, shapes_most, classes_most, RangeLimits, range_limits}
use Rattle.gm_config.specs.Rule.{Rule, on_value}
use Rattle.gm_config.specs.declared.workload_rules.Range.{Range}
use Rattle.gm_config.specs.declared.workload_rules.Workload.{Workload}

-- ---- shapes and classes

-- the shape with a name
abbrev pub shape_named : List ℕ → Option Shape
shape_named name = if bytes_eq name (codes "chain") then Some Chain
    else (if bytes_eq name (codes "star") then Some Star
    else (if bytes_eq name (codes "cycle") then Some Cycle
    else (if bytes_eq name (codes "starchain") then Some StarChain
    else None)))

-- the class with a name
abbrev pub class_named : List ℕ → Option Class
class_named name = if bytes_eq name (codes "constant") then Some Constant
    else (if bytes_eq name (codes "linear") then Some Linear
    else (if bytes_eq name (codes "quadratic") then Some Quadratic
    else None))

-- the shape whose name a value is
abbrev pub shape_in : Data → Option Shape
shape_in d = shape_named (text d)

-- the class whose name a value is
abbrev pub class_in : Data → Option Class
class_in d = class_named (text d)

-- no text is that of a later value
abbrev pub are_different : List Data → Bool
are_different [] = true
are_different (d ∷ ds) = not (list_any (λ later. bytes_eq (text later) (text d)) ds) && are_different ds

-- different names of choices, at least one
abbrev pub are_choices : {A : Type 0} → (Data → Option A) → ℕ → List Data → Bool
are_choices choice most ds = nat_le 1 (length ds) && nat_le (length ds) most && list_all (λ d. is_some (choice d)) ds && are_different ds

-- different names of shapes, at least one
abbrev pub are_shapes : List Data → Bool
are_shapes ds = are_choices shape_in shapes_most ds

-- different names of classes, at least one
abbrev pub are_classes : List Data → Bool
are_classes ds = are_choices class_in classes_most ds

-- ---- ranges

-- two numbers, the first at least so small and at most the second, and the second at most so great
abbrev pub range_within : ℕ → ℕ → List Data → Option Range
range_within least most (first ∷ last ∷ []) =
    option_and_then (λ greatest. option_map (λ smallest. record { least = smallest; most = greatest }) (number least greatest first)) (number least most last)
range_within least most _ = None

-- exactly two
abbrev pub pair : Range
pair = record { least = 2; most = 2 }

-- the range at a member, and exactly two where there is no such member
abbrev pub range_in : RangeLimits → Data → Option Range
range_in limits workload = option_map_or (λ d. range_within limits.least limits.most (elements d)) (get limits.name workload) (Some pair)

-- the range under the limits at a place
abbrev pub range_under : List RangeLimits → ℕ → Data → Option Range
range_under table i workload = option_and_then (λ limits. range_in limits workload) (slice_get table i)

-- the range with a number
abbrev pub range_at : ℕ → Data → Option Range
range_at i workload = range_under range_limits i workload

-- ---- the rules on the member's value

-- the members of a workload, of which `arity` may be missing
abbrev pub members : List (List ℕ)
members = codes "queries" ∷ codes "shapes" ∷ codes "classes" ∷ codes "star" ∷ codes "rules" ∷ codes "conjuncts" ∷ codes "disjuncts" ∷ codes "length" ∷ []

abbrev pub has_workload_members : Data → Bool
has_workload_members workload = has_exactly members workload || has_exactly (codes "arity" ∷ members) workload

-- `queries` and `star` are numbers in their limits
abbrev pub has_numbers : Data → Bool
has_numbers workload = is_some (number_at (codes "queries") 0 queries_most workload) && is_some (number_at (codes "star") 0 star_most workload)

-- index 0 is `shapes`, and 1 is `classes`
abbrev pub has_choices : ℕ → Data → Bool
has_choices i workload = if i == 0 then are_shapes (elements_at (codes "shapes") workload) else are_classes (elements_at (codes "classes") workload)

-- there may be two conjuncts
abbrev pub allows_two_conjuncts : Data → Bool
allows_two_conjuncts workload = option_map_or (λ range. nat_le 2 range.most) (range_at 1 workload) false

-- where a shape is the cycle, there may be two conjuncts
abbrev pub allows_cycles : Data → Bool
allows_cycles workload = not (list_any (λ d. bytes_eq (text d) (codes "cycle")) (elements_at (codes "shapes") workload))
    || allows_two_conjuncts workload

-- the rules hold of the member's value at each index
pub record KeepsRules (workload : Data) : Type 0 where
  pub members : has_workload_members workload ≡ true
  pub numbers : has_numbers workload ≡ true
  pub choices : (i : ℕ) → i < 2 → has_choices i workload ≡ true
  pub ranges : (i : ℕ) → i < length range_limits → is_some (range_at i workload) ≡ true
  pub cycles : allows_cycles workload ≡ true

-- ---- the rules on a whole value

-- the member `workload` passes a test
abbrev pub has_workload : (Data → Bool) → Data → Bool
has_workload test d = option_map_or test (get (codes "workload") d) false

abbrev pub rule_20 : Data → Bool
rule_20 d = has_workload has_workload_members d

abbrev pub rule_21 : Data → Bool
rule_21 d = has_workload has_numbers d

abbrev pub rule_22 : Data → ℕ → Bool
rule_22 d i = has_workload (has_choices i) d

abbrev pub rule_23 : Data → ℕ → Bool
rule_23 d i = has_workload (λ workload. is_some (range_at i workload)) d

abbrev pub rule_24 : Data → Bool
rule_24 d = has_workload allows_cycles d

abbrev pub workload_rules : List Rule
workload_rules =
    on_value 20 rule_20
    ∷ on_value 21 rule_21
    ∷ record { number = 22; tries = λ d. 2; holds = rule_22 }
    ∷ record { number = 23; tries = λ d. length range_limits; holds = rule_23 }
    ∷ on_value 24 rule_24
    ∷ []

-- the rules hold of a whole value at each index
pub record KeepsWorkloadRules (d : Data) : Type 0 where
  pub members : rule_20 d ≡ true
  pub numbers : rule_21 d ≡ true
  pub choices : (i : ℕ) → i < 2 → rule_22 d i ≡ true
  pub ranges : (i : ℕ) → i < length range_limits → rule_23 d i ≡ true
  pub cycles : rule_24 d ≡ true

-- ---- the value

-- the range with a number, exactly two where it is none
abbrev pub range_of : ℕ → Data → Range
range_of i workload = unwrap_or (range_at i workload) pair

-- the format of its text: 2 where it has the member `arity`, and else 1
abbrev pub format_of : Data → ℕ
format_of workload = if is_some (get (codes "arity") workload) then 2 else 1

-- the workload that a value is
abbrev pub workload_in : Data → Workload
workload_in workload = record {
  queries = unwrap_or (number_at (codes "queries") 0 queries_most workload) 0;
  shapes = filter_map shape_in (elements_at (codes "shapes") workload);
  classes = filter_map class_in (elements_at (codes "classes") workload);
  star = unwrap_or (number_at (codes "star") 0 star_most workload) 0;
  rules = range_of 0 workload;
  conjuncts = range_of 1 workload;
  disjuncts = range_of 2 workload;
  length = range_of 3 workload;
  arity = range_of 4 workload;
  format = format_of workload;
}

-- the workload that the member `workload` is
abbrev pub workload_of : Data → Workload
workload_of d = workload_in (unwrap_or (get (codes "workload") d) null)

-- at least one and at most so many, all different
pub record AreChoices {A : Type 0} (most : ℕ) (choices : List A) : Type 0 where
  pub some : 1 ≤ length choices
  pub few : length choices ≤ most
  pub different : AllPairs (λ a b. a ≢ b) choices

-- from at least so little to at most so much
pub record IsRange (least most : ℕ) (range : Range) : Type 0 where
  pub above : least ≤ range.least
  pub ordered : range.least ≤ range.most
  pub small : range.most ≤ most

-- a range within the limits of the range with a number
abbrev pub IsRangeAt : ℕ → Range → Type 0
IsRangeAt i range = IfSome (slice_get range_limits i) (λ limits. IsRange limits.least limits.most range)

-- format 1, in which each query has exactly two heads, or format 2
pub record IsFormat (arity : Range) (format : ℕ) : Type 0 where
  pub least : 1 ≤ format
  pub most : format ≤ 2
  pub pairs : format ≡ 1 → arity ≡ pair

-- the numbers of a workload are in their limits, and where a shape is the cycle, there may be two conjuncts
pub record IsWorkload (workload : Workload) : Type 0 where
  pub queries : workload.queries ≤ queries_most
  pub star : workload.star ≤ star_most
  pub shapes : AreChoices shapes_most workload.shapes
  pub classes : AreChoices classes_most workload.classes
  pub rules : IsRangeAt 0 workload.rules
  pub conjuncts : IsRangeAt 1 workload.conjuncts
  pub disjuncts : IsRangeAt 2 workload.disjuncts
  pub words : IsRangeAt 3 workload.length
  pub arity : IsRangeAt 4 workload.arity
  pub format : IsFormat workload.arity workload.format
  pub cycles : Contains workload.shapes Cycle → 2 ≤ workload.conjuncts.most

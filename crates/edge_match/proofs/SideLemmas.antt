-- Which sides are free, and what the limit says of the others.
use Rattle.std.proofs.Common.{◌≡◌, ℕ, ◌<◌, ◌≤◌, Bool, true, false, cond, nat_lt, List, length, Option, Some, None, is_some, refl, ◌∙◌, arith}
use Rattle.std.specs.Option.{option_or}
use Rattle.std.proofs.lemmas.Bool.Decides.{nat_tests}
use Rattle.std.proofs.lemmas.List.{length-map}
use Rattle.std.proofs.lemmas.List.FromFn.{length-range_with_len}
use Rattle.std.specs.List.{range_with_len}
use Rattle.seeded_draw.specs.Draw.{stream_of}
use Rattle.gm_config.specs.Config.{ConfigValue, IsConfig, IsConstraint}
use Rattle.gm_config.specs.declared.degree_specs.DegreeSpec.{DegreeSpec}
use Rattle.gm_config.specs.declared.degree_specs.DegreeSpec.TheVariants.{Uniform, Bell, Zipf, Table, Free}
use Rattle.edge_match.specs.declared.config_sides.Side.{Side}
use Rattle.edge_match.specs.declared.config_sides.Side.TheVariants.{Out, In}
use Rattle.edge_match.specs.declared.errors.TooManyStubs.{TooManyStubs}
use Rattle.edge_match.specs.ConfigSides.{opposite, no_constraint, constraint_at, is_free_spec, is_free, side_count}
use Rattle.edge_match.specs.DrawnDegrees.{degree_tag, pick_tag, table_degrees, table_total, side_degrees, side_total}
use Rattle.edge_match.specs.FreeSide.{picked_degree}
use Rattle.edge_match.specs.StubLimit.{stubs_most}
use Rattle.edge_match.specs.Limit.{side_over, first_side_over}
use Rattle.edge_match.proofs.DrawingLemmas.{length-degrees_by}

is_free_spec-true : (spec : DegreeSpec) → is_free_spec spec ≡ true → spec ≡ Free
is_free_spec-true (Uniform _ _) free = absurd (cc)
is_free_spec-true (Bell _ _) free = absurd (cc)
is_free_spec-true (Zipf _ _) free = absurd (cc)
is_free_spec-true (Table _) free = absurd (cc)
is_free_spec-true Free free = refl

is_free_spec-false : (spec : DegreeSpec) → (is_free_spec spec ≡ true → ⊥) → is_free_spec spec ≡ false
is_free_spec-false (Uniform _ _) not_free = refl
is_free_spec-false (Bell _ _) not_free = refl
is_free_spec-false (Zipf _ _) not_free = refl
is_free_spec-false (Table _) not_free = refl
is_free_spec-false Free not_free = absurd (not_free refl)

-- the rules of a constraint hold of each
pub IsConstraint-constraint_at : (config : ConfigValue) (c : ℕ) → IsConfig config → c < length config.constraints
    → IsConstraint (length config.types) (length config.labels) (constraint_at config c)
IsConstraint-constraint_at config c rules known = rules.each_constraint c no_constraint known

-- one side of a constraint is not free
pub is_free-opposite : (config : ConfigValue) (c : ℕ) (side : Side) → IsConfig config → c < length config.constraints
    → is_free config c side ≡ true → is_free config c (opposite side) ≡ false
is_free-opposite config c Out rules known free =
    let bound = (IsConstraint-constraint_at config c rules known).bound in
    is_free_spec-false _ (λ other. bound (is_free_spec-true _ free) (is_free_spec-true _ other))
is_free-opposite config c In rules known free =
    let bound = (IsConstraint-constraint_at config c rules known).bound in
    is_free_spec-false _ (λ other. bound (is_free_spec-true _ other) (is_free_spec-true _ free))

option_or-None : {A : Type 0} (a b : Option A) → option_or a b ≡ None → (a ≡ None) × (b ≡ None)
option_or-None None b none = (refl, none)
option_or-None (Some x) b none = absurd (cc)

not_above : (free : Bool) (most total : ℕ) (report : TooManyStubs) → free ≡ false
    → cond free None (cond (nat_lt most total) (Some report) None) ≡ None → total ≤ most
not_above free most total report drawn none = grind (arith, nat_tests)

few_enough : (free : Bool) (most total : ℕ) (report : TooManyStubs) → free ≡ false → total ≤ most
    → cond free None (cond (nat_lt most total) (Some report) None) ≡ None
few_enough free most total report drawn few = grind (arith, nat_tests)

-- a side with few stubs has no report
pub side_over-few : (config : ConfigValue) (seed c : ℕ) (side : Side) → is_free config c side ≡ false
    → table_total config seed c side ≤ stubs_most → side_over config seed c side ≡ None
side_over-few config seed c side drawn few = few_enough _ stubs_most _ _ drawn few

pub is_some-false : {A : Type 0} (o : Option A) → is_some o ≡ false → o ≡ None
is_some-false None none = refl
is_some-false (Some x) none = absurd (cc)

-- a side that is not free has few stubs, where no side of its constraint is over the limit
pub table_total-within : (config : ConfigValue) (seed c : ℕ) (side : Side) → first_side_over config seed c ≡ None
    → is_free config c side ≡ false → table_total config seed c side ≤ stubs_most
table_total-within config seed c Out none drawn =
    not_above _ stubs_most _ _ drawn (option_or-None (side_over config seed c Out) (side_over config seed c In) none).0
table_total-within config seed c In none drawn =
    not_above _ stubs_most _ _ drawn (option_or-None (side_over config seed c Out) (side_over config seed c In) none).1

pub side_degrees-drawn : (config : ConfigValue) (seed c : ℕ) (side : Side) → is_free config c side ≡ false
    → side_degrees config seed c side ≡ table_degrees config seed c side
side_degrees-drawn config seed c side drawn = rw drawn refl

pub side_total-drawn : (config : ConfigValue) (seed c : ℕ) (side : Side) → is_free config c side ≡ false
    → side_total config seed c side ≡ table_total config seed c side
side_total-drawn config seed c side drawn = rw drawn refl

length-cond : (b : Bool) (xs ys : List ℕ) (n : ℕ) → length xs ≡ n → length ys ≡ n → length (cond b xs ys) ≡ n
length-cond true xs ys n yes_count no_count = yes_count
length-cond false xs ys n yes_count no_count = no_count

-- each node of a side has a degree
pub length-side_degrees : (config : ConfigValue) (seed c : ℕ) (side : Side)
    → length (side_degrees config seed c side) ≡ side_count config c side
unfolding table_degrees
length-side_degrees config seed c side =
    length-cond (is_free config c side) _ _ _
    (length-map (range_with_len 0 (side_count config c side)) (picked_degree seed (stream_of (pick_tag side) c 0) (side_count config c side) (table_total config seed c (opposite side))) ∙ length-range_with_len 0 (side_count config c side))
    (length-degrees_by _ seed (stream_of (degree_tag side) c 0) (side_count config c side))

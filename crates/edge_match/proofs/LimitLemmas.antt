-- The first side above the limit.
use Rattle.std.proofs.Common.{◌≡◌, ℕ, ◌<◌, ◌⊎◌, Bool, true, false, cond, length, Option, Some, None, is_some, inl, inr, refl, ap, sym, subst}
use Rattle.std.specs.Prelude.{MatchOption, nat_lt}
use Rattle.std.specs.Option.{option_or}
use Rattle.gm_config.specs.Config.{ConfigValue}
use Rattle.edge_match.specs.declared.config_sides.Side.{Side}
use Rattle.edge_match.specs.declared.config_sides.Side.TheVariants.{Out, In}
use Rattle.edge_match.specs.declared.errors.TooManyStubs.{TooManyStubs}
use Rattle.edge_match.specs.ConfigSides.{is_free}
use Rattle.edge_match.specs.DrawnDegrees.{table_total}
use Rattle.edge_match.specs.StubLimit.{stubs_most}
use Rattle.edge_match.specs.Limit.{side_over, first_side_over, IsFirstOver}

reported : (free above : Bool) (here report : TooManyStubs) → cond free None (cond above (Some here) None) ≡ Some report → here ≡ report
reported true above here report is = absurd (cc)
reported false false here report is = absurd (cc)
reported false true here report is = cc

option_or-Some : {A : Type 0} (a b : Option A) (x : A) → option_or a b ≡ Some x → (a ≡ Some x) ⊎ (b ≡ Some x)
option_or-Some None b x is = inr is
option_or-Some (Some y) b x is = inl is

constraint-side_over : (config : ConfigValue) (seed c : ℕ) (side : Side) (report : TooManyStubs) → side_over config seed c side ≡ Some report
    → report.constraint ≡ c
constraint-side_over config seed c side report is =
    let total = table_total config seed c side in
    sym (ap (λ (r : TooManyStubs). r.constraint) (reported (is_free config c side) (nat_lt stubs_most total) (record { constraint = c; side = side; total = total }) report is))

constraint-first_side_over : (config : ConfigValue) (seed c : ℕ) (report : TooManyStubs) → first_side_over config seed c ≡ Some report
    → report.constraint ≡ c
constraint-first_side_over config seed c report is =
    elim (option_or-Some (side_over config seed c Out) (side_over config seed c In) report is) [
      | inl out ↦ constraint-side_over config seed c Out report out
      | inr in' ↦ constraint-side_over config seed c In report in'
    ]

-- the first constraint with a side above the limit tells the first of them
pub IsFirstOver-here : (config : ConfigValue) (seed c : ℕ) (report : TooManyStubs) → c < length config.constraints
    → first_side_over config seed c ≡ Some report → ((b : ℕ) → b < c → first_side_over config seed b ≡ None)
    → IsFirstOver config seed report
IsFirstOver-here config seed c report known here before =
    let same = constraint-first_side_over config seed c report here in
    let tells : ℕ → Type 0 = λ b. first_side_over config seed b ≡ Some report in
    record { constraint = rw same known; here = subst tells (sym same) here; before = rw same before }

pub MatchOption-is_some : {A : Type 0} (o : Option A) (P : Type 0) (Q : A → Type 0) → is_some o ≡ true
    → ((x : A) → o ≡ Some x → Q x) → MatchOption o P Q
MatchOption-is_some None P Q some each = absurd (cc)
MatchOption-is_some (Some x) P Q some each = each x refl

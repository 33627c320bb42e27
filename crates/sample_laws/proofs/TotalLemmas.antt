-- The stubs of the sample's sides.
use Rattle.std.proofs.Common.{◌≡◌, ◌≢◌, ℕ, zero, suc, ◌+◌, ◌*◌, ◌^◌, ◌<◌, ◌≤◌, ◌==◌, Bool, true, false, cond, nat_lt, sum, Option, Some, None, inl, inr, refl, subst, arith}
use Rattle.std.specs.List.{range_with_len, sum_by}
use Rattle.std.specs.Option.{option_or}
use Rattle.std.proofs.lemmas.Bool.{cases_Bool}
use Rattle.std.proofs.lemmas.Bool.Decides.{nat_tests}
use Rattle.std.proofs.lemmas.List.FromFn.{length-range_with_len}
use Rattle.std.proofs.lemmas.List.Sums.{sum-map, sum_by-le}
use Rattle.seeded_draw.specs.Draw.{word, stream_of, pick_of}
use Rattle.seeded_draw.proofs.WordLemmas.{word-below}
use Rattle.candidates.proofs.PickLemmas.{pick_of-below}
use Rattle.gm_config.specs.Config.{ConfigValue}
use Rattle.gm_config.specs.DegreeSpec.{IsDegreeSpec}
use Rattle.gm_config.specs.Sample.{sample_of}
use Rattle.gm_config.specs.declared.degree_specs.DegreeSpec.{DegreeSpec}
use Rattle.gm_config.specs.declared.degree_specs.DegreeSpec.TheVariants.{Free}
use Rattle.gm_config.proofs.SampleLemmas.{IsConfig-sample_of}
use Rattle.degree_table.specs.DegreeTable.{end_of, weights_of, table_of}
use Rattle.degree_table.proofs.SumLemmas.{Lies-position_or_len}
use Rattle.degree_table.proofs.WeightLemmas.{end_of-few, length-weights_of, sum-weights_of-positive}
use Rattle.edge_match.specs.declared.config_sides.Side.{Side}
use Rattle.edge_match.specs.declared.config_sides.Side.TheVariants.{Out, In}
use Rattle.edge_match.specs.declared.errors.TooManyStubs.{TooManyStubs}
use Rattle.edge_match.specs.ConfigSides.{opposite, no_constraint, is_free_spec, side_spec, is_free, side_count}
use Rattle.edge_match.specs.DrawnDegrees.{degree_tag, degree_by, degrees_by, table_degrees, table_total, side_total}
use Rattle.edge_match.specs.StubLimit.{stubs_most}
use Rattle.edge_match.specs.Limit.{side_over, IsWithinLimit}
use Rattle.edge_match.proofs.SideLemmas.{is_free-opposite}
use Rattle.sample_laws.specs.Laws.{sample_total_most}

-- ---- the totals of any configuration

not_free : (spec : DegreeSpec) → is_free_spec spec ≡ false → spec ≢ Free
not_free spec drawn free = absurd (let same : true ≡ false = subst (λ s. is_free_spec s ≡ false) free drawn in cc)

-- a degree that a word picks is less than the end of its table
degree_by-most : (spec : DegreeSpec) (others most w : ℕ) → IsDegreeSpec spec → spec ≢ Free → end_of spec others ≤ most + 1 → w < 2 ^ 64
    → degree_by (table_of spec others) w ≤ most
degree_by-most spec others most w is drawn end below =
    let weights = weights_of spec others in
    let lies = Lies-position_or_len weights (pick_of w (sum weights)) (pick_of-below w (sum weights) below (sum-weights_of-positive spec others is drawn)) in
    omega (arith, lies.within, length-weights_of spec others, (end_of-few spec others is).0, end)

-- the total of a side that is not free is at most as many times the greatest degree as the side has nodes
table_total-most : (config : ConfigValue) (seed c : ℕ) (side : Side) (most : ℕ) → IsDegreeSpec (side_spec config c side) → side_spec config c side ≢ Free
    → end_of (side_spec config c side) (side_count config c (opposite side)) ≤ most + 1 → table_total config seed c side ≤ side_count config c side * most
unfolding table_degrees degrees_by
table_total-most config seed c side most is drawn end =
    let spec = side_spec config c side in
    let others = side_count config c (opposite side) in
    let count = side_count config c side in
    let stream = stream_of (degree_tag side) c 0 in
    let degree : ℕ → ℕ = λ i. degree_by (table_of spec others) (word seed stream i) in
    let all = sum_by-le degree most (range_with_len 0 count) (λ i d _. degree_by-most spec others most (word seed stream _) is drawn end (word-below seed stream _)) in
    let total : table_total config seed c side ≡ sum_by degree (range_with_len 0 count) = sum-map degree (range_with_len 0 count) in
    rw total (rw (length-range_with_len 0 count) at all)

-- ---- the totals of the sample

IsDegreeSpec-sample_of : (k c : ℕ) (side : Side) → c < 4 → IsDegreeSpec (side_spec (sample_of k) c side)
IsDegreeSpec-sample_of k c Out known = ((IsConfig-sample_of 1 (omega arith) (omega arith)).each_constraint c no_constraint known).out_spec
IsDegreeSpec-sample_of k c In known = ((IsConfig-sample_of 1 (omega arith) (omega arith)).each_constraint c no_constraint known).in_spec

-- so many times the greatest degree is an upper bound of the total of a side of the sample that is not free
sample_total-most : (k seed c : ℕ) (side : Side) (most : ℕ) → c < 4 → is_free (sample_of k) c side ≡ false
    → end_of (side_spec (sample_of k) c side) (side_count (sample_of k) c (opposite side)) ≤ most + 1
    → table_total (sample_of k) seed c side ≤ side_count (sample_of k) c side * most
sample_total-most k seed c side most known drawn = table_total-most (sample_of k) seed c side most (IsDegreeSpec-sample_of k c side known) (not_free (side_spec (sample_of k) c side) drawn)

-- no side that is not free has a great total
table_total-small : (k seed c : ℕ) (side : Side) → k ≤ 100 → c < 4 → is_free (sample_of k) c side ≡ false → table_total (sample_of k) seed c side ≤ sample_total_most
table_total-small k seed zero Out few known drawn = omega (arith, few, sample_total-most k seed 0 Out 50 known drawn (omega arith))
table_total-small k seed zero In few known drawn = omega (arith, few, sample_total-most k seed 0 In 5 known drawn (omega arith))
table_total-small k seed (suc zero) Out few known drawn = omega (arith, few, sample_total-most k seed 1 Out 1 known drawn (omega arith))
table_total-small k seed (suc zero) In few known drawn = absurd (cc)
table_total-small k seed (suc (suc zero)) Out few known drawn = omega (arith, few, sample_total-most k seed 2 Out 1 known drawn (omega arith))
table_total-small k seed (suc (suc zero)) In few known drawn = absurd (cc)
table_total-small k seed (suc (suc (suc zero))) Out few known drawn = omega (arith, few, sample_total-most k seed 3 Out 1 known drawn (omega arith))
table_total-small k seed (suc (suc (suc zero))) In few known drawn = omega (arith, few, sample_total-most k seed 3 In 10000 known drawn (omega arith))
table_total-small k seed (suc (suc (suc (suc c)))) side few known drawn = absurd (omega (arith, known))

zero_or_few : (b : Bool) (n most : ℕ) → n ≤ most → cond b 0 n ≤ most
zero_or_few true n most few = omega arith
zero_or_few false n most few = few

-- no side has a great total: one that is free has at most as many stubs as the other
pub side_total-small : (k seed c : ℕ) (side : Side) → k ≤ 100 → c < 4 → side_total (sample_of k) seed c side ≤ sample_total_most
side_total-small k seed c side few known =
    elim (cases_Bool (is_free (sample_of k) c side)) [
      | inl free ↦
          let other = is_free-opposite (sample_of 1) c side (IsConfig-sample_of 1 (omega arith) (omega arith)) known free in
          rw free (zero_or_few (side_count (sample_of k) c side == 0) (table_total (sample_of k) seed c (opposite side)) sample_total_most (table_total-small k seed c (opposite side) few known other))
      | inr drawn ↦ rw drawn (table_total-small k seed c side few known drawn)
    ]

-- ---- the limit

not_over : (free : Bool) (total most : ℕ) (report : TooManyStubs) → (free ≡ false → total ≤ most) → cond free None (cond (nat_lt most total) (Some report) None) ≡ None
not_over true total most report small = refl
not_over false total most report small = let few = small refl in grind (arith, nat_tests)

side_over-none : (k seed c : ℕ) (side : Side) → k ≤ 100 → c < 4 → side_over (sample_of k) seed c side ≡ None
side_over-none k seed c side few known =
    let total = table_total (sample_of k) seed c side in
    not_over (is_free (sample_of k) c side) total stubs_most (record { constraint = c; side = side; total = total })
    (λ drawn. omega (arith, table_total-small k seed c side few known drawn))

neither : {A : Type 0} (a b : Option A) → a ≡ None → b ≡ None → option_or a b ≡ None
neither a b first second = rw (first, second) refl

pub sample-within_limit : (k seed : ℕ) → k ≤ 100 → IsWithinLimit (sample_of k) seed
sample-within_limit k seed few c known =
    neither (side_over (sample_of k) seed c Out) (side_over (sample_of k) seed c In) (side_over-none k seed c Out few known) (side_over-none k seed c In few known)

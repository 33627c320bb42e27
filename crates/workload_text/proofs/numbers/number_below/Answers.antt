use Rattle.std.proofs.Common.{◌≤◌, refl, ◌∙◌, arith}
use Rattle.std.proofs.lemmas.Bool.Decides.{nat_tests}
use Rattle.std.proofs.lemmas.List.{at_drop_all}
use Rattle.std.specs.Str.Parse.{digits_value_after}
use Rattle.workload_text.specs.Sofar.{number}
use Rattle.workload_text.proofs.NumberLemmas.{canonical-digits, next_digit}
use Rattle.workload_text.proofs.numbers.number_below.Goals as goal

pub loop-byte-init : goal.loop-byte-init
loop-byte-init c = record { small = omega arith; whole = refl; digits = canonical-digits c.args.word.now c.requires }

pub overflow_mul-value : goal.overflow_mul-value
overflow_mul-value c = let small = c.loop-byte.invariant.small in omega (arith, small)

pub overflow_sub-value : goal.overflow_sub-value
overflow_sub-value c = (next_digit c.args.word.now c.loop-byte.byte-index _ c.loop-byte.value c.loop-byte-test.true refl c.loop-byte.invariant.digits).low

pub overflow_add-value : goal.overflow_add-value
overflow_add-value c =
    let next = next_digit c.args.word.now c.loop-byte.byte-index _ c.loop-byte.value c.loop-byte-test.true refl c.loop-byte.invariant.digits in
    omega (arith, c.loop-byte.invariant.small, next.high)

pub returns-then-value-limit : goal.returns-then-value-limit
returns-then-value-limit c =
    let next = next_digit c.args.word.now c.loop-byte.byte-index _ c.loop-byte.value c.loop-byte-test.true refl c.loop-byte.invariant.digits in
    let large : c.args.limit ≤ number c.args.word.now = omega (arith, c.if-value-limit.true, c.loop-byte.invariant.whole, next.least) in
    grind (arith, nat_tests)

pub loop-byte-preserved : goal.loop-byte-preserved
loop-byte-preserved c =
    let next = next_digit c.args.word.now c.loop-byte.byte-index _ c.loop-byte.value c.loop-byte-test.true refl c.loop-byte.invariant.digits in
    record {
      small = omega (arith, c.if-value-limit.false, c.ranges.limit.fits);
      whole = c.loop-byte.invariant.whole ∙ next.number;
      digits = next.rest;
    }

pub returns : goal.returns
returns c =
    let none = at_drop_all (digits_value_after 10 c.loop-byte.value) c.args.word.now c.loop-byte.byte-index (omega (arith, c.loop-byte-test.false)) in
    rw (c.loop-byte.invariant.whole ∙ none) c.below.ensures

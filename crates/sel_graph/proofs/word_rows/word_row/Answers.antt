use Rattle.std.proofs.Common.{◌≡◌, ℕ, ◌+◌, ◌-◌, ◌||◌, ap, sym, ◌∙◌, arith}
use Rattle.std.specs.List.{list_any, range_with_len}
use Rattle.bit_rows.specs.Sets.{has}
use Rattle.bit_rows.proofs.SetLemmas.{has-empty, has-union, any-range-more}
use Rattle.sel_graph.specs.States.{begun}
use Rattle.sel_graph.specs.Tests.{can_reach}
use Rattle.sel_graph.proofs.word_rows.word_row.Goals as goal

pub loop-len-init : goal.loop-len-init
loop-len-init c = record {
  within = omega arith;
  joined = λ p. let none : c.args.lengths.least - c.args.lengths.least ≡ 0 = omega arith in rw (none, c.empty-row.ensures) (has-empty p);
}

pub loop-len-preserved : goal.loop-len-preserved
loop-len-preserved c = record {
  within = omega arith;
  joined = λ p.
      let least = c.args.lengths.least in
      let len = c.loop-len.len in
      let test = λ (n : ℕ). can_reach c.args.schema.now n (begun c.args.t) p in
      let here : least + (len - least) ≡ len = omega arith in
      let more : len + 1 - least ≡ len - least + 1 = omega arith in
      let row : has c.states_after.result.now p ≡ test len = rw c.begun.ensures at (c.states_after.ensures p) in
      ap (λ s. has s p) c.or_row.ensures
      ∙ (has-union c.loop-len.row c.states_after.result.now p
      ∙ ((λ i. c.loop-len.invariant.joined p i || row i)
      ∙ (ap (λ n. list_any test (range_with_len least (len - least)) || test n) (sym here)
      ∙ (sym (any-range-more test least (len - least)) ∙ ap (λ n. list_any test (range_with_len least n)) (sym more)))));
}

pub returns : goal.returns
returns c = λ p.
    let least = c.args.lengths.least in
    let all : c.loop-len.len - least ≡ c.args.lengths.most + 1 - least = omega arith in
    c.loop-len.invariant.joined p ∙ ap (λ n. list_any (λ m. can_reach c.args.schema.now m (begun c.args.t) p) (range_with_len least n)) all

use Rattle.std.proofs.Common.{◌<◌, ◌∙◌, ◌++◌, ◌∷◌, [], true, false, length, take, slice_set, ap, sym, arith}
use Rattle.std.proofs.lemmas.List.{append-nil, take_more_set, take-set}
use Rattle.candidates.specs.Picked.{numbers_that}
use Rattle.candidates.proofs.PickLemmas.{numbers_that-more}
use Rattle.candidates.proofs.picking.keep_live.Goals.{then-is_live, else-is_live}
use Rattle.candidates.proofs.picking.keep_live.Goals as goal

pub loop-i-preserved : goal.loop-i-preserved
loop-i-preserved g c =
    let live = g.C.Candidates.live c.args.candidates.now in
    let i = c.loop-i.i in
    let count = c.loop-i.count in
    let numbers = c.loop-i.numbers in
    let before = c.loop-i.invariant in
    let inside : count < length numbers = omega (arith, before.few, c.loop-i-test.true, c.numbers-i-end.ensures.few, c.loop-i.auto.numbers, c.requires) in
    elim c.if-is_live.branch [
      | then-is_live w ↦ record {
        live =
            ap (λ n. take n (slice_set numbers count i)) w.count-is
            ∙ (take_more_set numbers count i inside ∙ (ap (λ xs. xs ++ i ∷ []) before.live ∙ sym (numbers_that-more live i true w.if-is_live.ensures)));
        few = omega (arith, w.count-is, before.few);
      }
      | else-is_live w ↦ record {
        live =
            ap (λ n. take n (slice_set numbers count i)) w.count-is
            ∙ (take-set numbers count i ∙ (before.live ∙ (sym (append-nil (numbers_that live i)) ∙ sym (numbers_that-more live i false w.if-is_live.ensures))));
        few = omega (arith, w.count-is, before.few);
      }
    ]

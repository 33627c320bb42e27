use Rattle.std.proofs.Common.{◌≡◌, ◌<◌, ◌∙◌, Some, true, take, slice_index_or, ap, subst, sym}
use Rattle.std.specs.List.{slice_get}
use Rattle.std.specs.Option.{IfSome}
use Rattle.std.proofs.lemmas.Option.{slice_get-get_or}
use Rattle.candidates.specs.Picked.{numbers_that}
use Rattle.candidates.proofs.PickLemmas.{numbers_that-at}
use Rattle.candidates.proofs.picking.pick_among.Goals as goal

pub returns-clause-passes : goal.returns-clause-passes
returns-clause-passes g c =
    let live = g.C.Candidates.live c.args.candidates.now in
    let range = g.C.Candidates.range c.args.candidates.now in
    let numbers = take c.keep_live-count.result c.keep_live-count.new.numbers in
    let place = c.pick-place.result in
    let is : slice_get (numbers_that live range) place ≡ Some (slice_index_or numbers place 0) =
    ap (λ xs. slice_get xs place) (sym c.keep_live-count.ensures.live) ∙ slice_get-get_or numbers place 0 c.pick-place.ensures.below in
    subst (λ o. IfSome o (λ i. (i < range) × (live i ≡ true))) is (numbers_that-at live range place)

use Rattle.std.proofs.Common.{◌≡◌, true, inl, length, sym, ap, ◌∙◌, arith}
use Rattle.std.specs.List.{slice_get}
use Rattle.std.proofs.lemmas.Iterator.Adapters.{option_map_id}
use Rattle.std.proofs.lemmas.Iterator.Consumers.{count_from_yields_List, nth_from_yields_List, YieldsList-from_first}
use Rattle.bit_rows.specs.Sets.{has, numbers_from}
use Rattle.bit_rows.proofs.SetLemmas.{numbers_in}
use Rattle.seeded_draw.specs.Draw.{pick_of}
use Rattle.walk_pick.proofs.PickLemmas.{numbers_few, picked_holds}
use Rattle.walk_pick.proofs.moving.pick_number.Goals as goal

pub count-count-requires-clause-fits : goal.count-count-requires-clause-fits
count-count-requires-clause-fits c = inl (omega (arith, numbers_few c.numbers.result.row.now c.numbers.result.from 320))

pub returns-clause-value : goal.returns-clause-value
returns-clause-value c =
    let all = numbers_from c.args.row.now 0 320 in
    let count : c.count-count.result ≡ length all =
    count_from_yields_List c.numbers.result c.count-count.result c.count-count.ensures.ran
    (YieldsList-from_first (λ x. x) (λ s. numbers_from s.row.now s.from 320) all (λ i. numbers_from (c.numbers.ensures.row i) (c.numbers.ensures.from i) 320)) in
    sym (option_map_id c.nth.result)
    ∙ (nth_from_yields_List c.nth.result c.nth.new.self c.pick.result c.nth.ensures.ran
    (YieldsList-from_first (λ x. x) (λ s. numbers_from s.row.now s.from 320) all (λ i. numbers_from (c.numbers-2.ensures.row i) (c.numbers-2.ensures.from i) 320))
    ∙ ap (slice_get all) (c.pick.ensures.value ∙ ap (pick_of c.args.w) count))

pub returns-clause-here : goal.returns-clause-here
returns-clause-here c =
    let value = returns-clause-value c in
    rw value (picked_holds (λ p. has c.args.row.now p ≡ true) c.args.w (numbers_from c.args.row.now 0 320) (numbers_in c.args.row.now 0 320))

use Rattle.std.proofs.Common.{◌≡◌, ◌==◌, ◌||◌, ◌/◌, false, ap, sym, ◌∙◌, arith}
use Rattle.std.specs.List.{list_any}
use Rattle.bit_rows.specs.Sets.{has, numbers_from}
use Rattle.bit_rows.proofs.SetLemmas.{has-empty, has-insert}
use Rattle.sel_graph.specs.Numbers.{move_of}
use Rattle.sel_graph.specs.Steps.{plain_steps, move_place}
use Rattle.sel_graph.proofs.RowLemmas.{split_has, split_next, split_all, any-push}
use Rattle.sel_graph.proofs.StepLemmas.{plain_tested, leads_inside}
use Rattle.sel_graph.proofs.move_rows.plain_row.Goals as goal

pub loop-number-init : goal.loop-number-init
loop-number-init c = record { split = (cc); joined = λ q. rw c.empty-row.ensures (has-empty q) }

pub of_place-requires : goal.of_place-requires
of_place-requires c =
    let row = c.into_iter-number-iterator.result.row.now in
    let here = split_has row c.loop-number.yielded _ _ c.in-Some.number c.loop-number.invariant.split c.in-Some.ensures.steps in
    let same : row ≡ c.plain_row.result.now = ap (λ x. x.row.now) c.into_iter-number-iterator.ensures.into_iter_gives ∙ c.numbers-number-items.ensures.row in
    let leads = sym (ap (λ s. has s c.in-Some.number) same ∙ c.plain_row.ensures c.in-Some.number) ∙ here in
    omega (arith, leads_inside c.args.moves.now c.requires.reach (c.args.place / 5) c.in-Some.number leads, c.requires.reach.schema.few_types)

pub move_place-requires : goal.move_place-requires
move_place-requires c =
    let row = c.into_iter-number-iterator.result.row.now in
    let here = split_has row c.loop-number.yielded _ _ c.in-Some.number c.loop-number.invariant.split c.in-Some.ensures.steps in
    let same : row ≡ c.plain_row.result.now = ap (λ x. x.row.now) c.into_iter-number-iterator.ensures.into_iter_gives ∙ c.numbers-number-items.ensures.row in
    let leads = sym (ap (λ s. has s c.in-Some.number) same ∙ c.plain_row.ensures c.in-Some.number) ∙ here in
    rw c.of_place.ensures (omega (arith, leads_inside c.args.moves.now c.requires.reach (c.args.place / 5) c.in-Some.number leads))

pub loop-number-preserved : goal.loop-number-preserved
loop-number-preserved c = record {
  split = split_next (numbers_from c.into_iter-number-iterator.result.row.now 0 320) c.loop-number.yielded _ _ c.in-Some.number c.loop-number.invariant.split c.in-Some.ensures.steps;
  joined = λ q.
      let r = c.args.moves.now in
      let lands : c.move_place.result ≡ move_place r.schema c.args.kind c.args.place (move_of false c.in-Some.number) =
      c.move_place.ensures.value ∙ ap (move_place r.schema c.args.kind c.args.place) c.of_place.ensures in
      ap (λ s. has s q) c.set.ensures
      ∙ (has-insert c.loop-number.row c.move_place.result q
      ∙ ((λ i. c.loop-number.invariant.joined q i || (lands i == q))
      ∙ sym (any-push (plain_steps r c.args.kind c.args.place q) c.loop-number.yielded c.in-Some.number)));
}

pub returns : goal.returns
returns c = λ q.
    let r = c.args.moves.now in
    let row = c.into_iter-number-iterator.result.row.now in
    let test = plain_steps r c.args.kind c.args.place q in
    let same : row ≡ c.plain_row.result.now = ap (λ x. x.row.now) c.into_iter-number-iterator.ensures.into_iter_gives ∙ c.numbers-number-items.ensures.row in
    let all : c.loop-number.yielded ≡ numbers_from row 0 320 = split_all (numbers_from row 0 320) c.loop-number.yielded _ c.loop-number.invariant.split c.in-None.ensures.steps.0 in
    let is : has c.loop-number.row q ≡ list_any test (numbers_from row 0 320) = c.loop-number.invariant.joined q ∙ ap (list_any test) all in
    let tested = plain_tested r c.requires.reach c.args.kind c.args.place q row (λ n. ap (λ s. has s n) same ∙ c.plain_row.ensures n) (omega (arith, c.requires.reach.schema.few_types)) in
    (λ h. tested.0 (sym is ∙ h), λ step. is ∙ tested.1 step)

use Rattle.std.proofs.Common.{◌≡◌, ℕ, ◌||◌, ap, sym, ◌∙◌, arith}
use Rattle.std.specs.List.{list_any}
use Rattle.bit_rows.specs.Sets.{has, set_at, numbers_from}
use Rattle.bit_rows.proofs.SetLemmas.{has-empty, has-union, some_number}
use Rattle.sel_graph.proofs.RowLemmas.{split_has, split_next, split_all, any-push}
use Rattle.sel_graph.proofs.rows.union_of.Goals as goal

pub loop-m-init : goal.loop-m-init
loop-m-init c = record { split = (cc); joined = λ q. rw c.empty-union.ensures (has-empty q) }

pub row-requires : goal.row-requires
row-requires c =
    let here = split_has c.args.members.now c.loop-m.yielded _ _ c.in-Some.m c.loop-m.invariant.split c.in-Some.ensures.steps in
    (omega arith, (omega arith, c.requires.within c.in-Some.m here))

pub loop-m-preserved : goal.loop-m-preserved
loop-m-preserved c = record {
  split = split_next (numbers_from c.args.members.now 0 320) c.loop-m.yielded _ _ c.in-Some.m c.loop-m.invariant.split c.in-Some.ensures.steps;
  joined = λ q.
      let test = λ (m : ℕ). has (set_at c.args.rows.now m) q in
      ap (λ s. has s q) c.or_row.ensures
      ∙ (has-union c.loop-m.union c.row.result.now q
      ∙ ((λ i. c.loop-m.invariant.joined q i || has (c.row.ensures i) q)
      ∙ sym (any-push test c.loop-m.yielded c.in-Some.m)));
}

pub returns : goal.returns
returns c = λ q.
    let test = λ (m : ℕ). has (set_at c.args.rows.now m) q in
    let all : c.loop-m.yielded ≡ numbers_from c.args.members.now 0 320 = split_all (numbers_from c.args.members.now 0 320) c.loop-m.yielded _ c.loop-m.invariant.split c.in-None.ensures.steps.0 in
    let is : has c.loop-m.union q ≡ list_any test (numbers_from c.args.members.now 0 320) = c.loop-m.invariant.joined q ∙ ap (list_any test) all in
    let some = some_number c.args.members.now 320 test in (
      λ h. let (m, below, here, there) = some.0 (sym is ∙ h) in (m, here, there),
      λ (m, here, there). is ∙ some.1 (m, omega (arith, c.requires.within m here), here, there),
    )

use Rattle.std.proofs.Common.{◌≡◌, ◌≤◌, ◌++◌, ◌∷◌, [], length, slice_get, Some, sym, ap, subst, ◌∙◌, arith}
use Rattle.query_terms.specs.Store.{ChildrenBelow}
use Rattle.rpq_meaning.specs.Tables.{table_of}
use Rattle.rpq_meaning.proofs.TableLemmas.{tables_more, length_tables_of}
use Rattle.rpq_meaning.proofs.tables.put_tables.Goals as goal

pub table_of-requires-clause-children : goal.table_of-requires-clause-children
table_of-requires-clause-children c =
    let within : c.loop-n.n ≤ length c.args.terms.now = omega (arith, c.loop-n-test.true, c.len-n-end.ensures.count) in
    let long = ap length (c.deref.ensures.value ∙ c.loop-n.invariant) ∙ (length_tables_of _ _ _ _ within ∙ sym c.id.ensures) in
    subst (λ n. ChildrenBelow n c.get.result) (sym long) (c.len-n-end.ensures.store.children _ _ c.get.ensures)

pub loop-n-preserved : goal.loop-n-preserved
loop-n-preserved c =
    let at : slice_get c.args.terms.now c.loop-n.n ≡ Some c.get.result = ap (slice_get c.args.terms.now) (sym c.id.ensures) ∙ c.get.ensures in
    let table_is = c.in_ok-table.ensures ∙ ap (λ ts. table_of c.args.graph.now c.args.nodes.now ts c.get.result) (c.deref.ensures.value ∙ c.loop-n.invariant) in
    c.in_ok-push.ensures.items ∙ ((λ i. c.loop-n.invariant i ++ table_is i ∷ []) ∙ sym (tables_more c.args.graph.now c.args.nodes.now c.args.terms.now c.loop-n.n _ at))

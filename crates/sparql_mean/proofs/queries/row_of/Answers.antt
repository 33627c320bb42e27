use Rattle.std.proofs.Common.{sym, subst, ◌≡◌, true, arith}
use Rattle.graph_text.specs.Rows.{is_row}
use Rattle.sparql_mean.proofs.StepLemmas.{values_none, as_many}
use Rattle.sparql_mean.proofs.queries.row_of.Goals as goal

pub returns-in_default-clause-values : goal.returns-in_default-clause-values
returns-in_default-clause-values c = sym (values_none _ _ _ _ c.variable.ensures (sym c.in_default.ensures))

pub of-requires : goal.of-requires
of-requires c =
    let many = as_many _ c.args.query.now.variables c.loop-i.i _ _ c.loop-i.invariant (omega (arith, c.loop-i-test.false, c.variable_count-i-end.ensures.count)) c.deref.ensures.value in
    omega (arith, many, c.variable_count-i-end.ensures.few)

pub returns-clause-row : goal.returns-clause-row
returns-clause-row c =
    let many = as_many _ c.args.query.now.variables c.loop-i.i _ _ c.loop-i.invariant (omega (arith, c.loop-i-test.false, c.variable_count-i-end.ensures.count)) c.deref.ensures.value in
    subst (λ n. is_row n c.of.result ≡ true) many c.of.ensures.is_row

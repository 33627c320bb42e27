use Rattle.std.proofs.Common.{refl}
use Rattle.sql_read.proofs.PartLemmas.{query_no_from, query_no_sources, query_no_where, query_read}
use Rattle.sql_read.proofs.parts.pass_query.Goals as goal

pub returns-then-not-pass_mark-clause-is : goal.returns-then-not-pass_mark-clause-is
returns-then-not-pass_mark-clause-is c =
    query_no_from _ _ _ _ _ _ (c.if-not-pass_select.ensures.passed refl) (rw c.in-Some.is at c.in_ok-columns.ensures.is)
    (c.if-not-pass_mark.ensures.none refl)

pub returns-in_default-2-clause-is : goal.returns-in_default-2-clause-is
returns-in_default-2-clause-is c =
    query_no_sources _ _ _ _ _ _ (c.if-not-pass_select.ensures.passed refl) (rw c.in-Some.is at c.in_ok-columns.ensures.is)
    _ (c.if-not-pass_mark.ensures.passed refl) (rw c.in_default-2.is at c.in_ok-tables.ensures.is)

pub returns-in_default-3-clause-is : goal.returns-in_default-3-clause-is
returns-in_default-3-clause-is c =
    query_no_where _ _ _ _ _ _ (c.if-not-pass_select.ensures.passed refl) (rw c.in-Some.is at c.in_ok-columns.ensures.is)
    _ (c.if-not-pass_mark.ensures.passed refl) _ _ _ (rw c.in-Some-2.is at c.in_ok-tables.ensures.is)
    (rw c.in_default-3.is at c.in_ok-equations.ensures.is)

pub returns-clause-is : goal.returns-clause-is
returns-clause-is c =
    query_read _ _ _ _ _ _ (c.if-not-pass_select.ensures.passed refl) (rw c.in-Some.is at c.in_ok-columns.ensures.is)
    _ (c.if-not-pass_mark.ensures.passed refl) _ _ _ (rw c.in-Some-2.is at c.in_ok-tables.ensures.is)
    _ _ _ (rw c.in-Some-3.is at c.in_ok-equations.ensures.is)

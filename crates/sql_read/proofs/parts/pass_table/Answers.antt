use Rattle.std.proofs.Common.{refl}
use Rattle.sql_read.proofs.PartLemmas.{table_no_names, table_no_close, table_no_body, table_read}
use Rattle.sql_read.proofs.parts.pass_table.Goals as goal

pub returns-in_default-2-clause-is : goal.returns-in_default-2-clause-is
returns-in_default-2-clause-is c =
    table_no_names _ _ _ c.in-Some.name c.in-Some.ensures.is (c.if-not-pass_mark.ensures.passed refl)
    (rw c.in_default-2.is at c.in_ok-columns.ensures.is)

pub returns-then-not-pass_mark-2-clause-is : goal.returns-then-not-pass_mark-2-clause-is
returns-then-not-pass_mark-2-clause-is c =
    table_no_close _ _ _ c.in-Some.name c.in-Some.ensures.is (c.if-not-pass_mark.ensures.passed refl)
    _ _ _ _ (rw c.in-Some-2.is at c.in_ok-columns.ensures.is) (c.if-not-pass_mark-2.ensures.none refl)

pub returns-in_default-3-clause-is : goal.returns-in_default-3-clause-is
returns-in_default-3-clause-is c =
    table_no_body _ _ _ c.in-Some.name c.in-Some.ensures.is (c.if-not-pass_mark.ensures.passed refl)
    _ _ _ _ (rw c.in-Some-2.is at c.in_ok-columns.ensures.is) _ (c.if-not-pass_mark-2.ensures.passed refl)
    (rw c.in_default-3.is at c.in_ok-body.ensures.is)

pub returns-clause-is : goal.returns-clause-is
returns-clause-is c =
    table_read _ _ _ c.in-Some.name c.in-Some.ensures.is (c.if-not-pass_mark.ensures.passed refl)
    _ _ _ _ (rw c.in-Some-2.is at c.in_ok-columns.ensures.is) _ (c.if-not-pass_mark-2.ensures.passed refl)
    _ _ _ (rw c.in-Some-3.is at c.in_ok-body.ensures.is)

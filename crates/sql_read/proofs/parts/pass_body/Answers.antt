use Rattle.std.proofs.Common.{refl}
use Rattle.sql_read.proofs.PartLemmas.{body_no_close, body_read}
use Rattle.sql_read.proofs.parts.pass_body.Goals as goal

pub returns-then-not-pass_mark-3-clause-is : goal.returns-then-not-pass_mark-3-clause-is
returns-then-not-pass_mark-3-clause-is c =
    body_no_close _ _ _ _ _ _ _ (c.if-not-pass_mark.ensures.passed refl) (c.if-not-pass_mark-2.ensures.passed refl)
    (rw c.in-Some.is at c.in_ok-body.ensures.is) (c.if-not-pass_mark-3.ensures.none refl)

pub returns-clause-is : goal.returns-clause-is
returns-clause-is c =
    body_read _ _ _ _ _ _ _ _ (c.if-not-pass_mark.ensures.passed refl) (c.if-not-pass_mark-2.ensures.passed refl)
    (rw c.in-Some.is at c.in_ok-body.ensures.is) (c.if-not-pass_mark-3.ensures.passed refl)

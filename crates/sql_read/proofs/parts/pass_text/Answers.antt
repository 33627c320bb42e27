use Rattle.std.proofs.Common.{refl, sym, ◌∙◌, true≢false}
use Rattle.sql_read.proofs.PartLemmas.{text_no_union, text_no_end, text_read}
use Rattle.sql_read.proofs.parts.pass_text.Goals as goal

pub returns-in_default-clause-is : goal.returns-in_default-clause-is
returns-in_default-clause-is c =
    text_no_union _ _ _ (c.if-not-pass_mark.ensures.passed refl) (c.if-not-pass_mark-2.ensures.passed refl)
    _ _ _ (rw c.if-not-branch.false at c.in_ok-pass_tables.ensures.is) (rw c.in_default.is at c.in_ok-last.ensures.is)

pub returns-then-is_at_end-clause-is : goal.returns-then-is_at_end-clause-is
returns-then-is_at_end-clause-is c =
    text_read _ _ _ (c.if-not-pass_mark.ensures.passed refl) (c.if-not-pass_mark-2.ensures.passed refl)
    _ _ _ (rw c.if-not-branch.false at c.in_ok-pass_tables.ensures.is) _ _ _ (rw c.in-Some.is at c.in_ok-last.ensures.is)
    c.in_ok-last.ensures.others (c.is_at_end.ensures.0 c.if-is_at_end.true)

pub returns-else-is_at_end-clause-is : goal.returns-else-is_at_end-clause-is
returns-else-is_at_end-clause-is c =
    text_no_end _ _ _ (c.if-not-pass_mark.ensures.passed refl) (c.if-not-pass_mark-2.ensures.passed refl)
    _ _ _ (rw c.if-not-branch.false at c.in_ok-pass_tables.ensures.is) _ _ _ (rw c.in-Some.is at c.in_ok-last.ensures.is)
    (λ e. true≢false (sym (c.is_at_end.ensures.1 e) ∙ c.if-is_at_end.false))

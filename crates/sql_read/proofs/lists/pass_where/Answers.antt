use Rattle.std.proofs.Common.{refl, sym, arith}
use Rattle.std.proofs.lemmas.Grind.{common_steps}
use Rattle.sql_read.proofs.PartLemmas.{where_nothing, where_no_list, where_no_end}
use Rattle.sql_read.proofs.lists.pass_where.Goals as goal

pub returns-then-ends_query-clause-is : goal.returns-then-ends_query-clause-is
returns-then-ends_query-clause-is c =
    let kept = c.if-not-pass_mark.ensures.kept refl in
    rw kept (where_nothing c.args.lists.now _ _ (grind (arith, common_steps)) (sym (rw kept at c.if-ends_query.ensures)))

pub returns-in_default-clause-is : goal.returns-in_default-clause-is
returns-in_default-clause-is c =
    where_no_list _ _ (c.if-not-pass_mark.ensures.passed refl) (rw c.in_default.is at c.in_ok-equations.ensures.is)

pub returns-clause-is : goal.returns-clause-is
returns-clause-is c =
    where_no_end _ _ _ _ _ _ (c.if-not-pass_mark.ensures.passed refl) (rw c.in-Some.is at c.in_ok-equations.ensures.is) (sym c.if-ends_query-2.ensures)

use Rattle.std.proofs.Common.{refl, arith}
use Rattle.std.proofs.lemmas.Grind.{common_steps}
use Rattle.sql_read.proofs.PartLemmas.{columns_one, columns_none, columns_listed}
use Rattle.sql_read.proofs.lists.pass_columns.Goals as goal

pub returns-then-pass_one-clause-is : goal.returns-then-pass_one-clause-is
returns-then-pass_one-clause-is c = columns_one c.args.lists.now _ _ _ (c.if-pass_one.ensures.passed refl) (grind (arith, common_steps))

pub returns-in_default-clause-is : goal.returns-in_default-clause-is
returns-in_default-clause-is c =
    let kept = c.if-pass_one.ensures.kept refl in
    columns_none _ (c.if-pass_one.ensures.none refl) (rw kept at (rw c.in_default.is at c.in_ok-span.ensures.is))

pub returns-clause-is : goal.returns-clause-is
returns-clause-is c =
    let kept = c.if-pass_one.ensures.kept refl in
    columns_listed _ _ _ _ _ (rw kept at (rw c.in-Some.is at c.in_ok-span.ensures.is))

use Rattle.std.proofs.Common.{refl}
use Rattle.sql_emit.proofs.WriteLemmas.{ends_again, ends_new}
use Rattle.sql_emit.proofs.columns.add_end.Goals as goal

pub returns-in-Some : goal.returns-in-Some
returns-in-Some c os are = ends_again os c.args.variable c.in-Some.first.now c.args.column c.args.ends.now _ are c.in-Some.ensures.value (λ w. refl) c.in_ok-put_equation.ensures

pub returns : goal.returns
returns c os are = ends_new os c.args.variable c.args.column c.args.ends.now _ are c.in_default.ensures.value c.in_ok-insert.ensures.updates.0 refl

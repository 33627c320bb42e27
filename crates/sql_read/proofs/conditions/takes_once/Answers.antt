use Rattle.std.proofs.Common.{◌-◌, true, sym, arith}
use Rattle.std.proofs.lemmas.Grind.{common_steps}
use Rattle.std.proofs.lemmas.Bool.Decides.{nat_tests}
use Rattle.std.proofs.lemmas.Option.{slice_get-get_or}
use Rattle.sql_read.proofs.ConditionLemmas.{times_step, times_drop}
use Rattle.sql_read.proofs.conditions.takes_once.Goals as goal

pub returns-then-taken : goal.returns-then-taken
returns-then-taken c =
    let step = times_step c.args.name.now c.loop-i.i c.args.froms.now _ true (grind (arith, common_steps))
    (slice_get-get_or c.args.froms.now (c.loop-i.i - 1) _ (grind (arith, common_steps))) (sym c.if-takes_from.ensures) in
    let more = times_drop c.args.name.now (c.loop-i.i - 1) c.args.froms.now in
    grind (arith, nat_tests)

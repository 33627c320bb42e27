use Rattle.std.proofs.Common.{◌-◌, is_some, ap, sym, ◌∙◌, arith}
use Rattle.std.proofs.lemmas.Grind.{common_steps}
use Rattle.std.proofs.lemmas.Option.{slice_get-get_or}
use Rattle.sql_read.specs.Scope.{found_in}
use Rattle.sql_read.proofs.ScopeLemmas.{aliases_equal, aliases_more}
use Rattle.sql_read.proofs.scope.aliases_of.Goals as goal

pub returns-then-is_some : goal.returns-then-is_some
returns-then-is_some c =
    aliases_equal c.args.scope.now (found_in c.loop-i.aliases) c.args.froms.now c.loop-i.i _ c.loop-i.invariant (grind (arith, common_steps))
    (slice_get-get_or c.args.froms.now (c.loop-i.i - 1) _ (grind (arith, common_steps))) (ap is_some (sym c.in_ok-insert.ensures.old) ∙ sym c.if-is_some.ensures)

pub loop-i-preserved : goal.loop-i-preserved
loop-i-preserved c =
    aliases_more c.args.scope.now (found_in c.loop-i.aliases) (found_in c.insert.new.self) c.args.froms.now c.loop-i.i _ c.in-Some.number.now c.loop-i.invariant
    (grind (arith, common_steps)) (slice_get-get_or c.args.froms.now (c.loop-i.i - 1) _ (grind (arith, common_steps))) (sym c.in-Some.ensures.value)
    (ap is_some (sym c.in_ok-insert.ensures.old) ∙ sym c.if-is_some.ensures) c.in_ok-insert.ensures.updates.0

use Rattle.std.proofs.Common.{sym, arith}
use Rattle.std.proofs.lemmas.Grind.{common_steps}
use Rattle.sql_read.specs.Parsed.{kept_of}
use Rattle.sql_read.proofs.ConditionLemmas.{last_unlike, last_checked}
use Rattle.sql_read.proofs.conditions.last_holds.Goals as goal

pub returns-then-not-have_width : goal.returns-then-not-have_width
returns-then-not-have_width c headers knows =
    last_unlike (kept_of c.args.lists.now) c.args.last headers _ _ (rw c.deref.ensures.value at c.part-selects.ensures) c.requires.all
    c.first_width-width.ensures (sym c.if-not-have_width.ensures)

pub returns : goal.returns
returns c headers knows =
    last_checked (kept_of c.args.lists.now) c.args.last headers _ _ (rw c.deref.ensures.value at c.part-selects.ensures) c.requires.all
    c.first_width-width.ensures _ (grind (arith, common_steps)) (sym c.if-not-have_width.ensures) (c.in_ok-hold.ensures headers knows)

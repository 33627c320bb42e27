use Rattle.std.proofs.Common.{sym, subst}
use Rattle.std.proofs.lemmas.Option.{slice_get-get_or}
use Rattle.sql_emit.specs.Writing.{AreEnds}
use Rattle.sql_emit.proofs.WriteLemmas.{occurrences_more}
use Rattle.sql_emit.proofs.columns.ends_of.Goals as goal

pub loop-i-preserved : goal.loop-i-preserved
loop-i-preserved c =
    let at = slice_get-get_or c.args.links.now c.loop-i.i c.index-links-i.result c.loop-i-test.true in
    let one = rw c.column_at.ensures at (c.in_ok-add_end.ensures _ c.loop-i.invariant) in
    let both = rw c.column_at-in-loop-i.ensures at (c.in_ok-add_end-2.ensures _ one) in
    subst (λ os. AreEnds os c.add_end-in-loop-i.new.ends)
    (sym (occurrences_more c.args.links.now c.loop-i.i c.index-links-i.result (rw (sym c.index-links-i.is) at at))) both

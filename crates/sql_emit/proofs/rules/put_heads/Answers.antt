use Rattle.std.proofs.lemmas.Option.{slice_get-get_or}
use Rattle.sql_emit.proofs.WriteLemmas.{heads_more}
use Rattle.sql_emit.proofs.rules.put_heads.Goals as goal

pub loop-i-preserved : goal.loop-i-preserved
loop-i-preserved c os are =
    heads_more os c.args.heads.now c.loop-i.i _ c.in-Some.column.now c.args.ends.now _ _ _ _
    (slice_get-get_or c.args.heads.now c.loop-i.i 0 c.loop-i-test.true) are c.in-Some.ensures.value (c.loop-i.invariant os are) c.in_ok-put_lead.ensures c.in_ok-put_column.ensures

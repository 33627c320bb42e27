use Rattle.std.proofs.lemmas.Option.{slice_get-get_or}
use Rattle.sql_emit.proofs.WriteLemmas.{sources_more}
use Rattle.sql_emit.proofs.rules.put_sources.Goals as goal

pub loop-i-preserved : goal.loop-i-preserved
loop-i-preserved c =
    let at = slice_get-get_or c.args.links.now c.loop-i.i _ c.loop-i-test.true in
    sources_more c.args.links.now c.loop-i.i _ _ _ _ _ at c.loop-i.invariant c.in_ok-put_lead.ensures c.in_ok-put_source.ensures

use Rattle.sparql_emit.proofs.LineLemmas.{heads_more, heads_done}
use Rattle.sparql_emit.proofs.queries.write_heads.Goals as goal

pub loop-place-preserved : goal.loop-place-preserved
loop-place-preserved c = heads_more _ _ _ _ _ c.loop-place.invariant c.in_ok-extend_from_slice-2.ensures.items c.in_ok-write_head.ensures

pub returns : goal.returns
returns c =
    heads_done _ _ _ _ _ _ c.if-count-eq0.false c.loop-place-test.false c.loop-place.auto.place-end c.in_ok-extend_from_slice.ensures.items c.loop-place.invariant
    c.in_ok-extend_from_slice-3.ensures.items

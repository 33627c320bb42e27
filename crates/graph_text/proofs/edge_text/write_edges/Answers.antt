use Rattle.std.proofs.Common.{ap, subst, ◌∙◌}
use Rattle.graph_text.specs.EdgesText.{AppendsPart, edges_text}
use Rattle.graph_text.proofs.PartLemmas.{OnErr-from, AppendsPart-more, AppendsPart-after, edges_text-at, edges_text-take_more}
use Rattle.graph_text.proofs.edge_text.write_edges.Goals as goal

pub loop-edge-preserved : goal.loop-edge-preserved
loop-edge-preserved c = edges_text-take_more _ _ _ c.loop-edge-test.true _ _ _ c.loop-edge.invariant c.in_ok-write_edge.ensures.ok

pub returns-in_err-write_edge-clause-err : goal.returns-in_err-write_edge-clause-err
returns-in_err-write_edge-clause-err c =
    OnErr-from c.from_residual.result
    (subst (AppendsPart c.args.out.now.items c.write_edge.new.out.items)
    (edges_text-at _ c.loop-edge.edge-index _ c.loop-edge-test.true ∙ ap edges_text c.as_slice-edge-items.ensures)
    (AppendsPart-after _ _ _ _ _ c.loop-edge.invariant (AppendsPart-more _ _ _ _ c.in_err-write_edge.ensures.err)))

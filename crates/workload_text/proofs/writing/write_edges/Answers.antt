use Rattle.std.proofs.Common.{map, sym}
use Rattle.graph_text.proofs.PartLemmas.{OnErr-from}
use Rattle.schema_graph.specs.Edge.{no_edge}
use Rattle.workload_text.specs.Lines.{lines_text, edge_line}
use Rattle.workload_text.proofs.WritingLemmas.{split-edges, line-text, text-step, text-stopped}
use Rattle.workload_text.proofs.writing.write_edges.Goals as goal

pub loop-e-preserved : goal.loop-e-preserved
loop-e-preserved c =
    text-step (λ edges. lines_text (map edge_line edges)) split-edges c.args.schema.now.edges c.loop-e.e no_edge c.edge-edge.result (sym c.edge-edge.ensures.edge) (rw c.edge_count-e-end.ensures.count at c.loop-e-test.true)
    _ _ _ c.loop-e.invariant (line-text (edge_line c.edge-edge.result)) _
    (rw (c.op_word.ensures, c.into.ensures, c.into-in-loop-e.ensures, c.into-in-loop-e-2.ensures) at c.in_ok-write_line.ensures.ok)

pub returns-in_err-write_line-clause-err : goal.returns-in_err-write_line-clause-err
returns-in_err-write_line-clause-err c =
    OnErr-from c.from_residual.result
    (text-stopped (λ edges. lines_text (map edge_line edges)) split-edges c.args.schema.now.edges c.loop-e.e no_edge c.edge-edge.result (sym c.edge-edge.ensures.edge) (rw c.edge_count-e-end.ensures.count at c.loop-e-test.true)
    _ _ _ c.loop-e.invariant (line-text (edge_line c.edge-edge.result)) _
    (rw (c.op_word.ensures, c.into.ensures, c.into-in-loop-e.ensures, c.into-in-loop-e-2.ensures) at c.in_err-write_line.ensures.err))

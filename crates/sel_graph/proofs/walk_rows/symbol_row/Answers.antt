use Rattle.bit_rows.specs.Sets.{has}
use Rattle.bit_rows.proofs.SetLemmas.{has-empty}
use Rattle.sel_graph.specs.Steps.{symbol_steps}
use Rattle.sel_graph.proofs.StepLemmas.{one_edge_more}
use Rattle.sel_graph.proofs.walk_rows.symbol_row.Goals as goal

pub loop-edge-init : goal.loop-edge-init
loop-edge-init c = λ q. rw c.empty-row.ensures (has-empty q)

pub loop-edge-preserved : goal.loop-edge-preserved
loop-edge-preserved c = λ q.
    one_edge_more (symbol_steps c.args.schema.now c.args.kind c.args.place q) c.loop-edge.edge (has c.loop-edge.row q) (has c.add_symbol.new.row q) (has c.add_symbol-in-loop-edge.new.row q)
    (c.loop-edge.invariant q) (c.add_symbol.ensures q) (c.add_symbol-in-loop-edge.ensures q)

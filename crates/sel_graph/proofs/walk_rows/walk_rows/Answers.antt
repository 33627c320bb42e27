use Rattle.sel_graph.proofs.TableLemmas.{walks_from_levels}
use Rattle.sel_graph.proofs.walk_rows.walk_rows.Goals as goal

pub returns : goal.returns
returns c = walks_from_levels c.args.schema.now (record { fixed = c.in_ok-fixed.fixed; growing = c.in_ok-growing.growing }) c.in_ok-fixed.ensures c.in_ok-growing.ensures

use Rattle.sel_graph.proofs.TableLemmas.{afters_from_levels}
use Rattle.sel_graph.proofs.move_rows.move_rows.Goals as goal

pub returns : goal.returns
returns c = afters_from_levels c.args.moves.now c.type_count-types.ensures.reach (record { fixed = c.in_ok-fixed.fixed; growing = c.in_ok-growing.growing }) c.in_ok-fixed.ensures c.in_ok-growing.ensures

use Rattle.std.proofs.Common.{arith}
use Rattle.sel_graph.proofs.word_rows.WordRowsRows.row.Goals as goal

pub overflow_cast-r : goal.overflow_cast-r
overflow_cast-r c = let known = c.args.self.now.known in omega (arith, known.few_types, c.requires)

use Rattle.std.proofs.Common.{sym, ◌∙◌}
use Rattle.sel_graph.proofs.StepLemmas.{symbol_added}
use Rattle.sel_graph.proofs.walk_rows.add_symbol.Goals as goal

pub returns-then-start_of-place : goal.returns-then-start_of-place
returns-then-start_of-place c = λ q. rw (c.set.ensures, c.symbol_place.ensures.value) (symbol_added c.args.schema.now c.args.kind c.args.place c.args.symbol c.args.row.now q (sym c.start_of.ensures.start ∙ c.if-start_of-place.true))

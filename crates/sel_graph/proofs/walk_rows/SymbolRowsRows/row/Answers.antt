use Rattle.std.proofs.Common.{sym, ◌∙◌}
use Rattle.sel_graph.proofs.StepLemmas.{symbol_tested}
use Rattle.sel_graph.proofs.walk_rows.SymbolRowsRows.row.Goals as goal

pub returns : goal.returns
returns c = λ q.
    let tested = symbol_tested c.args.self.now.schema.now c.args.self.now.kind c.args.r q in
    (λ h. tested.0 (sym (c.symbol_row.ensures q) ∙ h), λ step. c.symbol_row.ensures q ∙ tested.1 step)

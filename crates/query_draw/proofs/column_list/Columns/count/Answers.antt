use Rattle.std.proofs.Common.{length, ap, sym, ◌∙◌}
use Rattle.query_draw.proofs.ColumnLemmas.{shown-long}
use Rattle.query_draw.proofs.column_list.Columns.count.Goals as goal

pub returns-clause-count : goal.returns-clause-count
returns-clause-count c = c.len.ensures ∙ (c.self.inside.stored.ok.0 ∙ (sym (shown-long c.self.inside.filled c.self.inside.stored.items) ∙ ap length c.self.view_is))

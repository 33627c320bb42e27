use Rattle.std.proofs.Common.{◌≡◌, length, ap, sym, subst, ◌∙◌}
use Rattle.query_draw.specs.Columns.{no_entry, AreColumns, shown}
use Rattle.query_draw.proofs.ColumnLemmas.{shown-long, AreColumns-shown}
use Rattle.query_draw.proofs.column_list.Columns.clear.Goals as goal

pub returns : goal.returns
returns c =
    let cs = c.self.inside.stored.items in
    let long : length cs ≡ length c.args.self.now = sym (shown-long c.self.inside.filled cs) ∙ ap length c.self.view_is in
    subst (λ n. AreColumns n (shown 0 cs) no_entry) long (AreColumns-shown cs)

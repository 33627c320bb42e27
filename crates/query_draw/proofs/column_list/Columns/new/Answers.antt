use Rattle.std.proofs.Common.{◌≡◌, length, ◌∙◌, arith}
use Rattle.query_draw.proofs.ColumnLemmas.{shown-long}
use Rattle.query_draw.proofs.column_list.Columns.new.Goals as goal

pub returns : goal.returns
returns c =
    let long : length c.in_ok-stored.stored.items ≡ c.args.count = omega (arith, c.in_ok-stored.ensures.len, c.in_ok-stored.stored.ok.0) in
    shown-long 0 c.in_ok-stored.stored.items ∙ long

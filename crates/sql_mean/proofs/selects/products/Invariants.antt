use Rattle.std.proofs.Common.{◌≡◌, map, take}
use Rattle.sql_read.specs.View.{source_view}
use Rattle.sql_mean.specs.Evaluation.{products}
use Rattle.sql_mean.proofs.selects.products.Given as goal

abbrev pub invariant-loop-from : goal.invariant-loop-from
invariant-loop-from l = l.all.items ≡ products l.known (map source_view (take l.from-index l.froms))

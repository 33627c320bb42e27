use Rattle.std.proofs.Common.{◌≡◌, ◌++◌, take}
use Rattle.std.specs.List.{flat_map}
use Rattle.sql_mean.specs.Evaluation.{headers_in, query_of, if_met}
use Rattle.sql_mean.proofs.selects.push_rows.Given as goal

abbrev pub invariant-loop-product : goal.invariant-loop-product
invariant-loop-product l = l.rows.items ≡ l.initial.rows.items ++ flat_map (if_met (headers_in l.known) (query_of l.columns l.froms l.equations)) (take l.product-index l.product-items)

use Rattle.std.proofs.Common.{◌≡◌, take}
use Rattle.std.specs.List.{flat_map}
use Rattle.sql_read.specs.Kept.{query_in}
use Rattle.sql_mean.specs.Evaluation.{select_list}
use Rattle.sql_mean.proofs.selects.union_rows.Given as goal

abbrev pub invariant-loop-select : goal.invariant-loop-select
invariant-loop-select l = l.rows.items ≡ flat_map (λ s. select_list l.known (query_in s l.query.kept)) (take l.select-index l.selects)

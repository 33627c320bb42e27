use Rattle.std.proofs.Common.{◌≡◌, take}
use Rattle.std.specs.List.{flat_map}
use Rattle.sql_mean.specs.Evaluation.{with_each}
use Rattle.sql_mean.proofs.selects.grow.Given as goal

abbrev pub invariant-loop-product : goal.invariant-loop-product
invariant-loop-product l = l.out.items ≡ flat_map (with_each l.rows) (take l.product-index l.all)

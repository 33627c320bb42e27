use Rattle.std.proofs.Common.{◌≡◌, ◌++◌, take}
use Rattle.std.specs.List.{flat_map}
use Rattle.sparql_mean.specs.Joins.{if_fits}
use Rattle.sparql_mean.proofs.mappings.push_grown.Given as goal

abbrev pub invariant-loop-pair : goal.invariant-loop-pair
invariant-loop-pair l = l.out.items ≡ l.initial.out.items ++ flat_map (if_fits l.u l.v l.m) (take l.pair-index l.pairs)

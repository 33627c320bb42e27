use Rattle.std.proofs.Common.{◌≡◌, ◌++◌, take}
use Rattle.std.specs.List.{flat_map}
use Rattle.rpq_meaning.specs.Joins.{if_fits}
use Rattle.rpq_meaning.proofs.mappings.push_grown.Given as goal

abbrev pub invariant-loop-pair : goal.invariant-loop-pair
invariant-loop-pair l = l.out.items ≡ l.initial.out.items ++ flat_map (if_fits l.u l.v l.m) (take l.pair-index l.pairs)

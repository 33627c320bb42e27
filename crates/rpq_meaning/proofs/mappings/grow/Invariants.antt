use Rattle.std.proofs.Common.{◌≡◌, take}
use Rattle.std.specs.List.{flat_map}
use Rattle.rpq_meaning.specs.Joins.{grown}
use Rattle.rpq_meaning.proofs.mappings.grow.Given as goal

abbrev pub invariant-loop-m : goal.invariant-loop-m
invariant-loop-m l = l.out.items ≡ flat_map (grown l.u l.v l.pairs) (take l.m-index l.all)

use Rattle.std.proofs.Common.{◌≡◌, map, take}
use Rattle.workload_text.proofs.head.type_names.Given as goal

abbrev pub invariant-loop-t : goal.invariant-loop-t
invariant-loop-t l = l.names.items ≡ map (λ t. t.name) (take l.t l.config.types)

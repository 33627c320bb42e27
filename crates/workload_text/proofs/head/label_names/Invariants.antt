use Rattle.std.proofs.Common.{◌≡◌, take}
use Rattle.workload_text.proofs.head.label_names.Given as goal

abbrev pub invariant-loop-l : goal.invariant-loop-l
invariant-loop-l l = l.names.items ≡ take l.l l.config.labels

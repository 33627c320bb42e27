use Rattle.std.proofs.Common.{◌≡◌, map, take}
use Rattle.schema_graph.specs.Configured.{kind_of}
use Rattle.schema_graph.proofs.configured.kinds_of.Given as goal

abbrev pub invariant-loop-t : goal.invariant-loop-t
invariant-loop-t l = l.kinds.items ≡ map kind_of (take l.t l.config.types)

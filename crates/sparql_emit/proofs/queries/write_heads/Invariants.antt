use Rattle.std.proofs.Common.{◌≡◌, ◌++◌}
use Rattle.std.specs.List.{flat_map}
use Rattle.sparql_emit.specs.QueryText.{with_mark, head_names}
use Rattle.sparql_emit.proofs.queries.write_heads.Given as goal

abbrev pub invariant-loop-place : goal.invariant-loop-place
invariant-loop-place l = l.out.items ≡ l.initial.out.items ++ flat_map with_mark (head_names l.place)

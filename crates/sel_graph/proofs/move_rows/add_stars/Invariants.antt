use Rattle.std.proofs.Common.{◌≡◌, ℕ, ◌||◌}
use Rattle.std.specs.List.{list_any, range_with_len}
use Rattle.bit_rows.specs.Sets.{has}
use Rattle.sel_graph.specs.Steps.{star_steps}
use Rattle.sel_graph.proofs.move_rows.add_stars.Given as goal

abbrev pub invariant-loop-n : goal.invariant-loop-n
invariant-loop-n l = (q : ℕ) → has l.row q ≡ (has l.initial.row q || list_any (star_steps l.moves l.kind l.place q) (range_with_len 0 l.n))

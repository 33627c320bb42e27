use Rattle.std.proofs.Common.{◌≡◌, ◌-◌, ◌<◌, ◌++◌, true, length}
use Rattle.sel_graph.specs.States.{begun}
use Rattle.sel_graph.specs.Tests.{feasible}
use Rattle.query_draw.specs.Drawers.{spine_by}
use Rattle.query_draw.proofs.paths.draw_spine.Given as goal

abbrev pub invariant-loop-i : goal.invariant-loop-i
invariant-loop-i l = record {
  start : l.state.start < length l.drawer.reach.now.schema.kinds;
  here : l.state.at < length l.drawer.reach.now.schema.kinds;
  live : feasible l.drawer.reach.now l.goal (l.count - l.i) l.state ≡ true;
  put : spine_by l.drawer l.goal (begun l.start) l.count 0 ≡ l.legs.items ++ spine_by l.drawer l.goal l.state (l.count - l.i) l.i;
}

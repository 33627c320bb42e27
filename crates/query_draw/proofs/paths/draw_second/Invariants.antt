use Rattle.std.proofs.Common.{◌≡◌, ◌+◌, ◌-◌, ◌<◌, ◌++◌, length}
use Rattle.query_draw.specs.Drawers.{second_by, CanLink}
use Rattle.query_draw.proofs.paths.draw_second.Given as goal

abbrev pub invariant-loop-j : goal.invariant-loop-j
invariant-loop-j l = record {
  here : l.from < length l.drawer.reach.now.schema.kinds;
  live : CanLink l.drawer.reach.now (l.count - l.j) l.from l.end;
  put : second_by l.drawer l.end l.start l.count l.first ≡ l.legs.items ++ second_by l.drawer l.end l.from (l.count - l.j) (l.first + l.j);
}

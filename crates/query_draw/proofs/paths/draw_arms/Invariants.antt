use Rattle.std.proofs.Common.{◌≡◌, map}
use Rattle.std.specs.List.{range_with_len}
use Rattle.seeded_draw.specs.Draw.{word}
use Rattle.query_draw.specs.Drawn.{nth_arm}
use Rattle.query_draw.proofs.paths.draw_arms.Given as goal

abbrev pub invariant-loop-j : goal.invariant-loop-j
invariant-loop-j l = record {
  put : l.legs.items ≡ map (nth_arm l.drawer.reach.now l.drawer.workload.now (word l.drawer.seed l.drawer.stream) l.skeleton.shape l.start l.spine l.first) (range_with_len 0 l.j);
}

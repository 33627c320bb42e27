use Rattle.std.proofs.Common.{◌≡◌, ◌+◌, ◌*◌, ◌≤◌, ◌++◌, [], false, length, take}
use Rattle.query_draw.specs.Drawers.{conjuncts_by}
use Rattle.query_draw.proofs.rules.draw_conjuncts.Given as goal

abbrev pub invariant-loop-i : goal.invariant-loop-i
invariant-loop-i l = record {
  put : l.builder ≡ record l.fn.builder { conjuncts = l.fn.builder.conjuncts ++ conjuncts_by l.drawer l.skeleton 0 (take l.i l.legs); taken = l.builder.taken };
  few : l.builder.taken ≤ l.fn.builder.taken + 256 * l.i;
  usable : l.builder.refused ≡ false;
  labels : length l.builder.labels ≡ length l.drawer.schema.now.edges;
  words : l.builder.words ≡ [];
  word : l.builder.word ≡ [];
}

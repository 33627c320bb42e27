use Rattle.std.proofs.Common.{◌≡◌, ◌+◌, ◌*◌, ◌≤◌, ◌++◌, [], false, length, map}
use Rattle.std.specs.List.{range_with_len}
use Rattle.query_draw.specs.Drawers.{word_by}
use Rattle.query_draw.proofs.words.draw_words.Given as goal

abbrev pub invariant-loop-j : goal.invariant-loop-j
invariant-loop-j l = record {
  put : l.builder ≡ record l.fn.builder { words = l.fn.builder.words ++ map (word_by l.drawer l.leg l.i) (range_with_len 0 l.j); taken = l.builder.taken };
  few : l.builder.taken ≤ l.fn.builder.taken + 32 * l.j;
  usable : l.builder.refused ≡ false;
  labels : length l.builder.labels ≡ length l.drawer.schema.now.edges;
  word : l.builder.word ≡ [];
}

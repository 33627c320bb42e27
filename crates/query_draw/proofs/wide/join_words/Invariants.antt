use Rattle.std.proofs.Common.{◌≡◌, length, take}
use Rattle.std.specs.List.{fold}
use Rattle.sel_algebra.specs.Table.{entry, zero_of}
use Rattle.query_terms.specs.Lists.{words_in}
use Rattle.query_draw.specs.Wide.{plus_word}
use Rattle.query_draw.specs.Columns.{AreColumns}
use Rattle.query_draw.specs.Work.{IsWork}
use Rattle.query_draw.proofs.wide.join_words.Given as goal

abbrev pub invariant-loop-span : goal.invariant-loop-span
invariant-loop-span l = record {
  join : AreColumns (length l.schema.kinds) l.work.union (entry (fold (plus_word l.schema) (zero_of l.schema.kinds) (words_in l.query.symbols.now (take l.span-index l.words))));
  work : IsWork l.schema l.work;
  spine : l.work.spine ≡ l.fn.work.spine;
}

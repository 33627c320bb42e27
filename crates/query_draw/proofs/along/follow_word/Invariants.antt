use Rattle.std.proofs.Common.{◌≡◌, length, take}
use Rattle.std.specs.List.{fold}
use Rattle.sel_algebra.specs.Table.{entry, one_of}
use Rattle.query_draw.specs.Wide.{times_symbol}
use Rattle.query_draw.specs.Columns.{AreColumns}
use Rattle.query_draw.specs.Work.{IsWork}
use Rattle.query_draw.proofs.along.follow_word.Given as goal

abbrev pub invariant-loop-symbol : goal.invariant-loop-symbol
invariant-loop-symbol l = record {
  word : AreColumns (length l.schema.kinds) l.work.word (entry (fold (times_symbol l.schema) (one_of l.schema.kinds) (take l.symbol-index l.word)));
  work : IsWork l.schema l.work;
  union : l.work.union ≡ l.fn.work.union;
  spine : l.work.spine ≡ l.fn.work.spine;
}

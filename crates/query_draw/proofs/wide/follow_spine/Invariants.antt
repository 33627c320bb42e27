use Rattle.std.proofs.Common.{length, take}
use Rattle.std.specs.List.{fold}
use Rattle.sel_algebra.specs.Table.{entry, one_of}
use Rattle.query_terms.specs.Lists.{conjuncts_in}
use Rattle.query_draw.specs.Columns.{AreColumns}
use Rattle.query_draw.specs.Wide.{times_conjunct}
use Rattle.query_draw.specs.Work.{IsWork}
use Rattle.query_draw.proofs.wide.follow_spine.Given as goal

abbrev pub invariant-loop-conjunct : goal.invariant-loop-conjunct
invariant-loop-conjunct l = record {
  spine : AreColumns (length l.schema.kinds) l.work.spine (entry (fold (times_conjunct l.schema) (one_of l.schema.kinds) (conjuncts_in l.query.symbols.now l.query.words.now (take l.conjunct-index l.conjuncts))));
  work : IsWork l.schema l.work;
}

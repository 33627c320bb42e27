use Rattle.std.proofs.Common.{◌+◌, false, length, take, slice_index_or, refl, ap, sym, subst, ◌∙◌}
use Rattle.std.specs.List.{fold}
use Rattle.gm_config.specs.Limits.{labels_most}
use Rattle.sel_algebra.specs.Table.{entry, one_at, one_of, times_of}
use Rattle.schema_graph.specs.Edge.{label_of}
use Rattle.query_draw.specs.Columns.{AreColumns}
use Rattle.query_draw.specs.Wide.{symbol_matrix, times_symbol}
use Rattle.query_draw.proofs.ColumnLemmas.{AreColumns-table_of}
use Rattle.query_draw.proofs.AlongLemmas.{labelled-at}
use Rattle.query_draw.proofs.WideLemmas.{word_kinds}
use Rattle.query_draw.proofs.MatrixLemmas.{word_more}
use Rattle.query_draw.proofs.along.follow_word.Goals as goal

pub loop-symbol-init : goal.loop-symbol-init
loop-symbol-init c =
    let g = c.args.schema.now in
    let new = c.enter_equal.new.self in
    let one = AreColumns-table_of g.kinds new one_at (subst (λ n. AreColumns n new one_at) c.requires.work.word c.enter_equal.ensures) in
    record {
      word = one;
      work = record {
        few = c.requires.work.few;
        growing = c.requires.work.growing;
        edges = c.requires.work.edges;
        word = one.whole;
        longer = c.requires.work.longer;
        union = c.requires.work.union;
        spine = c.requires.work.spine;
      };
      union = refl;
      spine = refl;
    }

pub follow_symbol-requires-clause-edges : goal.follow_symbol-requires-clause-edges
follow_symbol-requires-clause-edges c =
    let g = c.args.schema.now in
    let lists = c.loop-symbol.work.edges.items in
    let s = slice_index_or c.args.word.now c.loop-symbol.symbol-index (record { edge = 0; back = false }) in
    let none = c.index.result.now in
    c.as_slice-edges.ensures
    ∙ (c.index.ensures ∙ (ap (λ l. slice_index_or lists l none) c.label_of.ensures.label
    ∙ labelled-at g.edges lists labels_most (label_of g.edges s) none c.loop-symbol.invariant.work.edges c.label_of.ensures.within.label))

pub loop-symbol-preserved : goal.loop-symbol-preserved
loop-symbol-preserved c =
    let g = c.args.schema.now in
    let n = length g.kinds in
    let work = c.loop-symbol.work in
    let kept = c.loop-symbol.invariant in
    let i = c.loop-symbol.symbol-index in
    let word = c.args.word.now in
    let s = slice_index_or word i (record { edge = 0; back = false }) in
    let t = fold (times_symbol g) (one_of g.kinds) (take i word) in
    let new = c.follow_symbol.new.product in
    let product = c.follow_symbol.ensures.product t (word_kinds g (one_of g.kinds) (take i word)) kept.word in
    let more = word_more g t (symbol_matrix g s) (times_of t (symbol_matrix g s)) word i (record { edge = 0; back = false }) c.loop-symbol-test.true refl refl refl in
    let swapped = c.swap.ensures.x_after in
    record {
      word = subst (λ cs. AreColumns n cs (entry (fold (times_symbol g) (one_of g.kinds) (take (i + 1) word)))) (sym swapped) (subst (λ m. AreColumns n new (entry m)) more product);
      work = record {
        few = kept.work.few;
        growing = kept.work.growing;
        edges = kept.work.edges;
        word = ap length swapped ∙ c.follow_symbol.ensures.whole;
        longer = ap length c.swap.ensures.y_after ∙ kept.work.word;
        union = kept.work.union;
        spine = kept.work.spine;
      };
      union = kept.union;
      spine = kept.spine;
    }

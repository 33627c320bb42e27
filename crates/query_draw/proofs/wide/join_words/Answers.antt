use Rattle.std.proofs.Common.{◌≡◌, length, take, true, refl, sym, ap, subst, ◌∙◌}
use Rattle.std.specs.List.{fold, list_all}
use Rattle.std.proofs.lemmas.List.{take_all}
use Rattle.sel_algebra.specs.Table.{entry, zero_of, plus_of}
use Rattle.sel_algebra.proofs.TableLemmas.{entry-plus_of}
use Rattle.query_terms.specs.Values.{has_edge}
use Rattle.query_terms.specs.Lists.{words_in}
use Rattle.query_draw.specs.Columns.{no_entry, AreColumns, AreJoined}
use Rattle.query_draw.specs.Wide.{word_matrix, plus_word, union_matrix}
use Rattle.query_draw.proofs.ColumnLemmas.{AreColumns-same, AreColumns-table_of, AreColumns-joined}
use Rattle.query_draw.proofs.WideLemmas.{union_kinds}
use Rattle.query_draw.proofs.MatrixLemmas.{word_edges, union_more}
use Rattle.query_draw.proofs.wide.join_words.Goals as goal

pub loop-span-init : goal.loop-span-init
loop-span-init c =
    let g = c.args.schema.now in
    let new = c.clear.new.self in
    let none = AreColumns-table_of g.kinds new no_entry (subst (λ n. AreColumns n new no_entry) c.requires.work.union c.clear.ensures) in
    record {
      join = none;
      work = record {
        few = c.requires.work.few;
        growing = c.requires.work.growing;
        edges = c.requires.work.edges;
        word = c.requires.work.word;
        longer = c.requires.work.longer;
        union = none.whole;
        spine = c.requires.work.spine;
      };
      spine = refl;
    }

pub follow_word-requires-clause-edges : goal.follow_word-requires-clause-edges
follow_word-requires-clause-edges c =
    let n = length c.args.schema.now.edges in
    subst (λ word. list_all (has_edge n) word ≡ true) (sym c.part_of.ensures)
    (word_edges n c.args.query.now.symbols.now c.args.words.now c.loop-span.span-index _ c.requires.edges c.loop-span-test.true)

pub loop-span-preserved : goal.loop-span-preserved
loop-span-preserved c =
    let g = c.args.schema.now in
    let n = length g.kinds in
    let symbols = c.args.query.now.symbols.now in
    let words = c.args.words.now in
    let i = c.loop-span.span-index in
    let kept = c.loop-span.invariant in
    let work = c.follow_word.new.work in
    let follows = c.follow_word.ensures in
    let new = c.join.new.self in
    let t = fold (plus_word g) (zero_of g.kinds) (words_in symbols (take i words)) in
    let same : t.kinds ≡ g.kinds = union_kinds g (zero_of g.kinds) (words_in symbols (take i words)) in
    let w = word_matrix g c.part_of.result.now in
    let first : AreColumns n work.union (entry t) = subst (λ cs. AreColumns n cs (entry t)) (sym follows.union) kept.join in
    let joins = AreColumns-joined n work.union work.word new (entry t) (entry w) first follows.word (subst (AreJoined work.union work.word new) first.whole c.join.ensures) in
    let sum : AreColumns n new (entry (plus_of t w)) = AreColumns-same n new _ (entry (plus_of t w)) (λ i j p q. sym (entry-plus_of t w i j (rw same p) (rw same q))) joins in
    let more = union_more g symbols t w (plus_of t w) words i _ c.loop-span-test.true refl (ap (word_matrix g) c.part_of.ensures) refl in
    record {
      join = subst (λ m. AreColumns n new (entry m)) more sum;
      work = record {
        few = follows.work.few;
        growing = follows.work.growing;
        edges = follows.work.edges;
        word = follows.work.word;
        longer = follows.work.longer;
        union = sum.whole;
        spine = follows.work.spine;
      };
      spine = follows.spine ∙ kept.spine;
    }

pub returns-clause-union : goal.returns-clause-union
returns-clause-union c =
    let g = c.args.schema.now in
    let all = ap (λ ws. union_matrix g (words_in c.args.query.now.symbols.now ws)) (take_all c.loop-span.span-index c.args.words.now c.loop-span-test.false) in
    subst (λ m. AreColumns (length g.kinds) c.loop-span.work.union (entry m)) all c.loop-span.invariant.join

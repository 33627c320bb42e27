use Rattle.std.proofs.Common.{◌≡◌, ◌+◌, length, take, true, refl, sym, ap, subst, ◌∙◌}
use Rattle.std.specs.List.{fold}
use Rattle.std.proofs.lemmas.List.{take_all}
use Rattle.sel_algebra.specs.Table.{entry, one_at, one_of, times_of}
use Rattle.query_terms.specs.Values.{is_conjunct}
use Rattle.query_terms.specs.Lists.{words_in, conjunct_in, conjuncts_in}
use Rattle.query_draw.specs.Columns.{AreColumns}
use Rattle.query_draw.specs.Products.{IsProduct}
use Rattle.query_draw.specs.Wide.{conjunct_matrix, times_conjunct, spine_matrix}
use Rattle.query_draw.proofs.ColumnLemmas.{AreColumns-table_of}
use Rattle.query_draw.proofs.WideLemmas.{spine_kinds}
use Rattle.query_terms.proofs.SpanLemmas.{passes_mapped}
use Rattle.query_draw.proofs.MatrixLemmas.{spine_more}
use Rattle.query_draw.proofs.wide.follow_spine.Goals as goal

pub loop-conjunct-init : goal.loop-conjunct-init
loop-conjunct-init c =
    let g = c.args.schema.now in
    let new = c.enter_equal.new.self in
    let one = AreColumns-table_of g.kinds new one_at (subst (λ n. AreColumns n new one_at) c.requires.work.spine c.enter_equal.ensures) in
    record {
      spine = one;
      work = record {
        few = c.requires.work.few;
        growing = c.requires.work.growing;
        edges = c.requires.work.edges;
        word = c.requires.work.word;
        longer = c.requires.work.longer;
        union = c.requires.work.union;
        spine = one.whole;
      };
    }

pub follow_conjunct-requires-clause-edges : goal.follow_conjunct-requires-clause-edges
follow_conjunct-requires-clause-edges c =
    let q = c.args.query.now in
    let n = length c.args.schema.now.edges in
    let whole = conjunct_in (words_in q.symbols.now q.words.now) in
    let i = c.loop-conjunct.conjunct-index in
    subst (λ x. is_conjunct n (whole x) ≡ true) (sym c.conjunct-item.is)
    (passes_mapped (is_conjunct n) whole c.args.conjuncts.now i c.conjunct-item.result c.requires.edges c.loop-conjunct-test.true)

pub loop-conjunct-preserved : goal.loop-conjunct-preserved
loop-conjunct-preserved c =
    let g = c.args.schema.now in
    let q = c.args.query.now in
    let n = length g.kinds in
    let i = c.loop-conjunct.conjunct-index in
    let item = c.conjunct-item in
    let symbols = q.symbols.now in
    let spans = q.words.now in
    let follows = c.follow_conjunct.ensures in
    let work = c.follow_conjunct.new.work in
    let new = c.multiply.new.product in
    let some = conjuncts_in symbols spans (take i c.args.conjuncts.now) in
    let t = fold (times_conjunct g) (one_of g.kinds) some in
    let m = conjunct_matrix g (conjunct_in (words_in symbols spans) item.result) in
    let first : AreColumns n work.spine (entry t) = subst (λ cs. AreColumns n cs (entry t)) (sym follows.spine) c.loop-conjunct.invariant.spine in
    let multiplies = subst (λ ks. IsProduct ks work.spine work.union new) c.kinds.ensures.kinds c.multiply.ensures.product in
    let product : AreColumns n new (entry (times_of t m)) = multiplies t m (spine_kinds g (one_of g.kinds) some) first follows.union in
    let more = spine_more g symbols spans t m (times_of t m) c.args.conjuncts.now i item.result c.loop-conjunct-test.true (sym item.is) refl refl refl in
    let swapped = c.swap.ensures.x_after in
    let whole : length new ≡ n = product.whole in
    record {
      spine = subst (λ cs. AreColumns n cs (entry (fold (times_conjunct g) (one_of g.kinds) (conjuncts_in symbols spans (take (i + 1) c.args.conjuncts.now))))) (sym swapped) (subst (λ x. AreColumns n new (entry x)) more product);
      work = record {
        few = follows.work.few;
        growing = follows.work.growing;
        edges = follows.work.edges;
        word = follows.work.word;
        longer = ap length c.swap.ensures.y_after ∙ follows.work.spine;
        union = follows.work.union;
        spine = ap length swapped ∙ whole;
      };
    }

pub returns-clause-spine : goal.returns-clause-spine
returns-clause-spine c =
    let g = c.args.schema.now in
    let q = c.args.query.now in
    let all = ap (λ cs. spine_matrix g (conjuncts_in q.symbols.now q.words.now cs)) (take_all c.loop-conjunct.conjunct-index c.args.conjuncts.now c.loop-conjunct-test.false) in
    subst (λ m. AreColumns (length g.kinds) c.loop-conjunct.work.spine (entry m)) all c.loop-conjunct.invariant.spine

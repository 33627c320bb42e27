use Rattle.std.proofs.Common.{◌≡◌, length, true, sym, ap, subst}
use Rattle.std.specs.List.{list_all}
use Rattle.sel_algebra.specs.Table.{entry, zero_of}
use Rattle.query_terms.specs.Values.{is_word}
use Rattle.query_terms.specs.Spans.{lies}
use Rattle.query_terms.specs.Lists.{words_in, conjunct_in}
use Rattle.query_draw.specs.Columns.{AreColumns}
use Rattle.query_draw.specs.Products.{IsClosed}
use Rattle.query_draw.specs.Wide.{union_matrix, conjunct_matrix}
use Rattle.query_draw.proofs.WideLemmas.{union_kinds}
use Rattle.query_draw.proofs.MatrixLemmas.{passes_cut, conjunct_words, plain_matrix, starred_matrix}
use Rattle.query_draw.proofs.wide.follow_conjunct.Goals as goal

pub join_words-requires-clause-lie : goal.join_words-requires-clause-lie
join_words-requires-clause-lie c =
    let q = c.args.query.now in
    let n = length q.symbols.now in
    subst (λ words. list_all (lies n) words ≡ true) (sym c.part_of-words.ensures) (passes_cut (lies n) q.words.now c.args.conjunct.now.words q.words_lie)

pub join_words-requires-clause-edges : goal.join_words-requires-clause-edges
join_words-requires-clause-edges c =
    let q = c.args.query.now in
    let n = length c.args.schema.now.edges in
    subst (λ words. list_all (is_word n) (words_in q.symbols.now words) ≡ true) (sym c.part_of-words.ensures) (conjunct_words n q.symbols.now q.words.now c.args.conjunct.now c.requires.edges)

pub returns-then-conjunct-clause-union : goal.returns-then-conjunct-clause-union
returns-then-conjunct-clause-union c =
    let g = c.args.schema.now in
    let q = c.args.query.now in
    let n = length g.kinds in
    let words = words_in q.symbols.now c.part_of-words.result.now in
    let union = c.join_words.new.work.union in
    let closure = c.close.new.closure in
    let closes = subst (λ ks. IsClosed ks union closure) c.kinds.ensures.kinds c.close.ensures.closure in
    let whole = starred_matrix g q.symbols.now q.words.now c.args.conjunct.now (union_matrix g words) c.if-conjunct.true (ap (λ ws. union_matrix g (words_in q.symbols.now ws)) c.part_of-words.ensures) in
    subst (λ cs. AreColumns n cs (entry (conjunct_matrix g (conjunct_in (words_in q.symbols.now q.words.now) c.args.conjunct.now)))) (sym c.swap.ensures.x_after)
    (subst (λ m. AreColumns n closure (entry m)) whole (closes (union_matrix g words) (union_kinds g (zero_of g.kinds) words) c.join_words.ensures.union))

pub returns-else-conjunct-clause-union : goal.returns-else-conjunct-clause-union
returns-else-conjunct-clause-union c =
    let g = c.args.schema.now in
    let q = c.args.query.now in
    let words = words_in q.symbols.now c.part_of-words.result.now in
    let whole = plain_matrix g q.symbols.now q.words.now c.args.conjunct.now (union_matrix g words) c.if-conjunct.false (ap (λ ws. union_matrix g (words_in q.symbols.now ws)) c.part_of-words.ensures) in
    subst (λ m. AreColumns (length g.kinds) c.join_words.new.work.union (entry m)) whole c.join_words.ensures.union

use Rattle.std.proofs.Common.{◌↔◌, subst}
use Rattle.std.specs.List.{Contains}
use Rattle.std.proofs.lemmas.List.Elements.{Contains-get_or}
use Rattle.std.proofs.lemmas.Option.{get_or_from_slice_get}
use Rattle.std.proofs.lemmas.Result.{IfOk-weaker}
use Rattle.path_pairs.specs.Pairs.{Pairs}
use Rattle.query_terms.specs.Trees.{tree_at}
use Rattle.rpq_meaning.specs.QueryRows.{ArePairs}
use Rattle.rpq_meaning.proofs.QueryLemmas.{inside_all, value_at}
use Rattle.rpq_meaning.proofs.queries.conjunct_pairs.Goals as goal

pub term_pairs-requires : goal.term_pairs-requires
term_pairs-requires c = inside_all _ c.args.query.now.conjuncts.now c.args.query.now.terms_lie _ (Contains-get_or _ _ c.index-query-i.result c.requires)

pub returns-clause-words : goal.returns-clause-words
returns-clause-words c =
    let q = c.args.query.now in
    let tree_is = value_at q.labels.now q.symbols.now q.words.now q.conjuncts.now q.rules.now q.terms q.rules_cover q.rules_are q.terms_are q.numbers_are in
    IfOk-weaker c.term_pairs.result _ _
    (λ pairs is v at a b. subst (λ p. Contains pairs (a, b) ↔ Pairs p c.args.graph.now a b) (tree_is c.args.i c.index-query-i.result v c.requires at) (is a b))
    c.term_pairs.ensures.pairs

pub returns-clause-term : goal.returns-clause-term
returns-clause-term c =
    let q = c.args.query.now in
    IfOk-weaker c.term_pairs.result _ _
    (λ pairs is d at. subst (λ e. ArePairs c.args.graph.now (tree_at q.terms e.term) pairs) (get_or_from_slice_get q.conjuncts.now c.args.i d c.index-query-i.result at) is)
    c.term_pairs.ensures.pairs

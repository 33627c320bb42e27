-- The symbols of a query's words have labels with names, since each of its terms has.
use Rattle.std.proofs.Common.{◌≡◌, ◌<◌, ◌≤◌, ℕ, zero, suc, Bool, true, false, ◌&&◌, nat_lt, List, [], ◌∷◌, length, map, slice_index, slice_index_or, refl, sym, ap, subst, ◌∙◌, arith}
use Rattle.std.specs.List.{Contains, All, fold, list_all}
use Rattle.std.specs.Prelude.{if◌then◌else◌}
use Rattle.std.proofs.lemmas.Bool.{and_parts, ltb-true}
use Rattle.std.proofs.lemmas.List.{length-map}
use Rattle.std.proofs.lemmas.List.Elements.{Contains-get_or}
use Rattle.graph_text.proofs.MemberLemmas.{Contains-map, list_all-member}
use Rattle.gm_text.specs.declared.lists.Span.{Span}
use Rattle.sel_algebra.specs.declared.vocabulary.Symbol.{Symbol}
use Rattle.path_pairs.specs.Trees.{Tree, nested, step_tree, word_tree, union_tree}
use Rattle.query_terms.specs.declared.query.Query.{Query}
use Rattle.query_terms.specs.declared.terms.Term.{Term}
use Rattle.query_terms.specs.declared.terms.Term.TheVariants.{Step, Seq, Alt, Star, Opt}
use Rattle.query_terms.specs.declared.terms.Conjunct.{Conjunct}
use Rattle.query_terms.specs.Store.{ChildrenBelow, IsStore}
use Rattle.query_terms.specs.Trees.{tree_of, trees_of, tree_at}
use Rattle.query_terms.specs.Values.{has_edge, is_word, is_conjunct, is_rule, arity_of, have_heads}
use Rattle.query_terms.specs.Lists.{words_in, rules_in}
use Rattle.query_terms.specs.Spans.{cut, lies}
use Rattle.query_terms.specs.Laws.{tree_of_conjunct}
use Rattle.query_terms.proofs.SpanLemmas.{and_true, cut-map}
use Rattle.query_terms.proofs.QueryLemmas.{conjuncts_are, conjuncts_keep}
use Rattle.rpq_meaning.proofs.QueryLemmas.{cut-member, inside_all, tree_of_term}
use Rattle.sparql_emit.specs.Laws.{has_label}
use Rattle.sparql_emit.specs.Words.{conjunct_of, SymbolFits, WordFits, ConjunctFits}
use Rattle.sparql_emit.proofs.TodoLemmas.{IsHere, is_here, tree_is, list_all-get}

-- each step of the tree has one of so many labels
abbrev tree_fits : ℕ → Tree → Bool
tree_fits count (Tree.Step label back) = nat_lt label count
tree_fits count (Tree.Seq first second) = tree_fits count first && tree_fits count second
tree_fits count (Tree.Alt left right) = tree_fits count left && tree_fits count right
tree_fits count (Tree.Star child) = tree_fits count child
tree_fits count (Tree.Opt child) = tree_fits count child

module _ (count : ℕ) where
  -- ---- the trees of terms

  module _ (terms : List Term) (store : IsStore terms) (labelled : list_all (has_label count) terms ≡ true) where
    term_fits : (k : ℕ) (t : Term) → has_label count t ≡ true → ChildrenBelow k t → ((j : ℕ) → j < k → tree_fits count (tree_at terms j) ≡ true)
        → tree_fits count (tree_of (trees_of terms) t) ≡ true
    term_fits k (Step label back) has below fits = has
    term_fits k (Seq a b) has below fits = and_true (fits a below.0) (fits b below.1)
    term_fits k (Alt a b) has below fits = and_true (fits a below.0) (fits b below.1)
    term_fits k (Star a) has below fits = fits a below
    term_fits k (Opt a) has below fits = fits a below

    trees_below_fit : (n k : ℕ) → k < n → n ≤ length terms → tree_fits count (tree_at terms k) ≡ true
    trees_below_fit zero k less most = absurd (omega (arith, less))
    trees_below_fit (suc n) k less most =
        let here : IsHere terms k = is_here terms k (omega (arith, less, most)) in
        ap (tree_fits count) (tree_is terms k here.term store here.at)
        ∙ term_fits k here.term (list_all-get (has_label count) terms k here.term labelled here.at) (store.children k here.term here.at)
        (λ j before. trees_below_fit n j (omega (arith, before, less)) (omega (arith, most)))

    tree_at_fits : (k : ℕ) → k < length terms → tree_fits count (tree_at terms k) ≡ true
    tree_at_fits k less = trees_below_fit (length terms) k less (omega arith)

  -- ---- what is joined fits where the whole does

  module _ {X : Type 0} (join : Tree → Tree → Tree) (both : (a b : Tree) → tree_fits count (join a b) ≡ (tree_fits count a && tree_fits count b)) (tree : X → Tree) where
    folded_fit : (t : Tree) (xs : List X) → tree_fits count (fold join t (map tree xs)) ≡ true → (tree_fits count t && list_all (λ x. tree_fits count (tree x)) xs) ≡ true
    folded_fit t [] fits = and_true fits refl
    folded_fit t (x ∷ xs) fits =
        let rest = and_parts _ (list_all (λ x. tree_fits count (tree x)) xs) (folded_fit (join t (tree x)) xs fits) in
        let parts = and_parts (tree_fits count t) (tree_fits count (tree x)) (sym (both t (tree x)) ∙ rest.0) in
        and_true parts.0 (and_true parts.1 rest.1)

    nested_fit : (xs : List X) → tree_fits count (nested join (map tree xs)) ≡ true → list_all (λ x. tree_fits count (tree x)) xs ≡ true
    nested_fit [] fits = refl
    nested_fit (x ∷ xs) fits = folded_fit (tree x) xs fits

  starred_fits : (star : Bool) (t : Tree) → tree_fits count (if star then Tree.Star t else t) ≡ tree_fits count t
  starred_fits true t = refl
  starred_fits false t = refl

  -- ---- words and conjuncts

  symbols_fit : (labels : List ℕ) (word : List Symbol) → list_all (has_edge (length labels)) word ≡ true → tree_fits count (word_tree labels word) ≡ true
      → All (SymbolFits labels count) word
  symbols_fit labels word edges fits k d within =
      let s = slice_index_or word k d in
      let has : Contains word s = Contains-get_or word k d within in
      record {
        edge = ltb-true s.edge (length labels) (list_all-member (has_edge (length labels)) word edges s has);
        label = ltb-true (slice_index labels s.edge) count
            (list_all-member (λ x. tree_fits count (step_tree labels x)) word (nested_fit Tree.Seq (λ a b. refl) (step_tree labels) word fits) s has);
      }

  module _ (q : Query) where
    word_fits : (span : Span) → lies (length q.symbols.now) span ≡ true → is_word (length q.labels.now) (cut q.symbols.now span) ≡ true
        → tree_fits count (word_tree q.labels.now (cut q.symbols.now span)) ≡ true → WordFits q count span
    word_fits span lie is fits =
        let word = cut q.symbols.now span in
        let parts = and_parts (nat_lt 0 (length word)) (list_all (has_edge (length q.labels.now)) word) is in
        record { part = lie; some = ltb-true 0 (length word) parts.0; each = symbols_fit q.labels.now word parts.1 fits }

    -- the conjunct's words, cut out of the query's
    conjunct_fits : (c : Conjunct) → lies (length q.words.now) c.words ≡ true → is_conjunct (length q.labels.now) (conjunct_of q c) ≡ true
        → tree_fits count (tree_of_conjunct q.labels.now (conjunct_of q c)) ≡ true → ConjunctFits q count c
    conjunct_fits c lie is fits =
        let edges = length q.labels.now in
        let spans = cut q.words.now c.words in
        let same : cut (words_in q.symbols.now q.words.now) c.words ≡ words_in q.symbols.now spans = cut-map (cut q.symbols.now) q.words.now c.words in
        let words = words_in q.symbols.now spans in
        let parts = and_parts (nat_lt 0 (length words)) (list_all (is_word edges) words) (subst (λ ws. (nat_lt 0 (length ws) && list_all (is_word edges) ws) ≡ true) same is) in
        let trees = nested_fit Tree.Alt (λ a b. refl) (word_tree q.labels.now) words
        (subst (λ ws. tree_fits count (union_tree q.labels.now ws) ≡ true) same (sym (starred_fits c.star (union_tree q.labels.now (conjunct_of q c).words)) ∙ fits)) in
        record {
          part = lie;
          some = subst (λ n. 0 < n) (length-map spans (cut q.symbols.now)) (ltb-true 0 (length words) parts.0);
          each = λ k d within.
              let span = slice_index_or spans k d in
              let has : Contains spans span = Contains-get_or spans k d within in
              let word_has : Contains words (cut q.symbols.now span) = Contains-map (cut q.symbols.now) spans span has in
              word_fits span
              (list_all-member (lies (length q.symbols.now)) q.words.now q.words_lie span (cut-member q.words.now c.words span has))
              (list_all-member (is_word edges) words parts.1 (cut q.symbols.now span) word_has)
              (list_all-member (λ word. tree_fits count (word_tree q.labels.now word)) words trees (cut q.symbols.now span) word_has);
        }

    -- each conjunct of a query whose terms have labels with names
    pub conjuncts_fit : IsStore q.terms → list_all (has_label count) q.terms ≡ true → All (ConjunctFits q count) q.conjuncts.now
    conjuncts_fit store labelled k d within =
        let edges = length q.labels.now in
        let rules = rules_in q.symbols.now q.words.now q.conjuncts.now q.rules.now in
        let c = slice_index_or q.conjuncts.now k d in
        let has : Contains q.conjuncts.now c = Contains-get_or q.conjuncts.now k d within in
        let each = (and_parts (nat_lt 0 (length rules)) (list_all (is_rule edges) rules) (and_parts _ (have_heads (arity_of rules) rules) q.rules_are).0).1 in
        let are = subst (λ cs. list_all (is_conjunct edges) cs ≡ true) (conjuncts_are q.symbols.now q.words.now q.conjuncts.now q.rules.now q.rules_cover) (conjuncts_keep edges rules each) in
        conjunct_fits c
        (list_all-member (lies (length q.words.now)) (map (λ c. c.words) q.conjuncts.now) q.conjuncts_lie c.words (Contains-map (λ c. c.words) q.conjuncts.now c has))
        (list_all-member (is_conjunct edges) (map (conjunct_of q) q.conjuncts.now) are (conjunct_of q c) (Contains-map (conjunct_of q) q.conjuncts.now c has))
        (ap (tree_fits count) (sym (tree_of_term q.labels.now q.symbols.now q.words.now q.conjuncts.now q.rules.now q.terms q.rules_cover q.rules_are q.terms_are q.numbers_are c has))
        ∙ tree_at_fits q.terms store labelled c.term (inside_all (length q.terms) q.conjuncts.now q.terms_lie c has))

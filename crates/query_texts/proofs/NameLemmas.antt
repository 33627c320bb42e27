-- The labels of a query have names under its head, and these differ.
use Rattle.std.proofs.Common.{◌≡◌, ◌≢◌, ℕ, suc, ◌<◌, Bool, true, false, nat_lt, List, [], ◌∷◌, length, map, fold, get_or, slice_index, AllPairs, refl, arith, bytes_eq}
use Rattle.std.specs.List.{list_all, list_any}
use Rattle.std.proofs.lemmas.Bool.{and_parts}
use Rattle.std.proofs.lemmas.List.Elements.{All-get_or, All-map}
use Rattle.std.proofs.lemmas.Slice.Eq.{bytes_eq-Decides}
use Rattle.gm_text.specs.Name.{is_name, IsName}
use Rattle.path_pairs.specs.Trees.{Tree, nested, step_tree, word_tree, union_tree, conjunct_tree}
use Rattle.sel_algebra.specs.declared.vocabulary.Symbol.{Symbol}
use Rattle.schema_graph.specs.declared.edge.SchemaEdge.{SchemaEdge}
use Rattle.query_terms.specs.Values.{ConjunctValue, has_edge}
use Rattle.sparql_read.specs.Text.{are_different}
use Rattle.sparql_emit.specs.PathText.{name_of}
use Rattle.sparql_emit.specs.Laws.{has_names, conjunct_has_names}
use Rattle.workload_text.specs.Values.{HeadValue, AreNames, IsHead, labels_of, is_short_word}
use Rattle.query_texts.proofs.RuleLemmas.{both, below, from-below, list_all-from_All}
use Rattle.query_texts.proofs.TermLemmas.{passes-at, is_short}

-- ---- names that differ

false-from : (b : Bool) → (b ≡ true → ⊥) → b ≡ false
false-from true no_way = absurd (no_way refl)
false-from false no_way = refl

none-any : (name : List ℕ) (names : List (List ℕ)) → ((k : ℕ) (d : List ℕ) → k < length names → name ≢ get_or names k d) → list_any (bytes_eq name) names ≡ false
none-any name [] differ = refl
none-any name (first ∷ names) differ =
    rw (false-from (bytes_eq name first) (λ same. differ 0 first (omega arith) ((bytes_eq-Decides name first).0 same)))
    (none-any name names (λ k d within. differ (suc k) d (omega (arith, within))))

pub names-different : (names : List (List ℕ)) → AllPairs (λ a b. a ≢ b) names → are_different names ≡ true
names-different [] differ = refl
names-different (name ∷ names) differ =
    rw (none-any name names (λ k d within. differ 0 (suc k) d (omega arith) (omega (arith, within))))
    (names-different names (λ i j d less within. differ (suc i) (suc j) d (omega (arith, less)) (omega (arith, within))))

-- each label of the edges is the number of a name
pub labels-known : (h : HeadValue) → IsHead h → list_all (λ l. nat_lt l (length h.labels)) (labels_of h.schema.edges) ≡ true
labels-known h is =
    list_all-from_All (λ l. nat_lt l (length h.labels)) (λ l. l < length h.labels) (labels_of h.schema.edges) (λ l less. below l (length h.labels) less)
    (All-map (λ l. l < length h.labels) (λ (e : SchemaEdge). e.label) h.schema.edges is.named)

-- ---- names of the labels of paths

module _ (names : List (List ℕ)) (are : AreNames names) where
  name-there : (label : ℕ) → label < length names → is_name (name_of names label) ≡ true
  name-there label within = All-get_or IsName names label [] within are.each

  module _ (labels : List ℕ) (known : list_all (λ l. nat_lt l (length names)) labels ≡ true) where
    joined-named : (join : Tree → Tree → Tree) → ((a b : Tree) → has_names names a ≡ true → has_names names b ≡ true → has_names names (join a b) ≡ true)
        → (tree : Tree) (trees : List Tree) → has_names names tree ≡ true → list_all (has_names names) trees ≡ true → has_names names (fold join tree trees) ≡ true
    joined-named join each tree [] first all = first
    joined-named join each tree (next ∷ trees) first all =
        let parts = and_parts (has_names names next) (list_all (has_names names) trees) all in
        joined-named join each (join tree next) trees (each tree next first parts.0) parts.1

    nested-named : (join : Tree → Tree → Tree) → ((a b : Tree) → has_names names a ≡ true → has_names names b ≡ true → has_names names (join a b) ≡ true)
        → (trees : List Tree) → list_all (has_names names) trees ≡ true → has_names names (nested join trees) ≡ true
    nested-named join each [] all = name-there 0 are.some
    nested-named join each (tree ∷ trees) all =
        let parts = and_parts (has_names names tree) (list_all (has_names names) trees) all in
        joined-named join each tree trees parts.0 parts.1

    step-named : (s : Symbol) → has_edge (length labels) s ≡ true → has_names names (step_tree labels s) ≡ true
    step-named s edge =
        let label = slice_index labels s.edge in
        name-there label (from-below label (length names) (passes-at (λ l. nat_lt l (length names)) labels s.edge (from-below s.edge (length labels) edge) known))

    steps-named : (word : List Symbol) → list_all (has_edge (length labels)) word ≡ true → list_all (has_names names) (map (step_tree labels) word) ≡ true
    steps-named [] edges = refl
    steps-named (s ∷ word) edges =
        let parts = and_parts (has_edge (length labels) s) (list_all (has_edge (length labels)) word) edges in
        both _ _ (step-named s parts.0) (steps-named word parts.1)

    word-named : (word : List Symbol) → is_short_word (length labels) word ≡ true → has_names names (word_tree labels word) ≡ true
    word-named word short =
        nested-named Tree.Seq (λ a b p q. both _ _ p q) (map (step_tree labels) word)
        (steps-named word (and_parts _ (list_all (has_edge (length labels)) word) short).1)

    words-named : (words : List (List Symbol)) → list_all (is_short_word (length labels)) words ≡ true → list_all (has_names names) (map (word_tree labels) words) ≡ true
    words-named [] short = refl
    words-named (word ∷ words) short =
        let parts = and_parts (is_short_word (length labels) word) (list_all (is_short_word (length labels)) words) short in
        both _ _ (word-named word parts.0) (words-named words parts.1)

    starred-named : (star : Bool) (words : List (List Symbol)) → has_names names (union_tree labels words) ≡ true → has_names names (conjunct_tree labels star words) ≡ true
    starred-named true words named = named
    starred-named false words named = named

    pub conjunct-named : (c : ConjunctValue) → is_short (length labels) c ≡ true → conjunct_has_names names labels c ≡ true
    conjunct-named c short =
        starred-named c.star c.words
        (nested-named Tree.Alt (λ a b p q. both _ _ p q) (map (word_tree labels) c.words)
        (words-named c.words (and_parts _ (list_all (is_short_word (length labels)) c.words) short).1))

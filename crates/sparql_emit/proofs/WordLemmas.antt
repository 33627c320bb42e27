-- The path of words is written symbol by symbol and word by word, with no parentheses but those of a repetition.
use Rattle.std.proofs.Common.{◌≡◌, ◌<◌, ℕ, Bool, true, false, List, [], ◌∷◌, ◌++◌, length, map, codes, refl, sym, ap, subst, ◌∙◌, true≢false, arith}
use Rattle.std.specs.List.{Contains, fold, flat_map, join_by, list_all}
use Rattle.std.proofs.lemmas.Bool.{and_parts}
use Rattle.std.proofs.lemmas.List.{append-nil, append_assoc, length-map}
use Rattle.std.proofs.lemmas.List.Elements.{All-contains}
use Rattle.std.proofs.lemmas.List.Folds.{list_all-map}
use Rattle.graph_text.proofs.MemberLemmas.{Contains-first, Contains-later, Contains-from_map}
use Rattle.gm_text.specs.declared.lists.Span.{Span}
use Rattle.sel_algebra.specs.declared.vocabulary.Symbol.{Symbol}
use Rattle.path_pairs.specs.Trees.{Tree, step_tree, word_tree, union_tree, conjunct_tree}
use Rattle.query_terms.specs.declared.query.Query.{Query}
use Rattle.query_terms.specs.declared.terms.Conjunct.{Conjunct}
use Rattle.query_terms.specs.Lists.{words_in}
use Rattle.query_terms.specs.Spans.{cut}
use Rattle.query_terms.specs.Laws.{tree_of_conjunct}
use Rattle.query_terms.proofs.SpanLemmas.{and_true, cut-map}
use Rattle.sparql_emit.specs.PathText.{in_parentheses, is_alt, path_text_of}
use Rattle.sparql_emit.specs.Laws.{has_names}
use Rattle.sparql_emit.specs.Words.{conjunct_of, symbol_text, word_text, symbol_has_name, word_has_names, WordFits, ConjunctFits}
use Rattle.sparql_emit.proofs.QueryLemmas.{join_by-map}

-- a word is no choice
steps_no_alt : (labels : List ℕ) (tree : Tree) (word : List Symbol) → is_alt tree ≡ false → is_alt (fold Tree.Seq tree (map (step_tree labels) word)) ≡ false
steps_no_alt labels tree [] plain = plain
steps_no_alt labels tree (s ∷ word) plain = steps_no_alt labels (Tree.Seq tree (step_tree labels s)) word refl

word_no_alt : (labels : List ℕ) (word : List Symbol) → is_alt (word_tree labels word) ≡ false
word_no_alt labels [] = refl
word_no_alt labels (s ∷ word) = steps_no_alt labels (step_tree labels s) word refl

-- the words, with `|` between two
abbrev union_text : List (List ℕ) → List ℕ → List (List Symbol) → List ℕ
union_text names labels words = join_by (word_text names labels) (codes "|") words

module _ (names : List (List ℕ)) (labels : List ℕ) where
  -- ---- texts

  -- a path that is no choice, and then symbols
  steps_text : (tree : Tree) (word : List Symbol) → is_alt tree ≡ false
      → path_text_of names (fold Tree.Seq tree (map (step_tree labels) word)) ≡ path_text_of names tree ++ flat_map (λ s. codes "/" ++ symbol_text names labels s) word
  steps_text tree [] plain = sym (append-nil (path_text_of names tree))
  steps_text tree (s ∷ word) plain =
      let step = codes "/" ++ symbol_text names labels s in
      let rest = flat_map (λ s. codes "/" ++ symbol_text names labels s) word in
      steps_text (Tree.Seq tree (step_tree labels s)) word refl
      ∙ (ap (λ b. (in_parentheses b (path_text_of names tree) ++ step) ++ rest) plain ∙ append_assoc (path_text_of names tree) step rest)

  word_text_is : (word : List Symbol) → 0 < length word → path_text_of names (word_tree labels word) ≡ word_text names labels word
  word_text_is [] some = absurd (omega (arith, some))
  word_text_is (s ∷ word) some = steps_text (step_tree labels s) word refl

  -- a path, or one of words
  words_text : (tree : Tree) (words : List (List Symbol)) → ((word : List Symbol) → Contains words word → 0 < length word)
      → path_text_of names (fold Tree.Alt tree (map (word_tree labels) words)) ≡ path_text_of names tree ++ flat_map (λ word. codes "|" ++ word_text names labels word) words
  words_text tree [] some = sym (append-nil (path_text_of names tree))
  words_text tree (word ∷ words) some =
      let rest = flat_map (λ word. codes "|" ++ word_text names labels word) words in
      words_text (Tree.Alt tree (word_tree labels word)) words (λ w has. some w (Contains-later word w words has))
      ∙ (ap (λ b. (path_text_of names tree ++ (codes "|" ++ in_parentheses b (path_text_of names (word_tree labels word)))) ++ rest) (word_no_alt labels word)
      ∙ (ap (λ (bs : List ℕ). (path_text_of names tree ++ (codes "|" ++ bs)) ++ rest) (word_text_is word (some word (Contains-first word words)))
      ∙ append_assoc (path_text_of names tree) (codes "|" ++ word_text names labels word) rest))

  union_text_is : (words : List (List Symbol)) → 0 < length words → ((word : List Symbol) → Contains words word → 0 < length word)
      → path_text_of names (union_tree labels words) ≡ union_text names labels words
  union_text_is [] one some = absurd (omega (arith, one))
  union_text_is (word ∷ words) one some =
      let rest = flat_map (λ word. codes "|" ++ word_text names labels word) words in
      words_text (word_tree labels word) words (λ w has. some w (Contains-later word w words has))
      ∙ ap (λ (bs : List ℕ). bs ++ rest) (word_text_is word (some word (Contains-first word words)))

  -- ---- names

  steps_named : (tree : Tree) (word : List Symbol) → has_names names tree ≡ true → word_has_names names labels word ≡ true
      → has_names names (fold Tree.Seq tree (map (step_tree labels) word)) ≡ true
  steps_named tree [] first named = first
  steps_named tree (s ∷ word) first named =
      let parts = and_parts (symbol_has_name names labels s) (word_has_names names labels word) named in
      steps_named (Tree.Seq tree (step_tree labels s)) word (and_true first parts.0) parts.1

  word_named : (word : List Symbol) → 0 < length word → word_has_names names labels word ≡ true → has_names names (word_tree labels word) ≡ true
  word_named [] some named = absurd (omega (arith, some))
  word_named (s ∷ word) some named =
      let parts = and_parts (symbol_has_name names labels s) (word_has_names names labels word) named in
      steps_named (step_tree labels s) word parts.0 parts.1

  words_named : (tree : Tree) (words : List (List Symbol)) → ((word : List Symbol) → Contains words word → 0 < length word) → has_names names tree ≡ true
      → list_all (word_has_names names labels) words ≡ true → has_names names (fold Tree.Alt tree (map (word_tree labels) words)) ≡ true
  words_named tree [] some first named = first
  words_named tree (word ∷ words) some first named =
      let parts = and_parts (word_has_names names labels word) (list_all (word_has_names names labels) words) named in
      words_named (Tree.Alt tree (word_tree labels word)) words (λ w has. some w (Contains-later word w words has))
      (and_true first (word_named word (some word (Contains-first word words)) parts.0)) parts.1

  union_named : (words : List (List Symbol)) → 0 < length words → ((word : List Symbol) → Contains words word → 0 < length word)
      → list_all (word_has_names names labels) words ≡ true → has_names names (union_tree labels words) ≡ true
  union_named [] one some named = absurd (omega (arith, one))
  union_named (word ∷ words) one some named =
      let parts = and_parts (word_has_names names labels word) (list_all (word_has_names names labels) words) named in
      words_named (word_tree labels word) words (λ w has. some w (Contains-later word w words has))
      (word_named word (some word (Contains-first word words)) parts.0) parts.1

  -- ---- a repetition, or none

  starred_text : (star : Bool) (words : List (List Symbol)) → star ≡ true → 0 < length words → ((word : List Symbol) → Contains words word → 0 < length word)
      → path_text_of names (conjunct_tree labels star words) ≡ codes "(" ++ (union_text names labels words ++ codes ")*")
  starred_text true words is one some = ap (λ (bs : List ℕ). codes "(" ++ (bs ++ codes ")*")) (union_text_is words one some)
  starred_text false words is one some = absurd (true≢false (sym is))

  plain_text : (star : Bool) (words : List (List Symbol)) → star ≡ false → 0 < length words → ((word : List Symbol) → Contains words word → 0 < length word)
      → path_text_of names (conjunct_tree labels star words) ≡ union_text names labels words
  plain_text true words is one some = absurd (true≢false is)
  plain_text false words is one some = union_text_is words one some

  either_named : (star : Bool) (words : List (List Symbol)) → 0 < length words → ((word : List Symbol) → Contains words word → 0 < length word)
      → list_all (word_has_names names labels) words ≡ true → has_names names (conjunct_tree labels star words) ≡ true
  either_named true words one some named = union_named words one some named
  either_named false words one some named = union_named words one some named

-- ---- a conjunct of a query

module _ (names : List (List ℕ)) (q : Query) (count : ℕ) (c : Conjunct) (fits : ConjunctFits q count c) (spans : List Span) (are : spans ≡ cut q.words.now c.words) where
  abbrev labels : List ℕ
  labels = q.labels.now

  abbrev words : List (List Symbol)
  words = (conjunct_of q c).words

  words_are : words_in q.symbols.now spans ≡ words
  words_are = ap (words_in q.symbols.now) are ∙ sym (cut-map (cut q.symbols.now) q.words.now c.words)

  one_word : 0 < length words
  one_word =
      subst (λ ws. 0 < length ws) (sym (cut-map (cut q.symbols.now) q.words.now c.words))
      (subst (λ n. 0 < n) (sym (length-map (cut q.words.now c.words) (cut q.symbols.now))) fits.some)

  some_symbol : (word : List Symbol) → Contains words word → 0 < length word
  some_symbol word has =
      let spans = cut q.words.now c.words in
      let found = Contains-from_map (cut q.symbols.now) spans word (subst (λ ws. Contains ws word) (cut-map (cut q.symbols.now) q.words.now c.words) has) in
      subst (λ w. 0 < length w) found.2 (All-contains (WordFits q count) spans found.0 fits.each found.1).some

  union_is : join_by (λ span. word_text names labels (cut q.symbols.now span)) (codes "|") spans ≡ union_text names labels words
  union_is = join_by-map (word_text names labels) (codes "|") (cut q.symbols.now) spans ∙ ap (union_text names labels) words_are

  pub path_plain : c.star ≡ false → join_by (λ span. word_text names labels (cut q.symbols.now span)) (codes "|") spans ≡ path_text_of names (tree_of_conjunct labels (conjunct_of q c))
  path_plain plain = union_is ∙ sym (plain_text names labels c.star words plain one_word some_symbol)

  pub path_starred : c.star ≡ true → (out begun now done : List ℕ) → begun ≡ out ++ codes "("
      → now ≡ begun ++ join_by (λ span. word_text names labels (cut q.symbols.now span)) (codes "|") spans → done ≡ now ++ codes ")*"
      → done ≡ out ++ path_text_of names (tree_of_conjunct labels (conjunct_of q c))
  path_starred starred out begun now done begin union end =
      let text = union_text names labels words in
      end
      ∙ (ap (λ (bs : List ℕ). bs ++ codes ")*") (union ∙ λ i. begin i ++ union_is i)
      ∙ (append_assoc (out ++ codes "(") text (codes ")*")
      ∙ (append_assoc out (codes "(") (text ++ codes ")*")
      ∙ ap (λ (bs : List ℕ). out ++ bs) (sym (starred_text names labels c.star words starred one_word some_symbol)))))

  pub path_named : list_all (λ span. word_has_names names labels (cut q.symbols.now span)) spans ≡ true → has_names names (tree_of_conjunct labels (conjunct_of q c)) ≡ true
  path_named named =
      either_named names labels c.star words one_word some_symbol
      (ap (list_all (word_has_names names labels)) (sym words_are) ∙ (list_all-map (word_has_names names labels) (cut q.symbols.now) spans ∙ named))

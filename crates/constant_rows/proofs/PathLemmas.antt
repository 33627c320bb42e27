-- Words, their unions and repetitions fit their matrices.
use Rattle.std.proofs.Common.{◌≡◌, ◌≢◌, inl, inr, ℕ, ◌<◌, Bool, true, false, if◌then◌else◌, List, [], ◌∷◌, length, map, slice_index, refl, sym, subst, ◌∙◌}
use Rattle.std.specs.List.{All, Contains, fold}
use Rattle.std.specs.Option.{IsSome}
use Rattle.sel_algebra.specs.declared.vocabulary.Symbol.{Symbol}
use Rattle.sel_algebra.specs.Table.{Table, entry, zero_of, one_of, times_of}
use Rattle.sel_algebra.specs.Closure.{closure_of}
use Rattle.graph_text.specs.declared.graphs.Triple.{Triple}
use Rattle.graph_text.proofs.MemberLemmas.{Contains-cases, Contains-none}
use Rattle.gm_config.specs.Config.{ConfigValue}
use Rattle.schema_graph.specs.declared.edge.SchemaEdge.{SchemaEdge}
use Rattle.schema_graph.specs.Edge.{no_edge, edge_at, taken, label_of}
use Rattle.schema_graph.specs.Schema.{SchemaValue}
use Rattle.schema_graph.specs.Configured.{kinds_of, schema_of}
use Rattle.path_pairs.specs.Trees.{Tree, step_tree, union_tree}
use Rattle.path_pairs.specs.Pairs.{Pairs, Links}
use Rattle.path_pairs.specs.Words.{WordPairs, UnionPairs}
use Rattle.path_pairs.proofs.WordLemmas.{unions_lead}
use Rattle.query_terms.specs.Values.{ConjunctValue}
use Rattle.rpq_meaning.specs.QueryRows.{ConjunctPairs}
use Rattle.query_draw.specs.Wide.{symbol_matrix, times_symbol, word_matrix, plus_word, union_matrix, conjunct_matrix}
use Rattle.query_draw.proofs.WideLemmas.{union_kinds}
use Rattle.query_draw.proofs.MatrixLemmas.{got_mapped}
use Rattle.constant_rows.specs.Nodes.{IsNodeOfType}
use Rattle.constant_rows.proofs.EntryLemmas.{times-some, plus-left, plus-right, one-some, closure-same, closure-step}
use Rattle.constant_rows.proofs.GraphLemmas.{IsTyped, known_kind, Reaches, Fits, edge-fits}

-- ---- symbols

-- the labels of the edges of a configuration's schema
abbrev pub labels_of : ConfigValue → List ℕ
labels_of config = map (λ e. e.label) (schema_of config).edges

taken-label : (back : Bool) (e : SchemaEdge) → (taken back e).label ≡ e.label
taken-label false e = refl
taken-label true e = refl

label-label_of : (edges : List SchemaEdge) (s : Symbol) → label_of edges s ≡ slice_index (map (λ e. e.label) edges) s.edge
label-label_of edges s = taken-label s.back (edge_at edges s.edge) ∙ sym (got_mapped (λ e. e.label) edges s.edge no_edge)

symbol-fits : (config : ConfigValue) (graph : List Triple) → IsTyped config graph → (s : Symbol)
    → Fits config (symbol_matrix (schema_of config) s) (Pairs (step_tree (labels_of config) s) graph)
symbol-fits config graph typed s =
    let g = schema_of config in
    subst (λ l. Fits config (symbol_matrix g s) (Pairs (Tree.Step l s.back) graph)) (label-label_of g.edges s)
    (edge-fits config graph typed (label_of g.edges s) s.back)

-- ---- products

-- what a relation leads to from there, a product reaches
pub times-reaches : (config : ConfigValue) (m x : Table) → m.kinds ≡ kinds_of config → (R : ℕ → ℕ → Type 0) → Fits config x R
    → (s a b : ℕ) → s < length (kinds_of config) → Reaches config m s a → R a b → Reaches config (times_of m x) s b
times-reaches config m x kinds R fits s a b known (t, of_t, here) pair =
    let (u, of_u, there) = fits t a b of_t pair in
    (u, of_u, times-some m x s t u (rw kinds known) (rw kinds (known_kind config t a of_t)) (rw kinds (known_kind config u b of_u)) here there)

symbols-reach : (config : ConfigValue) (graph : List Triple) → IsTyped config graph
    → (word : List Symbol) (m : Table) → m.kinds ≡ kinds_of config → (s a b : ℕ) → s < length (kinds_of config) → Reaches config m s a
    → WordPairs (labels_of config) graph word a b → Reaches config (fold (times_symbol (schema_of config)) m word) s b
symbols-reach config graph typed [] m kinds s a b known here same = subst (Reaches config m s) same here
symbols-reach config graph typed (c ∷ word) m kinds s a b known here (n, step, rest) =
    let g = schema_of config in
    let more = times-reaches config m (symbol_matrix g c) kinds (Pairs (step_tree (labels_of config) c) graph) (symbol-fits config graph typed c) s a n known here step in
    symbols-reach config graph typed word (times_symbol g m c) kinds s n b known more rest

word-fits : (config : ConfigValue) (graph : List Triple) → IsTyped config graph → (word : List Symbol)
    → Fits config (word_matrix (schema_of config) word) (WordPairs (labels_of config) graph word)
word-fits config graph typed word s a b of_s pairs =
    let known = known_kind config s a of_s in
    symbols-reach config graph typed word (one_of (kinds_of config)) refl s a b known (s, of_s, one-some (kinds_of config) s known) pairs

-- ---- unions

-- an entry stays as further words are joined
plus_words-keeps : (g : SchemaValue) (words : List (List Symbol)) (m : Table) (s t : ℕ) → s < length m.kinds → t < length m.kinds
    → IsSome (entry m s t) → IsSome (entry (fold (plus_word g) m words) s t)
plus_words-keeps g [] m s t p q some = some
plus_words-keeps g (w ∷ words) m s t p q some = plus_words-keeps g words (plus_word g m w) s t p q (plus-left m (word_matrix g w) s t p q some)

plus_words-has : (g : SchemaValue) (words : List (List Symbol)) (m : Table) (word : List Symbol) → Contains words word
    → (s t : ℕ) → s < length m.kinds → t < length m.kinds → IsSome (entry (word_matrix g word) s t) → IsSome (entry (fold (plus_word g) m words) s t)
plus_words-has g [] m word inside s t p q some = absurd (Contains-none word inside)
plus_words-has g (w ∷ words) m word inside s t p q some = elim (Contains-cases w word words inside) [
  | inl same ↦ plus_words-keeps g words (plus_word g m w) s t p q (plus-right m (word_matrix g w) s t p q (subst (λ x. IsSome (entry (word_matrix g x) s t)) (sym same) some))
  | inr later ↦ plus_words-has g words (plus_word g m w) word later s t p q some
]

words-fit : (config : ConfigValue) (graph : List Triple) → IsTyped config graph → (words : List (List Symbol))
    → Fits config (union_matrix (schema_of config) words) (UnionPairs (labels_of config) graph words)
words-fit config graph typed words s a b of_s (word, inside, pairs) =
    let (t, of_t, here) = word-fits config graph typed word s a b of_s pairs in
    (t, of_t, plus_words-has (schema_of config) words (zero_of (kinds_of config)) word inside s t (known_kind config s a of_s) (known_kind config t b of_t) here)

-- ---- repetitions

links-reach : (config : ConfigValue) (m : Table) → m.kinds ≡ kinds_of config → (R : ℕ → ℕ → Type 0) → Fits config m R
    → (rest : List ℕ) (s a b : ℕ) → IsNodeOfType config s a → Links R a rest b → Reaches config (closure_of m) s b
links-reach config m kinds R fits [] s a b of_s links =
    (s, subst (IsNodeOfType config s) links of_s, closure-same m s (rw kinds (known_kind config s a of_s)))
links-reach config m kinds R fits (n ∷ rest) s a b of_s (step, links) =
    let (u, of_u, here) = fits s a n of_s step in
    let (t, of_t, there) = links-reach config m kinds R fits rest u n b of_u links in
    (t, of_t, closure-step m s u t (rw kinds (known_kind config s a of_s)) (rw kinds (known_kind config u n of_u)) (rw kinds (known_kind config t b of_t)) here there)

by_star-fits : (config : ConfigValue) (graph : List Triple) (star : Bool) (m : Table) (path : Tree) → m.kinds ≡ kinds_of config → Fits config m (Pairs path graph)
    → Fits config (if star then closure_of m else m) (Pairs (if star then Tree.Star path else path) graph)
by_star-fits config graph false m path kinds fits = fits
by_star-fits config graph true m path kinds fits = λ s a b of_s chain. links-reach config m kinds (Pairs path graph) fits chain.rest s a b of_s chain.links

-- ---- conjuncts

-- a conjunct has words, and they have symbols
pub record HasWords (c : ConjunctValue) : Type 0 where
  pub some : c.words ≢ []
  pub each : All (λ word. word ≢ []) c.words

pub conjunct-fits : (config : ConfigValue) (graph : List Triple) → IsTyped config graph → (c : ConjunctValue) → HasWords c
    → Fits config (conjunct_matrix (schema_of config) c) (ConjunctPairs (labels_of config) graph c)
conjunct-fits config graph typed c has =
    let g = schema_of config in
    let labels = labels_of config in
    by_star-fits config graph c.star (union_matrix g c.words) (union_tree labels c.words) (union_kinds g (zero_of g.kinds) c.words) (λ s a b of_s pairs.
    words-fit config graph typed c.words s a b of_s ((unions_lead labels graph c.words has.some has.each a b).0 pairs))

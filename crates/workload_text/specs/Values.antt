-- What a workload text says: a head, which names what the queries are about, and queries.
--   HeadValue, WorkValue       a head, and a head with queries
--   labels_of edges            the label of each edge
--   AreNames names             one to 64 names that differ
--   IsHead h                   what is true of a head
--   word_start, word_end       the types at which a word starts and ends
--   is_chain                   each symbol of a word starts where the one before it ends
--   is_short_union .. may_be_starred   the rules on the words of a conjunct
--   IsConjunct, IsRule, IsQuery        the rules on queries under a head
--   IsWork v                   a head and queries that keep all of them
use Rattle.std.specs.Prelude.{◌≡◌, ◌≢◌, ◌⊎◌, ℕ, ◌<◌, ◌≤◌, ◌==◌, Bool, true, not, ◌&&◌, ◌||◌, nat_le, List, [], ◌∷◌, length, map, is_some, IsTrue, All, AllPairs}
use Rattle.std.specs.List.{list_all}
use Rattle.gm_text.specs.Name.{IsName}
use Rattle.sel_algebra.specs.declared.vocabulary.Symbol.{Symbol}
use Rattle.schema_graph.specs.declared.edge.SchemaEdge.{SchemaEdge}
use Rattle.schema_graph.specs.Edge.{start_of, end_of}
use Rattle.schema_graph.specs.Schema.{SchemaValue, IsSchema}
use Rattle.query_terms.specs.Values.{ConjunctValue, RuleValue, QueryValue, is_rule, have_heads, arity_of, has_class, has_edge}

-- the format, the names of the labels and of the types, and the schema of these
pub record HeadValue : Type 0 where
  pub format : ℕ
  pub labels : List (List ℕ)
  pub types : List (List ℕ)
  pub schema : SchemaValue

-- a head, and the queries under it
pub record WorkValue : Type 0 where
  pub head : HeadValue
  pub queries : List QueryValue

-- the label of each edge
abbrev pub labels_of : List SchemaEdge → List ℕ
labels_of edges = map (λ e. e.label) edges

-- ---- limits

-- the most labels, and the most types
abbrev pub names_most : ℕ
names_most = 64

-- the most edges
abbrev pub edges_most : ℕ
edges_most = 128

-- the most queries
abbrev pub queries_most : ℕ
queries_most = 1000

-- the most rules of a query
abbrev pub rules_most : ℕ
rules_most = 4

-- the most conjuncts of a rule
abbrev pub conjuncts_most : ℕ
conjuncts_most = 8

-- the most words of a conjunct
abbrev pub words_most : ℕ
words_most = 8

-- the most symbols of a word
abbrev pub symbols_most : ℕ
symbols_most = 32

-- variables are below it
abbrev pub variables_most : ℕ
variables_most = 16

-- ---- the head

-- names, at least one and no two of them equal
pub record AreNames (names : List (List ℕ)) : Type 0 where
  pub some : 0 < length names
  pub few : length names ≤ names_most
  pub each : All IsName names
  pub differ : AllPairs (λ a b. a ≢ b) names

-- format 1 or 2, names for labels and types, and a schema over them with an edge
pub record IsHead (h : HeadValue) : Type 0 where
  pub format : (h.format ≡ 1) ⊎ (h.format ≡ 2)
  pub labels : AreNames h.labels
  pub types : AreNames h.types
  pub kinds : length h.schema.kinds ≡ length h.types
  pub schema : IsSchema h.schema
  pub edges : 0 < length h.schema.edges
  pub named : All (λ e. e.label < length h.labels) h.schema.edges

-- ---- the words of a conjunct

-- the type at which a word starts
abbrev pub word_start : List SchemaEdge → List Symbol → ℕ
word_start edges [] = 0
word_start edges (s ∷ word) = start_of edges s

-- the type to which symbols lead from a type
abbrev pub end_from : List SchemaEdge → ℕ → List Symbol → ℕ
end_from edges at [] = at
end_from edges at (s ∷ word) = end_from edges (end_of edges s) word

-- the type at which a word ends
abbrev pub word_end : List SchemaEdge → List Symbol → ℕ
word_end edges word = end_from edges (word_start edges word) word

-- the first symbol starts at a type, and each other one where the one before it ends
abbrev pub is_chain_from : List SchemaEdge → ℕ → List Symbol → Bool
is_chain_from edges at [] = true
is_chain_from edges at (s ∷ word) = (start_of edges s == at) && is_chain_from edges (end_of edges s) word

-- each symbol starts where the one before it ends
abbrev pub is_chain : List SchemaEdge → List Symbol → Bool
is_chain edges word = is_chain_from edges (word_start edges word) word

-- not too many symbols, each of an edge
abbrev pub is_short_word : ℕ → List Symbol → Bool
is_short_word edges word = nat_le (length word) symbols_most && list_all (has_edge edges) word

-- not too many words, and such
abbrev pub is_short_union : ℕ → List (List Symbol) → Bool
is_short_union edges words = nat_le (length words) words_most && list_all (is_short_word edges) words

-- the words start at one type, and end at one type
abbrev pub has_ends : List SchemaEdge → ℕ → ℕ → List Symbol → Bool
has_ends edges start finish word = (word_start edges word == start) && (word_end edges word == finish)

-- all words start where the first one does, and end where it does
abbrev pub have_same_ends : List SchemaEdge → List (List Symbol) → Bool
have_same_ends edges [] = true
have_same_ends edges (word ∷ words) = list_all (has_ends edges (word_start edges word) (word_end edges word)) words

-- a word ends where it starts
abbrev pub comes_back : List SchemaEdge → List Symbol → Bool
comes_back edges word = word_end edges word == word_start edges word

-- words that are repeated end where they start
abbrev pub may_be_starred : List SchemaEdge → Bool → List (List Symbol) → Bool
may_be_starred edges star words = not star || list_all (comes_back edges) words

-- ---- queries

-- the rules on a conjunct
pub record IsConjunct (edges : List SchemaEdge) (c : ConjunctValue) : Type 0 where
  pub src : c.src < variables_most
  pub trg : c.trg < variables_most
  pub short : IsTrue (is_short_union (length edges) c.words)
  pub chains : IsTrue (list_all (is_chain edges) c.words)
  pub same_ends : IsTrue (have_same_ends edges c.words)
  pub starred : IsTrue (may_be_starred edges c.star c.words)

-- the rules on a rule of a query
pub record IsRule (edges : List SchemaEdge) (r : RuleValue) : Type 0 where
  pub small : All (λ v. v < variables_most) r.heads
  pub built : IsTrue (is_rule (length edges) r)
  pub few : length r.conjuncts ≤ conjuncts_most
  pub each : All (IsConjunct edges) r.conjuncts

-- the rules on a query: it has classes where its rules have two heads, as in format 1
pub record IsQuery (h : HeadValue) (q : QueryValue) : Type 0 where
  pub labels : q.labels ≡ labels_of h.schema.edges
  pub some : 0 < length q.rules
  pub few : length q.rules ≤ rules_most
  pub each : All (IsRule h.schema.edges) q.rules
  pub arity : IsTrue (have_heads (arity_of q.rules) q.rules)
  pub class : is_some q.class ≡ has_class q.rules
  pub wide : is_some q.wide ≡ has_class q.rules
  pub format : h.format ≡ 1 → has_class q.rules ≡ true

-- a head, and not too many queries under it
pub record IsWork (v : WorkValue) : Type 0 where
  pub head : IsHead v.head
  pub few : length v.queries ≤ queries_most
  pub each : All (IsQuery v.head) v.queries

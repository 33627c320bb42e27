-- The lists of a query as they are written.
--   conjunct_of q c, rule_of q r     a conjunct of a query, and a rule of it
--   symbol_text names labels s       the text of a symbol
--   word_text names labels word      the text of a word
--   symbol_has_name, word_has_names  the label of a symbol has a name, and the label of each symbol of a word
--   SymbolFits labels count s        the symbol's edge has a label, which is one of so many
--   WordFits q count word            a part of the symbols of a query, of at least one symbol, which all fit
--   ConjunctFits q count c           a conjunct of at least one word, which all fit
--   RuleFits n r                     the rule's conjuncts are a part of n, and its heads are heads
--   is_plain names labels c          each label of the conjunct has a name, and its variables are bytes
use Rattle.std.specs.Prelude.{◌≡◌, ℕ, ◌<◌, Bool, true, ◌&&◌, List, length, slice_index, codes}
use Rattle.std.specs.List.{All, list_all, join_by}
use Rattle.gm_text.specs.declared.lists.Span.{Span}
use Rattle.sel_algebra.specs.declared.vocabulary.Symbol.{Symbol}
use Rattle.path_pairs.specs.Trees.{step_tree}
use Rattle.query_terms.specs.declared.query.Query.{Query}
use Rattle.query_terms.specs.declared.terms.Conjunct.{Conjunct}
use Rattle.query_terms.specs.declared.terms.Rule.{Rule}
use Rattle.query_terms.specs.Values.{ConjunctValue, RuleValue}
use Rattle.query_terms.specs.Lists.{is_heads, words_in, conjunct_in, conjuncts_in, rule_in}
use Rattle.query_terms.specs.Spans.{cut, lies}
use Rattle.sparql_emit.specs.PathText.{path_text_of}
use Rattle.sparql_emit.specs.Laws.{has_names, conjunct_has_names}
use Rattle.sparql_emit.specs.RowLaws.{has_few_variables}

-- a conjunct of a query, with its words
abbrev pub conjunct_of : Query → Conjunct → ConjunctValue
conjunct_of q c = conjunct_in (words_in q.symbols.now q.words.now) c

-- a rule of a query, with its conjuncts
abbrev pub rule_of : Query → Rule → RuleValue
rule_of q r = rule_in (conjuncts_in q.symbols.now q.words.now q.conjuncts.now) r

-- the step along the label of the symbol's edge, or back on it
abbrev pub symbol_text : List (List ℕ) → List ℕ → Symbol → List ℕ
symbol_text names labels s = path_text_of names (step_tree labels s)

-- the symbols, with `/` between two
abbrev pub word_text : List (List ℕ) → List ℕ → List Symbol → List ℕ
word_text names labels word = join_by (symbol_text names labels) (codes "/") word

-- the label of the symbol's edge has a name
abbrev pub symbol_has_name : List (List ℕ) → List ℕ → Symbol → Bool
symbol_has_name names labels s = has_names names (step_tree labels s)

-- so has the label of each symbol of a word
abbrev pub word_has_names : List (List ℕ) → List ℕ → List Symbol → Bool
word_has_names names labels word = list_all (symbol_has_name names labels) word

-- the symbol's edge is one of those with a label, and its label is one of so many
pub record SymbolFits (labels : List ℕ) (count : ℕ) (s : Symbol) : Type 0 where
  pub edge : s.edge < length labels
  pub label : slice_index labels s.edge < count

-- the word is a part of the query's symbols, has a symbol, and each of its symbols fits
pub record WordFits (q : Query) (count : ℕ) (word : Span) : Type 0 where
  pub part : lies (length q.symbols.now) word ≡ true
  pub some : 0 < length (cut q.symbols.now word)
  pub each : All (SymbolFits q.labels.now count) (cut q.symbols.now word)

-- the conjunct's words are a part of the query's words, there is one, and each of them fits
pub record ConjunctFits (q : Query) (count : ℕ) (c : Conjunct) : Type 0 where
  pub part : lies (length q.words.now) c.words ≡ true
  pub some : 0 < length (cut q.words.now c.words)
  pub each : All (WordFits q count) (cut q.words.now c.words)

-- the rule's conjuncts are a part of n, and its heads are heads
pub record RuleFits (n : ℕ) (r : Rule) : Type 0 where
  pub part : lies n r.conjuncts ≡ true
  pub heads : is_heads r.heads ≡ true

-- each label of the conjunct has a name, and the numbers of its variables are those of bytes
abbrev pub is_plain : List (List ℕ) → List ℕ → ConjunctValue → Bool
is_plain names labels c = conjunct_has_names names labels c && has_few_variables c

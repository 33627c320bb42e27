-- How the words, the conjuncts and the rules of a query lie in its lists while it is built.
--   WordsValue          the ended words, and the symbols of the word that is begun
--   AreKept ..          each different word is kept once, and is found again
--   LayoutValue         the ended rules, conjuncts and words, and the numbers of the conjuncts' terms
--   IsLaid ..           the parts of the lists stand one after the other
--   with_conjunct, with_rule   a conjunct more, a rule more
use Rattle.std.specs.Prelude.{◌≡◌, ℕ, ◌+◌, ◌≤◌, true, List, [], ◌∷◌, ◌++◌, length, map, take, drop}
use Rattle.std.specs.List.{list_all}
use Rattle.gm_text.specs.declared.lists.Span.{Span}
use Rattle.sel_algebra.specs.declared.vocabulary.Symbol.{Symbol}
use Rattle.query_terms.specs.declared.terms.Conjunct.{Conjunct}
use Rattle.query_terms.specs.declared.terms.Rule.{Rule}
use Rattle.query_terms.specs.Values.{ConjunctValue, RuleValue}
use Rattle.query_terms.specs.Spans.{lies, covers, distinct, joined, span_in}
use Rattle.query_terms.specs.Lists.{words_in, is_heads, conjunct_in, rule_in, rules_in}
use Rattle.query_terms.specs.Building.{symbols_most}

-- words, the symbols of a word that is begun, and how many symbols there were in all
pub record WordsValue : Type 0 where
  pub ended : List (List Symbol)
  pub begun : List Symbol
  pub taken : ℕ

-- the words of the lists of symbols and of spans, where so many symbols are those of ended words
abbrev pub words_value : List Symbol → List Span → ℕ → ℕ → WordsValue
words_value symbols spans ended taken = record { ended = words_in symbols spans; begun = drop ended symbols; taken = taken }

-- each different word with its span
abbrev pub spanned : List (List Symbol) → List (List Symbol × Span)
spanned words = map (λ word. (word, span_in words word)) words

-- the symbols are those of the different words, each word has the span of its first occurrence, and the index has these
pub record AreKept (symbols : List Symbol) (spans : List Span) (index : List (List Symbol × Span)) (ended taken : ℕ) : Type 0 where
  pub within : ended ≤ length symbols
  pub symbols_are : take ended symbols ≡ joined (distinct (words_in symbols spans))
  pub spans_are : spans ≡ map (span_in (distinct (words_in symbols spans))) (words_in symbols spans)
  pub index_is : index ≡ spanned (distinct (words_in symbols spans))
  pub lie : list_all (lies ended) spans ≡ true
  pub few_symbols : length symbols ≤ taken
  pub few_words : length spans + length (drop ended symbols) ≤ taken
  pub few : taken ≤ symbols_most

-- the ended rules, the ended conjuncts of the rule that is begun, the ended words of its begun conjunct, the symbols of
-- the word that is begun, the numbers of the terms of all conjuncts, and how many symbols there were
pub record LayoutValue : Type 0 where
  pub rules : List RuleValue
  pub conjuncts : List ConjunctValue
  pub words : List (List Symbol)
  pub word : List Symbol
  pub numbers : List ℕ
  pub taken : ℕ

-- the value of lists, where the conjunct that is begun has its first word, and the rule its first conjunct, at a place
abbrev pub layout_value : WordsValue → List Conjunct → List Rule → ℕ → ℕ → LayoutValue
layout_value words conjuncts rules first_word first_conjunct = record {
  rules = map (rule_in (map (conjunct_in words.ended) conjuncts)) rules;
  conjuncts = drop first_conjunct (map (conjunct_in words.ended) conjuncts);
  words = drop first_word words.ended;
  word = words.begun;
  numbers = map (λ c. c.term) conjuncts;
  taken = words.taken;
}

-- the ended words are those of one conjunct more
abbrev pub with_conjunct : LayoutValue → ConjunctValue → ℕ → LayoutValue
with_conjunct l c term = record l { conjuncts = l.conjuncts ++ c ∷ []; words = []; numbers = l.numbers ++ term ∷ [] }

-- the ended conjuncts are those of one rule more
abbrev pub with_rule : LayoutValue → RuleValue → LayoutValue
with_rule l r = record l { rules = l.rules ++ r ∷ []; conjuncts = [] }

-- the conjuncts share out the ended words, and the rules the ended conjuncts
pub record IsLaid (words : WordsValue) (conjuncts : List Conjunct) (rules : List Rule) (first_word first_conjunct : ℕ) : Type 0 where
  pub words_within : first_word ≤ length words.ended
  pub words_cover : covers 0 (map (λ c. c.words) conjuncts) first_word ≡ true
  pub few_conjuncts : length conjuncts ≤ first_word
  pub few_words : first_word ≤ symbols_most
  pub conjuncts_within : first_conjunct ≤ length conjuncts
  pub conjuncts_cover : covers 0 (map (λ r. r.conjuncts) rules) first_conjunct ≡ true
  pub heads : list_all (λ r. is_heads r.heads) rules ≡ true

-- each different word is kept once, where it is first
pub record AreWords (symbols : List Symbol) (words : List Span) : Type 0 where
  pub symbols_are : symbols ≡ joined (distinct (words_in symbols words))
  pub words_are : words ≡ map (span_in (distinct (words_in symbols words))) (words_in symbols words)
  pub words_lie : list_all (lies (length symbols)) words ≡ true

-- the lists of a query are those of the value: the words are kept once, and shared out
pub record AreLists (l : LayoutValue) (symbols : List Symbol) (words : List Span) (conjuncts : List Conjunct) (rules : List Rule) : Type 0 where
  pub kept : AreWords symbols words
  pub words_cover : covers 0 (map (λ c. c.words) conjuncts) (length words) ≡ true
  pub conjuncts_cover : covers 0 (map (λ r. r.conjuncts) rules) (length conjuncts) ≡ true
  pub heads : list_all (λ r. is_heads r.heads) rules ≡ true
  pub rules_are : rules_in symbols words conjuncts rules ≡ l.rules
  pub numbers_are : map (λ c. c.term) conjuncts ≡ l.numbers

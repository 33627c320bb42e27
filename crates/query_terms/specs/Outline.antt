-- A query without its terms, and how its terms are numbered from its lists.
--   IsOutline ..                                the lists are those of a query
--   after_symbol, after_word, after_conjunct    the numbering with one of these more
--   after_conjuncts labels cs                   the numbering of conjuncts, one after another
use Rattle.std.specs.Prelude.{◌≡◌, ℕ, true, List, [], length, map, Option, None, is_some, fold}
use Rattle.std.specs.List.{list_all}
use Rattle.gm_text.specs.declared.lists.Span.{Span}
use Rattle.sel_algebra.specs.declared.vocabulary.Symbol.{Symbol}
use Rattle.sel_algebra.specs.declared.vocabulary.Class.{Class}
use Rattle.query_terms.specs.declared.terms.Conjunct.{Conjunct}
use Rattle.query_terms.specs.declared.terms.Rule.{Rule}
use Rattle.query_terms.specs.Values.{ConjunctValue, are_rules, has_class}
use Rattle.query_terms.specs.Lists.{is_heads, rules_in}
use Rattle.query_terms.specs.Spans.{covers}
use Rattle.query_terms.specs.Numbering.{step_of, numbering}
use Rattle.query_terms.specs.Underway.{Underway, with_step, with_choice, with_end}
use Rattle.query_terms.specs.Layout.{AreWords}

-- the lists are those of a query: each different word is kept once, the conjuncts share out the words and the rules the
-- conjuncts, the rules keep the rules of queries, and each conjunct has the number of its term
pub record IsOutline (labels : List ℕ) (symbols : List Symbol) (words : List Span) (conjuncts : List Conjunct) (rules : List Rule) (class wide : Option Class) : Type 0 where
  pub kept : AreWords symbols words
  pub words_cover : covers 0 (map (λ c. c.words) conjuncts) (length words) ≡ true
  pub conjuncts_cover : covers 0 (map (λ r. r.conjuncts) rules) (length conjuncts) ≡ true
  pub heads : list_all (λ r. is_heads r.heads) rules ≡ true
  pub rules_are : are_rules (length labels) (rules_in symbols words conjuncts rules) ≡ true
  pub class_is : is_some class ≡ has_class (rules_in symbols words conjuncts rules)
  pub wide_is : is_some wide ≡ has_class (rules_in symbols words conjuncts rules)
  pub numbers_are : map (λ c. c.term) conjuncts ≡ (numbering labels (rules_in symbols words conjuncts rules)).numbers

-- a symbol's step is numbered
abbrev pub after_symbol : List ℕ → Underway → Symbol → Underway
after_symbol labels u s = with_step u (step_of labels s)

-- the steps of a word are, and then it is ended
abbrev pub after_word : List ℕ → Underway → List Symbol → Underway
after_word labels u word = with_choice (fold (after_symbol labels) u word)

-- the words of a conjunct are, and then it is ended
abbrev pub after_conjunct : List ℕ → Underway → ConjunctValue → Underway
after_conjunct labels u c = with_end c.star (fold (after_word labels) u c.words)

-- conjuncts are, where at first there is no term
abbrev pub after_conjuncts : List ℕ → List ConjunctValue → Underway
after_conjuncts labels cs = fold (after_conjunct labels) (record { terms = []; word = None; union = None }) cs

-- A builder: its lists, and the terms that go with them.
--   building_of labels l refused     what was put in so far
--   IsBuilding labels l u            the terms are those of what was put in, which keeps the rules of queries
use Rattle.std.specs.Prelude.{◌≡◌, ℕ, ◌≤◌, Bool, true, List, ◌++◌, length}
use Rattle.std.specs.List.{list_all}
use Rattle.query_terms.specs.Values.{conjuncts_of, has_edge, is_word, is_conjunct, is_rule, have_heads, arity_of}
use Rattle.query_terms.specs.Numbering.{numbered}
use Rattle.query_terms.specs.Building.{symbols_most, Building}
use Rattle.query_terms.specs.Underway.{Underway, underway}
use Rattle.query_terms.specs.Layout.{LayoutValue}

-- what the lists hold, with the labels of the edges
abbrev pub building_of : List ℕ → LayoutValue → Bool → Building
building_of labels l refused = record {
  labels = labels;
  rules = l.rules;
  conjuncts = l.conjuncts;
  words = l.words;
  word = l.word;
  taken = l.taken;
  refused = refused;
}

-- the terms and the numbers of the conjuncts are those of what was put in, which keeps the rules of queries so far
pub record IsBuilding (labels : List ℕ) (l : LayoutValue) (u : Underway) : Type 0 where
  pub terms_are : u ≡ underway labels (conjuncts_of l.rules ++ l.conjuncts) l.words l.word
  pub numbers_are : l.numbers ≡ (numbered labels (conjuncts_of l.rules ++ l.conjuncts)).numbers
  pub few_symbols : l.taken ≤ symbols_most
  pub rules : list_all (is_rule (length labels)) l.rules ≡ true
  pub heads : have_heads (arity_of l.rules) l.rules ≡ true
  pub conjuncts : list_all (is_conjunct (length labels)) l.conjuncts ≡ true
  pub words : list_all (is_word (length labels)) l.words ≡ true
  pub word : list_all (has_edge (length labels)) l.word ≡ true

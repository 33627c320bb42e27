-- A query that is being built.
--   symbols_most                            a builder takes so many symbols
--   Building                                what was put in so far
--   begun labels                            nothing yet
--   with_symbol .. with_rule                one thing more
use Rattle.std.specs.Prelude.{ℕ, ◌+◌, Bool, false, List, [], ◌∷◌, ◌++◌}
use Rattle.sel_algebra.specs.declared.vocabulary.Symbol.{Symbol}
use Rattle.query_terms.specs.Values.{ConjunctValue, RuleValue}

-- so many symbols may be put into one query
abbrev pub symbols_most : ℕ
symbols_most = 1048576

-- the rules so far, the conjuncts of the rule that is begun, the words of the conjunct and the symbols of the word;
-- how many symbols were put in; and whether a call was refused, after which it is only dropped
pub record Building : Type 0 where
  pub labels : List ℕ
  pub rules : List RuleValue
  pub conjuncts : List ConjunctValue
  pub words : List (List Symbol)
  pub word : List Symbol
  pub taken : ℕ
  pub refused : Bool

-- nothing was put in
abbrev pub begun : List ℕ → Building
begun labels = record { labels = labels; rules = []; conjuncts = []; words = []; word = []; taken = 0; refused = false }

-- the word has one symbol more
abbrev pub with_symbol : Building → Symbol → Building
with_symbol b s = record b { word = b.word ++ s ∷ []; taken = b.taken + 1 }

-- the word is one of the conjunct's
abbrev pub with_word : Building → Building
with_word b = record b { words = b.words ++ b.word ∷ []; word = [] }

-- the words are those of a conjunct of the rule
abbrev pub with_conjunct : Building → ℕ → ℕ → Bool → Building
with_conjunct b src trg star = record b {
  conjuncts = b.conjuncts ++ record { src = src; trg = trg; star = star; words = b.words } ∷ [];
  words = [];
}

-- the conjuncts are those of a rule with these heads
abbrev pub with_rule : Building → List ℕ → Building
with_rule b heads = record b {
  rules = b.rules ++ record { heads = heads; conjuncts = b.conjuncts } ∷ [];
  conjuncts = [];
}

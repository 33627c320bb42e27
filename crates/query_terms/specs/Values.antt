-- A query as one value: what it asks for, apart from how it is kept.
--   ConjunctValue, RuleValue, QueryValue    a conjunct, a rule and a query
--   conjuncts_of rules                      the conjuncts of the rules, in order
--   words_of conjuncts                      the words of the conjuncts, in order
--   occurs conjuncts v                      the variable stands at an end of a conjunct
--   differ numbers                          no number comes twice
--   arity_built count                       so many heads can be built
--   arity_of rules                          the number of heads of the rules
--   has_edge, is_word, is_conjunct, is_rule, are_rules
--                                           what is true of each symbol, word, conjunct, rule and list of rules
--   has_class rules                         two heads, for which alone there are classes
use Rattle.std.specs.Prelude.{ℕ, Bool, true, not, ◌==◌, ◌&&◌, ◌||◌, nat_le, nat_lt, List, [], ◌∷◌, length, Option}
use Rattle.std.specs.List.{flat_map, list_all, list_any}
use Rattle.sel_algebra.specs.declared.vocabulary.Symbol.{Symbol}
use Rattle.sel_algebra.specs.declared.vocabulary.Shape.{Shape}
use Rattle.sel_algebra.specs.declared.vocabulary.Class.{Class}

-- words between two variables, which may be repeated where it is starred
pub record ConjunctValue : Type 0 where
  pub src : ℕ
  pub trg : ℕ
  pub star : Bool
  pub words : List (List Symbol)

-- the variables that are asked for, and the conjuncts that all have to hold
pub record RuleValue : Type 0 where
  pub heads : List ℕ
  pub conjuncts : List ConjunctValue

-- the rules, one of which has to hold, with the labels of the edges that its symbols name
pub record QueryValue : Type 0 where
  pub labels : List ℕ
  pub shape : Shape
  pub class : Option Class
  pub wide : Option Class
  pub rules : List RuleValue

-- all conjuncts of the rules
abbrev pub conjuncts_of : List RuleValue → List ConjunctValue
conjuncts_of rules = flat_map (λ r. r.conjuncts) rules

-- all words of the conjuncts
abbrev pub words_of : List ConjunctValue → List (List Symbol)
words_of conjuncts = flat_map (λ c. c.words) conjuncts

-- some conjunct begins or ends at the variable
abbrev pub occurs : List ConjunctValue → ℕ → Bool
occurs conjuncts v = list_any (λ c. (c.src == v) || (c.trg == v)) conjuncts

-- no number is one of those after it
abbrev pub differ : List ℕ → Bool
differ [] = true
differ (n ∷ numbers) = not (list_any (λ m. n == m) numbers) && differ numbers

-- a rule may have from no to four heads
abbrev pub arity_built : ℕ → Bool
arity_built count = nat_le count 4

-- the number of heads of the first rule, which all rules have
abbrev pub arity_of : List RuleValue → ℕ
arity_of [] = 0
arity_of (r ∷ rules) = length r.heads

-- the symbol's edge is one of so many
abbrev pub has_edge : ℕ → Symbol → Bool
has_edge edges s = nat_lt s.edge edges

-- it has a symbol, and its symbols have their edges among so many
abbrev pub is_word : ℕ → List Symbol → Bool
is_word edges word = nat_lt 0 (length word) && list_all (has_edge edges) word

-- it has a word
abbrev pub is_conjunct : ℕ → ConjunctValue → Bool
is_conjunct edges c = nat_lt 0 (length c.words) && list_all (is_word edges) c.words

-- its heads are of a built number, differ and occur in it
abbrev pub has_heads : RuleValue → Bool
has_heads r = arity_built (length r.heads) && differ r.heads && list_all (occurs r.conjuncts) r.heads

-- it has a conjunct, and such heads
abbrev pub is_rule : ℕ → RuleValue → Bool
is_rule edges r = nat_lt 0 (length r.conjuncts) && list_all (is_conjunct edges) r.conjuncts && has_heads r

-- the rules have so many heads
abbrev pub have_heads : ℕ → List RuleValue → Bool
have_heads count rules = list_all (λ r. length r.heads == count) rules

-- there is a rule, and all have the same number of heads
abbrev pub are_rules : ℕ → List RuleValue → Bool
are_rules edges rules = nat_lt 0 (length rules) && list_all (is_rule edges) rules && have_heads (arity_of rules) rules

-- the rules have two heads: then, and only then, a query has classes
abbrev pub has_class : List RuleValue → Bool
has_class rules = arity_of rules == 2

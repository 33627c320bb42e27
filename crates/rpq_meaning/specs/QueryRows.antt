-- The rows of a query: by its rules, conjuncts and words, and by numbers for its variables.
--   ArePairs graph path pairs                the list has exactly the pairs of the path
--   ConjunctPairs labels graph c a b         the words of the conjunct, starred where it is starred, lead from a to b
--   AreConjunctPairs labels graph c pairs    the list has exactly these
--   IsRuleRow labels graph r row             some numbers for the variables make each conjunct true and give the row
--   IsQueryRow query graph row               it is a row of some rule
--   AreQueryRows query graph rows            the list has exactly these
use Rattle.std.specs.Prelude.{◌≡◌, ◌↔◌, ℕ, List, map, Contains}
use Rattle.std.specs.List.{AllByRecursion}
use Rattle.graph_text.specs.declared.graphs.Triple.{Triple}
use Rattle.path_pairs.specs.Trees.{Tree, conjunct_tree}
use Rattle.path_pairs.specs.Pairs.{Pairs}
use Rattle.query_terms.specs.Values.{ConjunctValue, RuleValue, QueryValue}

-- exactly the pairs between which the path leads
abbrev pub ArePairs : List Triple → Tree → List (ℕ × ℕ) → Type 0
ArePairs graph path pairs = (a b : ℕ) → Contains pairs (a, b) ↔ Pairs path graph a b

-- one of the words, or any number of them one after the other
abbrev pub ConjunctPairs : List ℕ → List Triple → ConjunctValue → ℕ → ℕ → Type 0
ConjunctPairs labels graph c a b = Pairs (conjunct_tree labels c.star c.words) graph a b

-- exactly the pairs of the conjunct
abbrev pub AreConjunctPairs : List ℕ → List Triple → ConjunctValue → List (ℕ × ℕ) → Type 0
AreConjunctPairs labels graph c pairs = (a b : ℕ) → Contains pairs (a, b) ↔ ConjunctPairs labels graph c a b

-- the conjunct leads from the number of its first variable to that of its second
abbrev pub IsTrueFor : List ℕ → List Triple → (ℕ → ℕ) → ConjunctValue → Type 0
IsTrueFor labels graph number c = ConjunctPairs labels graph c (number c.src) (number c.trg)

-- the numbers of the heads in their order; without heads it is the row of no number
abbrev pub IsRuleRow : List ℕ → List Triple → RuleValue → List ℕ → Type 0
IsRuleRow labels graph r row = (number : ℕ → ℕ) × AllByRecursion (IsTrueFor labels graph number) r.conjuncts × (row ≡ map number r.heads)

-- a row of one of the rules
abbrev pub IsQueryRow : QueryValue → List Triple → List ℕ → Type 0
IsQueryRow query graph row = (r : RuleValue) × Contains query.rules r × IsRuleRow query.labels graph r row

-- exactly the rows of the query
abbrev pub AreQueryRows : QueryValue → List Triple → List (List ℕ) → Type 0
AreQueryRows query graph rows = (row : List ℕ) → Contains rows row ↔ IsQueryRow query graph row

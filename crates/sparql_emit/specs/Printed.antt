-- What the text of a query asks.
--   path_of names tree           the path that the text of a tree is
--   pattern_of, group_of         the pattern of a conjunct, and the group of a rule
--   printed_of names q           what the text of a query asks
use Rattle.std.specs.Prelude.{ℕ, true, false, List, map}
use Rattle.path_pairs.specs.Trees.{Tree}
use Rattle.path_pairs.specs.Trees.Tree.{Step, Seq, Alt, Star, Opt}
use Rattle.query_terms.specs.Values.{ConjunctValue, RuleValue, QueryValue, arity_of}
use Rattle.query_terms.specs.Laws.{tree_of_conjunct}
use Rattle.sparql_read.specs.Grammar.{Path, Pattern, Asked}
use Rattle.sparql_read.specs.Grammar as grammar
use Rattle.sparql_emit.specs.PathText.{name_of}
use Rattle.sparql_emit.specs.QueryText.{variable_of, head_names}

-- the same path over the names of the labels; a step back is the inverse of one step
abbrev pub path_of : List (List ℕ) → Tree → Path
path_of names (Step label false) = grammar.Iri (name_of names label)
path_of names (Step label true) = grammar.Inverse (grammar.Iri (name_of names label))
path_of names (Seq first second) = grammar.Seq (path_of names first) (path_of names second)
path_of names (Alt left right) = grammar.Alt (path_of names left) (path_of names right)
path_of names (Star child) = grammar.Star (path_of names child)
path_of names (Opt child) = grammar.Opt (path_of names child)

-- a conjunct is a pattern of its path between its two variables
abbrev pub pattern_of : List (List ℕ) → List ℕ → List ℕ → ConjunctValue → Pattern
pattern_of names labels heads c = record {
  subject = variable_of heads c.src;
  path = path_of names (tree_of_conjunct labels c);
  object = variable_of heads c.trg;
}

-- a rule is a group of its conjuncts
abbrev pub group_of : List (List ℕ) → List ℕ → RuleValue → List Pattern
group_of names labels r = map (pattern_of names labels r.heads) r.conjuncts

-- the heads are selected, and the rules are united
abbrev pub printed_of : List (List ℕ) → QueryValue → Asked
printed_of names q = record { heads = head_names (arity_of q.rules); groups = map (group_of names q.labels) q.rules }

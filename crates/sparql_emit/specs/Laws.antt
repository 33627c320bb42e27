-- Conditions of the texts, and their laws.
--   has_label count term          the label of a step is one of so many
--   has_names names tree          each label of the tree has a name
--   IsPrintable names q           a query whose text is one of the subset
--   TextHasReading                the text of a query asks what the query does
--   VariablesDiffer               different variables of a rule have different names
use Rattle.std.specs.Prelude.{◌≡◌, ℕ, ◌<◌, ◌^◌, Bool, true, ◌&&◌, nat_lt, List, length}
use Rattle.std.specs.List.{list_all}
use Rattle.gm_text.specs.Name.{is_name}
use Rattle.path_pairs.specs.Trees.{Tree}
use Rattle.path_pairs.specs.Trees.Tree.{Step, Seq, Alt, Star, Opt}
use Rattle.query_terms.specs.declared.terms.Term.{Term}
use Rattle.query_terms.specs.declared.terms.Term.TheVariants as term
use Rattle.query_terms.specs.Values.{ConjunctValue, QueryValue, conjuncts_of, are_rules}
use Rattle.query_terms.specs.Laws.{tree_of_conjunct}
use Rattle.sparql_read.specs.Text.{IsSparql}
use Rattle.sparql_emit.specs.PathText.{name_of}
use Rattle.sparql_emit.specs.QueryText.{variable_of, sparql_text_of}
use Rattle.sparql_emit.specs.Printed.{printed_of}

-- a step has one of so many labels
abbrev pub has_label : ℕ → Term → Bool
has_label count (term.Step label back) = nat_lt label count
has_label count other = true

-- the label of each step has a name, which past the last one no label has
abbrev pub has_names : List (List ℕ) → Tree → Bool
has_names names (Step label back) = is_name (name_of names label)
has_names names (Seq first second) = has_names names first && has_names names second
has_names names (Alt left right) = has_names names left && has_names names right
has_names names (Star child) = has_names names child
has_names names (Opt child) = has_names names child

-- so does each label of a conjunct's path
abbrev pub conjunct_has_names : List (List ℕ) → List ℕ → ConjunctValue → Bool
conjunct_has_names names labels c = has_names names (tree_of_conjunct labels c)

-- the query keeps the rules of queries, and each label of its paths has a name
pub record IsPrintable (names : List (List ℕ)) (q : QueryValue) : Type 0 where
  pub rules_are : are_rules (length q.labels) q.rules ≡ true
  pub labels_have_names : list_all (conjunct_has_names names q.labels) (conjuncts_of q.rules) ≡ true

-- the text has the reading
abbrev pub TextHasReading : Type 0
TextHasReading = (names : List (List ℕ)) (q : QueryValue) → IsPrintable names q → IsSparql (sparql_text_of names q) (printed_of names q)

-- two variables of one name are the same
abbrev pub VariablesDiffer : Type 0
VariablesDiffer = (heads : List ℕ) (v w : ℕ) → length heads < 2 ^ 64 → v < 2 ^ 64 → w < 2 ^ 64 → variable_of heads v ≡ variable_of heads w → v ≡ w

-- The text of a query.
--   head_name j                     the name of the head at a place
--   variable_of heads v             the name of a variable of a rule with these heads
--   heads_line n                    the line of so many heads
--   rule_line names labels r        the line of a rule
--   sparql_text_of names q          the text of a query, whose labels have these names
-- Names of variables stand without their `?`.
use Rattle.std.specs.Prelude.{ℕ, zero, suc, ◌+◌, ◌==◌, if◌then◌else◌, List, [], ◌∷◌, ◌++◌, map, codes, decimal}
use Rattle.std.specs.List.{flat_map, join_by, range_with_len}
use Rattle.path_pairs.specs.Trees.{Tree}
use Rattle.query_terms.specs.Values.{ConjunctValue, RuleValue, QueryValue, arity_of}
use Rattle.query_terms.specs.Laws.{tree_of_conjunct}
use Rattle.sparql_emit.specs.PathText.{path_text_of}

-- the head at place j is hj
abbrev pub head_name : ℕ → List ℕ
head_name j = codes "h" ++ decimal j

-- a variable has the name of its place among the heads, which are numbered from j on; variable v that is none of them is xv
abbrev pub variable_from : ℕ → List ℕ → ℕ → List ℕ
variable_from j [] v = codes "x" ++ decimal v
variable_from j (head ∷ heads) v = if head == v then head_name j else variable_from (j + 1) heads v

-- the name of a variable of a rule with these heads
abbrev pub variable_of : List ℕ → ℕ → List ℕ
variable_of heads v = variable_from 0 heads v

-- the names of so many heads, in their order
abbrev pub head_names : ℕ → List (List ℕ)
head_names n = map head_name (range_with_len 0 n)

-- ` ?` and the name
abbrev pub with_mark : List ℕ → List ℕ
with_mark name = codes " ?" ++ name

-- the heads that are selected; where there is none, it is asked whether there is an answer
abbrev pub heads_line : ℕ → List ℕ
heads_line zero = codes "ASK WHERE {\n"
heads_line (suc n) = codes "SELECT DISTINCT" ++ (flat_map with_mark (head_names (suc n)) ++ codes " WHERE {\n")

-- a path between two variables, and a dot
abbrev pub pattern_text : List (List ℕ) → List ℕ → ℕ → ℕ → Tree → List ℕ
pattern_text names heads u v path =
    with_mark (variable_of heads u) ++ (codes " " ++ (path_text_of names path ++ (with_mark (variable_of heads v) ++ codes " .")))

-- a conjunct of a rule with these heads
abbrev pub conjunct_text : List (List ℕ) → List ℕ → List ℕ → ConjunctValue → List ℕ
conjunct_text names labels heads c = pattern_text names heads c.src c.trg (tree_of_conjunct labels c)

-- the conjuncts of a rule between braces
abbrev pub rule_line : List (List ℕ) → List ℕ → RuleValue → List ℕ
rule_line names labels r = codes "{" ++ (flat_map (conjunct_text names labels r.heads) r.conjuncts ++ codes " }\n")

-- the prefix, the heads, and the rules with UNION between them
abbrev pub sparql_text_of : List (List ℕ) → QueryValue → List ℕ
sparql_text_of names q =
    codes "PREFIX : <http://gmark.example/>\n"
    ++ (heads_line (arity_of q.rules) ++ (join_by (rule_line names q.labels) (codes "UNION\n") q.rules ++ codes "}\n"))

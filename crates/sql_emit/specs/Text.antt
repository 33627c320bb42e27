-- The SQL text of terms and rules.
--   body_text k t                   the selects of term k
--   term_line (t, k)                the line of term k
--   rule_text r                     the line of a rule
--   links_text_of terms rules       the text
--   sql_text_of q                   the text of a query
use Rattle.std.specs.Prelude.{ℕ, Bool, true, false, List, [], ◌∷◌, ◌++◌, map, codes, decimal}
use Rattle.std.specs.List.{join_by}
use Rattle.query_terms.specs.declared.terms.Term.{Term}
use Rattle.query_terms.specs.declared.terms.Term.TheVariants.{Step, Seq, Alt, Star, Opt}
use Rattle.sql_emit.specs.Numbered.{with_numbers}
use Rattle.query_terms.specs.Values.{QueryValue}
use Rattle.query_terms.specs.Numbering.{numbering}
use Rattle.sql_read.specs.Grammar.{Col, Right, Column, Value, Equation, Source, Query}
use Rattle.sql_emit.specs.declared.links.LinkRule.{LinkRule}
use Rattle.sql_emit.specs.Rules.{link_rules}
use Rattle.sql_emit.specs.Reading.{table_name, rule_query}

abbrev pub nodes_line : List ℕ
nodes_line = codes "nodes(v) AS (SELECT e.src FROM edge AS e UNION SELECT e.trg FROM edge AS e)"

-- the edges of a label, along them or back on them, before the label
abbrev pub steps_text : Bool → List ℕ
steps_text false = codes "SELECT e.src, e.trg FROM edge AS e WHERE e.label = "
steps_text true = codes "SELECT e.trg, e.src FROM edge AS e WHERE e.label = "

-- the selects of term k
abbrev pub body_text : ℕ → Term → List ℕ
body_text k (Step l back) = steps_text back ++ decimal l
body_text k (Seq i j) = codes "SELECT a.src, b.trg FROM " ++ (table_name i ++ (codes " AS a, " ++ (table_name j ++ codes " AS b WHERE a.trg = b.src")))
body_text k (Alt i j) = codes "SELECT a.src, a.trg FROM " ++ (table_name i ++ (codes " AS a UNION SELECT b.src, b.trg FROM " ++ (table_name j ++ codes " AS b")))
body_text k (Star i) =
    codes "SELECT n.v, n.v FROM nodes AS n UNION SELECT r.src, s.trg FROM " ++ (table_name k ++ (codes " AS r, " ++ (table_name i ++ codes " AS s WHERE r.trg = s.src")))
body_text k (Opt i) = codes "SELECT n.v, n.v FROM nodes AS n UNION SELECT a.src, a.trg FROM " ++ (table_name i ++ codes " AS a")

-- the table of a term with its number
abbrev pub term_line : Term × ℕ → List ℕ
term_line t = table_name t.1 ++ (codes "(src, trg) AS (" ++ (body_text t.1 t.0 ++ codes ")"))

-- the tables, one a line, with a comma after each but the last
abbrev pub tables_text : List Term → List ℕ
tables_text terms = join_by (λ line. line) (codes ",\n") (nodes_line ∷ map term_line (with_numbers 0 terms))

abbrev pub col_text : Col → List ℕ
col_text c = c.alias ++ (codes "." ++ c.column)

abbrev pub source_text : Source → List ℕ
source_text s = s.table ++ (codes " AS " ++ s.alias)

abbrev pub right_text : Right → List ℕ
right_text (Column c) = col_text c
right_text (Value n) = decimal n

abbrev pub equation_text : Equation → List ℕ
equation_text e = col_text e.left ++ (codes " = " ++ right_text e.right)

-- `1` where there is no column
abbrev pub columns_text : List Col → List ℕ
columns_text [] = codes "1"
columns_text (c ∷ columns) = join_by col_text (codes ", ") (c ∷ columns)

-- nothing where there is no equation
abbrev pub where_text : List Equation → List ℕ
where_text [] = []
where_text (e ∷ equations) = codes " WHERE " ++ join_by equation_text (codes " AND ") (e ∷ equations)

abbrev pub query_text : Query → List ℕ
query_text q =
    codes "SELECT DISTINCT " ++ (columns_text q.columns ++ (codes " FROM " ++ (join_by source_text (codes ", ") q.sources ++ where_text q.equations)))

-- the line of a rule
abbrev pub rule_text : LinkRule → List ℕ
rule_text r = query_text (rule_query r)

-- the tables, and then the rules, with a line `UNION` between two of them
abbrev pub links_text_of : List Term → List LinkRule → List ℕ
links_text_of terms rules =
    codes "WITH RECURSIVE\n" ++ (tables_text terms ++ (codes "\n" ++ (join_by rule_text (codes "\nUNION\n") rules ++ codes "\n")))

-- the rules of a query as links
abbrev pub query_links : QueryValue → List LinkRule
query_links q = link_rules q.rules (numbering q.labels q.rules).numbers

-- the terms of a query, and its rules
abbrev pub sql_text_of : QueryValue → List ℕ
sql_text_of q = links_text_of (numbering q.labels q.rules).terms (query_links q)

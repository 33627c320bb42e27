-- What the text of terms and rules says.
--   table_name k                  the name of the table of term k
--   alias_name i                  the alias of the table of a rule's link i
--   nodes_table, term_table       the tables
--   occurrences_from i links      where variables stand in the links from number i on
--   first_of occurrences v        where a variable stands first
--   equations_from                each further occurrence is equal to the first
--   rule_query r                  the select of a rule
--   printed_of terms rules        what the text says
use Rattle.std.specs.Prelude.{ℕ, ◌+◌, true, false, ◌==◌, if◌then◌else◌, Option, Some, None, List, [], ◌∷◌, ◌++◌, map, codes, decimal, unwrap_or}
use Rattle.query_terms.specs.declared.terms.Term.{Term}
use Rattle.query_terms.specs.declared.terms.Term.TheVariants.{Step, Seq, Alt, Star, Opt}
use Rattle.sql_emit.specs.Numbered.{with_numbers}
use Rattle.sql_read.specs.Grammar.{Col, Right, Column, Value, Equation, Source, Query, Table, Reading}
use Rattle.sql_emit.specs.declared.links.Link.{Link}
use Rattle.sql_emit.specs.declared.links.LinkRule.{LinkRule}

abbrev pub table_name : ℕ → List ℕ
table_name k = codes "t" ++ decimal k

abbrev pub alias_name : ℕ → List ℕ
alias_name i = codes "c" ++ decimal i

abbrev pub col : List ℕ → List ℕ → Col
col alias column = record { alias = alias; column = column }

abbrev pub source : List ℕ → List ℕ → Source
source table alias = record { table = table; alias = alias }

abbrev pub equal : Col → Right → Equation
equal left right = record { left = left; right = right }

abbrev pub select : List Col → List Source → List Equation → Query
select columns sources equations = record { columns = columns; sources = sources; equations = equations }

-- one end of each triple
abbrev pub ends_of_edges : List ℕ → Query
ends_of_edges end = select (col (codes "e") end ∷ []) (source (codes "edge") (codes "e") ∷ []) []

-- the nodes: each end of each triple
abbrev pub nodes_table : Table
nodes_table = record {
  name = codes "nodes";
  columns = codes "v" ∷ [];
  body = ends_of_edges (codes "src") ∷ ends_of_edges (codes "trg") ∷ [];
}

-- the triples of a label, from one end to the other
abbrev pub edges_of : ℕ → List ℕ → List ℕ → Query
edges_of label from to =
    select (col (codes "e") from ∷ col (codes "e") to ∷ []) (source (codes "edge") (codes "e") ∷ [])
    (equal (col (codes "e") (codes "label")) (Value label) ∷ [])

-- each node with itself
abbrev pub zero_steps : Query
zero_steps = select (col (codes "n") (codes "v") ∷ col (codes "n") (codes "v") ∷ []) (source (codes "nodes") (codes "n") ∷ []) []

-- the pairs of term i
abbrev pub pairs_of : ℕ → List ℕ → Query
pairs_of i alias = select (col alias (codes "src") ∷ col alias (codes "trg") ∷ []) (source (table_name i) alias ∷ []) []

-- the pairs of term i, each followed by those of term j
abbrev pub composed : ℕ → List ℕ → ℕ → List ℕ → Query
composed i one j other =
    select (col one (codes "src") ∷ col other (codes "trg") ∷ []) (source (table_name i) one ∷ source (table_name j) other ∷ [])
    (equal (col one (codes "trg")) (Column (col other (codes "src"))) ∷ [])

-- the selects of term k
abbrev pub body_of : ℕ → Term → List Query
body_of k (Step label false) = edges_of label (codes "src") (codes "trg") ∷ []
body_of k (Step label true) = edges_of label (codes "trg") (codes "src") ∷ []
body_of k (Seq i j) = composed i (codes "a") j (codes "b") ∷ []
body_of k (Alt i j) = pairs_of i (codes "a") ∷ pairs_of j (codes "b") ∷ []
body_of k (Star i) = zero_steps ∷ composed k (codes "r") i (codes "s") ∷ []
body_of k (Opt i) = zero_steps ∷ pairs_of i (codes "a") ∷ []

-- the table of a term with its number
abbrev pub term_table : Term × ℕ → Table
term_table t = record { name = table_name t.1; columns = codes "src" ∷ codes "trg" ∷ []; body = body_of t.1 t.0 }

-- a variable, and the column in which it stands
pub record Occurrence : Type 0 where
  pub variable : ℕ
  pub at : Col

-- the ends of the links from number i on, in order
abbrev pub occurrences_from : ℕ → List Link → List Occurrence
occurrences_from i [] = []
occurrences_from i (l ∷ links) =
    record { variable = l.src; at = col (alias_name i) (codes "src") }
    ∷ record { variable = l.trg; at = col (alias_name i) (codes "trg") } ∷ occurrences_from (i + 1) links

-- where the variable stands first, if it occurs
abbrev pub first_of : List Occurrence → ℕ → Option Col
first_of [] v = None
first_of (o ∷ occurrences) v = if o.variable == v then Some o.at else first_of occurrences v

-- the column of a head, which occurs
abbrev pub head_column : List Occurrence → ℕ → Col
head_column occurrences v = unwrap_or (first_of occurrences v) (col [] [])

-- an occurrence of a variable that stands first in a column, and stands here again
abbrev pub equation_for : Option Col → Col → List Equation
equation_for None here = []
equation_for (Some first) here = equal first (Column here) ∷ []

-- each occurrence that isn't the first of its variable is equal to the first, where some stand before these
abbrev pub equations_from : List Occurrence → List Occurrence → List Equation
equations_from before [] = []
equations_from before (o ∷ occurrences) = equation_for (first_of before o.variable) o.at ++ equations_from (before ++ o ∷ []) occurrences

-- the tables of the links from number i on
abbrev pub sources_from : ℕ → List Link → List Source
sources_from i [] = []
sources_from i (l ∷ links) = source (table_name l.term) (alias_name i) ∷ sources_from (i + 1) links

-- the select of a rule
abbrev pub rule_query : LinkRule → Query
rule_query r =
    select (map (head_column (occurrences_from 0 r.links)) r.heads) (sources_from 0 r.links) (equations_from [] (occurrences_from 0 r.links))

-- the nodes, a table for each term, and a select for each rule
abbrev pub printed_of : List Term → List LinkRule → Reading
printed_of terms rules = record {
  tables = nodes_table ∷ map term_table (with_numbers 0 terms);
  last = map rule_query rules;
}

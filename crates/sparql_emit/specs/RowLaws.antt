-- The law of rows.
--   has_few_variables c     the numbers of the conjunct's variables are those of bytes
--   HasQueryRows names q    what the text of a query asks has the query's rows
--   TextKeepsRows           over every graph, what the text of a query asks has the query's rows
use Rattle.std.specs.Prelude.{◌≡◌, ◌↔◌, ℕ, Bool, true, ◌&&◌, nat_lt, List}
use Rattle.std.specs.List.{list_all}
use Rattle.graph_text.specs.declared.graphs.Triple.{Triple}
use Rattle.query_terms.specs.Values.{ConjunctValue, QueryValue, conjuncts_of}
use Rattle.rpq_meaning.specs.QueryRows.{IsQueryRow}
use Rattle.sparql_read.specs.Text.{are_different}
use Rattle.sparql_mean.specs.Rows.{IsSparqlRow}
use Rattle.sparql_emit.specs.Laws.{IsPrintable}
use Rattle.sparql_emit.specs.Printed.{printed_of}

-- the variables at its ends are below 256
abbrev pub has_few_variables : ConjunctValue → Bool
has_few_variables c = nat_lt c.src 256 && nat_lt c.trg 256

-- over every graph, the rows of what the text asks are those of the query
abbrev pub HasQueryRows : List (List ℕ) → QueryValue → Type 0
HasQueryRows names q = (graph : List Triple) (row : List ℕ) → IsSparqlRow names (printed_of names q) graph row ↔ IsQueryRow q graph row

-- it has them where the names of labels differ
abbrev pub TextKeepsRows : Type 0
TextKeepsRows = (names : List (List ℕ)) (q : QueryValue) → IsPrintable names q → are_different names ≡ true
    → list_all has_few_variables (conjuncts_of q.rules) ≡ true → HasQueryRows names q

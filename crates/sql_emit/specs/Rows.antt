-- The rows of the text of terms and rules.
--   IsPairRow R row                     two numbers that are related
--   Leads graph terms number l          the term of a link leads from the number of its first variable to that of its second
--   IsLinkRow graph terms r row         some numbers for the variables make each link true and give the row
--   IsLinksRow graph terms rules row    it is a row of some rule
--   HasTables text terms                each reading of the text has the pairs of the terms in its tables
--   HasRows text Row                    each reading of the text has these rows
--   TablesAreTerms                      a law: table k + 1 has the pairs of term k
--   RowsAreLinks                        a law: the rows of the text are those of the rules
--   LinksAreQueries                     a law: the rows of a query's rules as links are the query's
use Rattle.std.specs.Prelude.{◌≡◌, ◌↔◌, ◌<◌, ℕ, ◌+◌, true, List, [], ◌∷◌, map, length, Contains}
use Rattle.std.specs.List.{AllByRecursion}
use Rattle.graph_text.specs.declared.graphs.Triple.{Triple}
use Rattle.path_pairs.specs.Pairs.{Pairs}
use Rattle.query_terms.specs.declared.terms.Term.{Term}
use Rattle.query_terms.specs.Numbering.{numbering}
use Rattle.query_terms.specs.Trees.{tree_at}
use Rattle.query_terms.specs.Values.{QueryValue, are_rules}
use Rattle.rpq_meaning.specs.QueryRows.{IsQueryRow}
use Rattle.sql_read.specs.Grammar.{Reading}
use Rattle.sql_read.specs.Text.{IsSql}
use Rattle.sql_mean.specs.Rows.{TableRows, IsSqlRow}
use Rattle.sql_emit.specs.declared.links.Link.{Link}
use Rattle.sql_emit.specs.declared.links.LinkRule.{LinkRule}
use Rattle.sql_emit.specs.Reading.{printed_of}
use Rattle.sql_emit.specs.Text.{query_links}
use Rattle.sql_emit.specs.Laws.{ArePrintable}

-- the row of a pair
abbrev pub IsPairRow : (ℕ → ℕ → Type 0) → List ℕ → Type 0
IsPairRow R row = (a : ℕ) × (b : ℕ) × R a b × (row ≡ a ∷ b ∷ [])

-- the link's term leads between the numbers of its variables
abbrev pub Leads : List Triple → List Term → (ℕ → ℕ) → Link → Type 0
Leads graph terms number l = Pairs (tree_at terms l.term) graph (number l.src) (number l.trg)

-- the numbers of the heads in their order
abbrev pub IsLinkRow : List Triple → List Term → LinkRule → List ℕ → Type 0
IsLinkRow graph terms r row = (number : ℕ → ℕ) × AllByRecursion (Leads graph terms number) r.links × (row ≡ map number r.heads)

-- a row of one of the rules
abbrev pub IsLinksRow : List Triple → List Term → List LinkRule → List ℕ → Type 0
IsLinksRow graph terms rules row = (r : LinkRule) × Contains rules r × IsLinkRow graph terms r row

-- table k + 1 has the pairs of term k, over every list of triples
abbrev pub HasTables : List ℕ → List Term → Type 0
HasTables text terms = (reading : Reading) → IsSql text reading → (graph : List Triple) (k : ℕ) → k < length terms → (row : List ℕ)
    → TableRows reading graph (k + 1) row ↔ IsPairRow (Pairs (tree_at terms k) graph) row

-- the rows are these, over every list of triples
abbrev pub HasRows : List ℕ → (List Triple → List ℕ → Type 0) → Type 0
HasRows text Row = (reading : Reading) → IsSql text reading → (graph : List Triple) (row : List ℕ) → IsSqlRow reading graph row ↔ Row graph row

-- of each term, over every list of triples
abbrev pub TablesAreTerms : Type 0
TablesAreTerms = (terms : List Term) (rules : List LinkRule) → ArePrintable terms rules → (graph : List Triple) (k : ℕ) → k < length terms → (row : List ℕ)
    → TableRows (printed_of terms rules) graph (k + 1) row ↔ IsPairRow (Pairs (tree_at terms k) graph) row

-- of all rules, over every list of triples
abbrev pub RowsAreLinks : Type 0
RowsAreLinks = (terms : List Term) (rules : List LinkRule) → ArePrintable terms rules → (graph : List Triple) (row : List ℕ)
    → IsSqlRow (printed_of terms rules) graph row ↔ IsLinksRow graph terms rules row

-- of the rules of a query
abbrev pub LinksAreQueries : Type 0
LinksAreQueries = (q : QueryValue) → are_rules (length q.labels) q.rules ≡ true → (graph : List Triple) (row : List ℕ)
    → IsLinksRow graph (numbering q.labels q.rules).terms (query_links q) row ↔ IsQueryRow q graph row

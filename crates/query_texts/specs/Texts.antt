-- The texts of a query, and what they mean.
--   text_of kind names q           the text of a query in a language, where the labels have these names
--   MeansInSparql names q text     read as SPARQL, the text has the rows of the query
--   MeansInSql q text              so it has, read as SQL
--   MeansQuery kind names q text   either of them, by the language
--   TextsMeanTheirQuery            a law: the texts of a query that keeps the rules of a head mean it
use Rattle.std.specs.Prelude.{◌≡◌, ◌↔◌, ℕ, ◌+◌, List, length}
use Rattle.graph_text.specs.declared.graphs.Triple.{Triple}
use Rattle.gm_files.specs.declared.texts.QueryFile.{QueryFile}
use Rattle.gm_files.specs.declared.texts.QueryFile.TheVariants.{Sparql, Sql}
use Rattle.query_terms.specs.Values.{QueryValue}
use Rattle.query_terms.specs.Numbering.{numbering}
use Rattle.rpq_meaning.specs.QueryRows.{IsQueryRow}
use Rattle.sparql_read.specs.Grammar.{Asked}
use Rattle.sparql_read.specs.Text.{IsSparql}
use Rattle.sparql_mean.specs.Rows.{IsSparqlRow}
use Rattle.sparql_emit.specs.QueryText.{sparql_text_of}
use Rattle.sql_read.specs.Grammar.{Reading}
use Rattle.sql_read.specs.Text.{IsSql}
use Rattle.sql_mean.specs.Rows.{IsSqlRow}
use Rattle.sql_emit.specs.Text.{sql_text_of}
use Rattle.workload_text.specs.Values.{HeadValue, IsHead, IsQuery}

-- the text in the language; in SQL labels have their numbers
abbrev pub text_of : QueryFile → List (List ℕ) → QueryValue → List ℕ
text_of Sparql names q = sparql_text_of names q
text_of Sql names q = sql_text_of q

-- the text has a reading, whose rows over every list of triples are the query's, where the labels have these names
pub record MeansInSparql (names : List (List ℕ)) (q : QueryValue) (text : List ℕ) : Type 0 where
  pub reading : Asked
  pub is_read : IsSparql text reading
  pub rows : (graph : List Triple) (row : List ℕ) → IsSparqlRow names reading graph row ↔ IsQueryRow q graph row

-- the text has a reading, whose rows over every list of triples are the query's, with one table for each term of the
-- query behind that of the nodes
pub record MeansInSql (q : QueryValue) (text : List ℕ) : Type 0 where
  pub reading : Reading
  pub is_read : IsSql text reading
  pub tables : length reading.tables ≡ length (numbering q.labels q.rules).terms + 1
  pub rows : (graph : List Triple) (row : List ℕ) → IsSqlRow reading graph row ↔ IsQueryRow q graph row

-- by the language
abbrev pub MeansQuery : QueryFile → List (List ℕ) → QueryValue → List ℕ → Type 0
MeansQuery Sparql names q text = MeansInSparql names q text
MeansQuery Sql names q text = MeansInSql q text

-- the texts of a query that keeps the rules of a head mean the query
abbrev pub TextsMeanTheirQuery : Type 0
TextsMeanTheirQuery = (h : HeadValue) (q : QueryValue) → IsHead h → IsQuery h q → (kind : QueryFile) → MeansQuery kind h.labels q (text_of kind h.labels q)

-- A query as one value.
--   query_value q     the value of a query
use Rattle.query_terms.specs.declared.query.Query.{Query}
use Rattle.query_terms.specs.Values.{QueryValue}
use Rattle.query_terms.specs.Lists.{rules_in}

-- what a query asks for: spans, terms and their numbers are no part of it
abbrev pub query_value : Query → QueryValue
query_value q = record {
  labels = q.labels.now;
  shape = q.shape;
  class = q.class;
  wide = q.wide;
  rules = rules_in q.symbols.now q.words.now q.conjuncts.now q.rules.now;
}

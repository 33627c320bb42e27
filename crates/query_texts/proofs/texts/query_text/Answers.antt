use Rattle.query_terms.specs.View.{query_value}
use Rattle.query_texts.proofs.NameLemmas.{names-different}
use Rattle.query_texts.proofs.MeaningLemmas.{terms-few}
use Rattle.query_texts.proofs.texts.query_text.Goals as goal

pub sparql_text-requires-clause-labels : goal.sparql_text-requires-clause-labels
sparql_text-requires-clause-labels c =
    let q = c.args.query.now in
    rw (c.labels.ensures.labels, q.terms_are) (terms-few c.args.head.now (query_value q) c.labels.ensures.head c.requires).labelled

pub sparql_text-requires-clause-names : goal.sparql_text-requires-clause-names
sparql_text-requires-clause-names c = rw c.labels.ensures.labels (names-different c.args.head.now.labels c.labels.ensures.head.labels.differ)

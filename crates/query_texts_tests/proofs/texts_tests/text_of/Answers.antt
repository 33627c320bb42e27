use Rattle.query_terms.specs.View.{query_value}
use Rattle.query_texts.proofs.RuleLemmas.{query-keeps}
use Rattle.query_texts_tests.proofs.texts_tests.text_of.Goals as goal

pub query_text-requires : goal.query_text-requires
query_text-requires c = query-keeps _ c.head.result.now 0 (query_value c.query.result.now) c.query.ensures.work c.head.ensures.head c.query.ensures.query

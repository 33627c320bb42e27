use Rattle.summary_text.proofs.CountLemmas.{query-counted}
use Rattle.summary_text.proofs.laws.queries_are_counted_one_by_one.Goals as goal

pub returns : goal.returns
returns c = query-counted

use Rattle.query_texts.proofs.MeaningLemmas.{texts_mean_their_query}
use Rattle.query_texts.proofs.laws.texts_mean_their_query.Goals as goal

pub returns : goal.returns
returns c = texts_mean_their_query

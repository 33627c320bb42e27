use Rattle.workload_text.proofs.ReadingLemmas.{reading-is-verdict}
use Rattle.workload_text.proofs.laws.reading_is_verdict.Goals as goal

pub returns : goal.returns
returns c = reading-is-verdict

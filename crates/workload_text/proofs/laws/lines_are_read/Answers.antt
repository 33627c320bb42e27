use Rattle.workload_text.proofs.LineLemmas.{lines-are-read}
use Rattle.workload_text.proofs.laws.lines_are_read.Goals as goal

pub returns : goal.returns
returns c = lines-are-read

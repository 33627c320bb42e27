use Rattle.workload_text.proofs.ReadingLemmas.{read-where-unbroken}
use Rattle.workload_text.proofs.laws.read_where_unbroken.Goals as goal

pub returns : goal.returns
returns c = read-where-unbroken

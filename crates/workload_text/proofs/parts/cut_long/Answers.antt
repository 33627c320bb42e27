use Rattle.workload_text.proofs.PartLemmas.{one_part, first_part}
use Rattle.workload_text.proofs.parts.cut_long.Goals as goal

pub returns-in_default : goal.returns-in_default
returns-in_default c = one_part _ _ (rw c.in_default.is at c.memchr.ensures)

pub returns : goal.returns
returns c = let first = c.in-Some.ensures in first_part _ _ _ first.0 first.1

use Rattle.workload_text.specs.Sofar.{value_of}
use Rattle.workload_text.specs.State.{sofar_of}
use Rattle.workload_text.proofs.ReadingLemmas.{reading}
use Rattle.workload_text.proofs.work.read_workload.Goals as goal

pub new-requires : goal.new-requires
new-requires c = (reading c.args.bytes.now (value_of (sofar_of c.in_ok-reading.reading)) c.in_ok-reading.ensures.value).0.head

pub invariant_of-result : goal.invariant_of-result
invariant_of-result c =
    rw c.in_ok-head.ensures (reading c.args.bytes.now (value_of (sofar_of c.in_ok-reading.reading)) c.in_ok-reading.ensures.value).0

pub returns-clause-reading : goal.returns-clause-reading
returns-clause-reading c = rw c.in_ok-head.ensures (reading c.args.bytes.now (value_of (sofar_of c.in_ok-reading.reading)) c.in_ok-reading.ensures.value)

use Rattle.workload_text.proofs.HeadLemmas.{IsHead-head_of}
use Rattle.workload_text.proofs.head.WorkHead.of.Goals as goal

pub invariant_of-result : goal.invariant_of-result
invariant_of-result c =
    rw (c.workload.ensures.workload, c.of-2.ensures, c.of-3.ensures, c.in_ok-labels.ensures.names, c.in_ok-types.ensures.names, c.in_ok-schema.ensures.value)
    (IsHead-head_of c.args.config.now c.workload.ensures.config)

pub returns-clause-head : goal.returns-clause-head
returns-clause-head c =
    rw (c.workload.ensures.workload, c.of-2.ensures, c.of-3.ensures, c.in_ok-labels.ensures.names, c.in_ok-types.ensures.names, c.in_ok-schema.ensures.value)
    (IsHead-head_of c.args.config.now c.workload.ensures.config)

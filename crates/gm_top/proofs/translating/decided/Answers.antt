use Rattle.gm_top.proofs.DecisionLemmas.{IsDecision-text, IsDecision-not_text}
use Rattle.gm_top.proofs.translating.decided.Goals as goal

pub returns-in_err-work-clause-decision : goal.returns-in_err-work-clause-decision
returns-in_err-work-clause-decision c =
    IsDecision-not_text c.from_residual.result c.args.bytes.now c.read_workload.result _ c.in_err-work.was c.from_residual.ensures.1
    c.read_workload.ensures.bad

pub returns-clause-decision : goal.returns-clause-decision
returns-clause-decision c = λ _. IsDecision-text c.args.bytes.now c.in_ok-work.work c.in_ok-work.ensures.value

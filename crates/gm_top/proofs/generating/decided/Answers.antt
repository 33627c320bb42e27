use Rattle.gm_top.proofs.DecisionLemmas.{IsDecision-unread, IsDecision-refused, IsDecision-accepted, IsDecision-memory, stops-memory, stops-refusal}
use Rattle.gm_top.proofs.generating.decided.Goals as goal

pub returns-in_err-config-clause-decision : goal.returns-in_err-config-clause-decision
returns-in_err-config-clause-decision c =
    IsDecision-unread c.from_residual.result c.args.seed c.args.bytes.now c.read_config.result _ c.in_err-config.was c.from_residual.ensures.1
    c.read_config.ensures.broken c.read_config.ensures.not_json

pub returns-in-Some-clause-decision : goal.returns-in-Some-clause-decision
returns-in-Some-clause-decision c = λ _.
    IsDecision-refused c.args.seed c.args.bytes.now _ _ c.in-Some.refusal c.in_ok-config.ensures.ok c.in_ok-generation.ensures
    (rw c.in-Some.is at c.in_ok-refusal.ensures)

pub returns-clause-decision : goal.returns-clause-decision
returns-clause-decision c = λ _.
    IsDecision-accepted c.args.seed c.args.bytes.now _ _ c.in_ok-config.ensures.ok c.in_ok-generation.ensures
    (rw c.in-None.is at c.in_ok-refusal.ensures)

pub returns-in_err-refusal-clause-decision : goal.returns-in_err-refusal-clause-decision
returns-in_err-refusal-clause-decision c = IsDecision-memory c.from_residual-in_err-refusal.result c.from_residual-in_err-refusal.ensures.1

pub returns-in_err-refusal-clause-stops : goal.returns-in_err-refusal-clause-stops
returns-in_err-refusal-clause-stops c = stops-memory c.from_residual-in_err-refusal.result c.from_residual-in_err-refusal.ensures.1

pub returns-in-Some-clause-stops : goal.returns-in-Some-clause-stops
returns-in-Some-clause-stops c = stops-refusal _ c.in-Some.refusal (rw c.in-Some.is at c.in_ok-refusal.ensures)

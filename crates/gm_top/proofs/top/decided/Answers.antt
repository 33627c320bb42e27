use Rattle.gm_top.specs.declared.commands.Command.TheVariants.{Generate}
use Rattle.gm_top.proofs.DecisionLemmas.{decision-made}
use Rattle.gm_top.proofs.top.decided.Goals as goal

pub returns-in_ok-read_all-in-Generate-clause-decision : goal.returns-in_ok-read_all-in-Generate-clause-decision
returns-in_ok-read_all-in-Generate-clause-decision g c =
    rw c.in-Generate.is (decision-made (Generate c.in-Generate.seed) _ _ c.decided-in-Generate.result c.in_ok-read_all-in-Generate.ensures.bytes
    (rw c.deref-in-Generate.ensures.value at c.decided-in-Generate.ensures.decision))

use Rattle.std.proofs.Common.{sym}
use Rattle.gm_config.proofs.WorkloadLemmas.{KeepsRules-workload}
use Rattle.gm_config.proofs.workload_rules.read_workload.Goals as goal

pub read_member-requires : goal.read_member-requires
read_member-requires c = KeepsRules-workload _ _ c.requires (sym c.in-Some.ensures)

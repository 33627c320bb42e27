use Rattle.std.proofs.Common.{sym, ap, ◌∙◌}
use Rattle.std.specs.Prelude.{option_and_then}
use Rattle.serde_json.specs.View.{view}
use Rattle.gm_config.specs.Limits.{RangeLimits}
use Rattle.gm_config.specs.WorkloadRules.{range_in}
use Rattle.gm_config.proofs.WorkloadLemmas.{seen-at}
use Rattle.gm_config.proofs.workload_rules.range_among.Goals as goal

pub returns-in-Some : goal.returns-in-Some
returns-in-Some c =
    let found = c.in-Some.ensures.lookup in
    let here = seen-at c.args.ranges.now c.args.index c.in-Some.limits.now found.3.0 found.1 in
    c.range_in.ensures ∙ sym (ap (option_and_then (λ (limits : RangeLimits). range_in limits (view c.args.workload.now))) here)

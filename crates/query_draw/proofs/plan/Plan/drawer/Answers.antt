use Rattle.std.proofs.Common.{sym, ap, subst, ◌∙◌}
use Rattle.gm_config.specs.WorkloadRules.{IsWorkload}
use Rattle.sel_graph.specs.Moves.{IsReach}
use Rattle.query_draw.proofs.RuleLemmas.{reach_is}
use Rattle.query_draw.proofs.plan.Plan.drawer.Goals as goal

pub invariant_of-result : goal.invariant_of-result
invariant_of-result c =
    let plan = c.args.self.now in
    record {
      workload_is = subst IsWorkload (sym c.workload.ensures.workload) c.workload.ensures.config.workload;
      reach_is = subst IsReach (sym plan.reach_is) (reach_is plan.config.now c.workload.ensures.config);
      schema_is = ap (λ r. r.schema) plan.reach_is ∙ sym plan.schema_is;
      lengths_are = ap (λ r. r.lengths) plan.reach_is ∙ ap (λ w. w.length) (sym c.workload.ensures.workload);
    }

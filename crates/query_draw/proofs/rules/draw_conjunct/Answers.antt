use Rattle.std.proofs.Common.{◌<◌, length, sym, ap, subst}
use Rattle.query_draw.specs.Drawers.{random_words}
use Rattle.query_draw.proofs.PutLemmas.{some_words}
use Rattle.query_draw.proofs.rules.draw_conjunct.Goals as goal

pub end_conjunct-requires-clause-some : goal.end_conjunct-requires-clause-some
end_conjunct-requires-clause-some c =
    let d = c.args.drawer.now in
    subst (λ n. 0 < n) (sym (ap (λ b. length b.words) c.in_ok-draw_words.ensures.put))
    (some_words d.reach.now d.workload.now (random_words d) c.args.leg c.args.i c.args.builder.now.words d.workload_is.disjuncts.above)

use Rattle.std.proofs.Common.{◌≡◌, ◌+◌, ◌-◌, suc, true, sym, subst, arith}
use Rattle.sel_graph.specs.States.{begun}
use Rattle.sel_graph.specs.Tests.{feasible}
use Rattle.query_draw.specs.Drawers.{random_words, spine_by}
use Rattle.query_draw.proofs.PathLemmas.{spine_left-more, spine_left-none}
use Rattle.query_draw.proofs.paths.draw_spine.Goals as goal

pub loop-i-preserved : goal.loop-i-preserved
loop-i-preserved c =
    let d = c.args.drawer.now in
    let r = d.reach.now in
    let i = c.loop-i.i in
    let via = c.draw_spine_move-via.result in
    let same : c.args.count - i ≡ suc (c.args.count - 1 - i) = omega (arith, c.loop-i-test.true) in
    let less : c.args.count - 1 - i ≡ c.args.count - (i + 1) = omega arith in
    let live : feasible r c.args.goal (c.args.count - 1 - i) c.moved-state.result ≡ true =
    subst (λ s. feasible r c.args.goal (c.args.count - 1 - i) s ≡ true) (sym c.moved-state.ensures.state) c.draw_spine_move-via.ensures.live in
    let put =
    spine_left-more r d.workload.now (random_words d) c.args.goal c.loop-i.state c.moved-state.result (c.args.count - i) (c.args.count - 1 - i) i (i + 1) via (spine_by d c.args.goal (begun c.args.start) c.args.count 0)
    c.loop-i.legs.items c.push.new.self.items c.loop-i.invariant.put same (omega arith) c.draw_spine_move-via.ensures.value c.moved-state.ensures.state c.in_ok-push.ensures.items in
    record {
      start = c.moved-state.ensures.start;
      here = c.moved-state.ensures.here;
      live = subst (λ n. feasible r c.args.goal n c.moved-state.result ≡ true) less live;
      put = rw (← less) put;
    }

pub returns : goal.returns
returns c =
    let d = c.args.drawer.now in
    spine_left-none d.reach.now d.workload.now (random_words d) c.args.goal c.loop-i.state (c.args.count - c.loop-i.i) c.loop-i.i (spine_by d c.args.goal (begun c.args.start) c.args.count 0) c.loop-i.legs.items
    c.loop-i.invariant.put (omega (arith, c.loop-i-test.false))

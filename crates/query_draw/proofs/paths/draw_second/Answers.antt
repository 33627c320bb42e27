use Rattle.std.proofs.Common.{◌≡◌, ◌+◌, ◌-◌, suc, subst, refl, ◌∙◌, arith}
use Rattle.query_draw.specs.Drawers.{random_words, second_by, CanLink}
use Rattle.query_draw.proofs.PathLemmas.{second_left-more, second_left-none}
use Rattle.query_draw.proofs.paths.draw_second.Goals as goal

pub loop-j-preserved : goal.loop-j-preserved
loop-j-preserved c =
    let d = c.args.drawer.now in
    let r = d.reach.now in
    let j = c.loop-j.j in
    let count = c.second-count.result in
    let first = c.spine-first.result in
    let via = c.draw_second_move-via.result in
    let same : count - j ≡ suc (count - 1 - j) = omega (arith, c.loop-j-test.true) in
    let less : count - 1 - j ≡ count - (j + 1) = omega arith in
    let put =
    second_left-more r d.workload.now (random_words d) c.args.end c.loop-j.from via.to (count - j) (count - 1 - j) (first + j) (first + (j + 1)) via (second_by d c.args.end c.args.start count first)
    c.loop-j.legs.items c.push.new.self.items c.loop-j.invariant.put same (omega arith) c.draw_second_move-via.ensures.value refl c.in_ok-push.ensures.items in
    record {
      here = c.draw_second_move-via.ensures.to;
      live = subst (λ n. CanLink r n via.to c.args.end) less c.draw_second_move-via.ensures.live;
      put = rw (← less) put;
    }

pub returns : goal.returns
returns c =
    let d = c.args.drawer.now in
    second_left-none d.reach.now d.workload.now (random_words d) c.args.end c.loop-j.from (c.second-count.result - c.loop-j.j) (c.spine-first.result + c.loop-j.j) (second_by d c.args.end c.args.start c.second-count.result c.spine-first.result)
    c.loop-j.legs.items c.loop-j.invariant.put (omega (arith, c.loop-j-test.false))
    ∙ (λ k. second_by d c.args.end c.args.start (c.second-count.ensures.second k) (c.spine-first.ensures.spine k))

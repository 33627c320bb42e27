use Rattle.std.proofs.Common.{◌≡◌, ◌≤◌, ◌<◌, ◌+◌, ◌++◌, ◌∷◌, [], length, sym, ap, subst, ◌∙◌, arith}
use Rattle.std.proofs.lemmas.List.FromFn.{map-range_with_len_more}
use Rattle.skeletons.specs.Skeleton.{spine_of, arm_start, ends_of}
use Rattle.walk_pick.specs.Laws.{HasSymbol}
use Rattle.query_draw.specs.Drawn.{arm_leg, nth_arm, variable_type}
use Rattle.query_draw.specs.Drawers.{random_words}
use Rattle.query_draw.proofs.PathLemmas.{arm_from, arm_within, variable_symbol}
use Rattle.query_draw.proofs.paths.draw_arms.Goals as goal

pub draw_arm-requires : goal.draw_arm-requires
draw_arm-requires c =
    let s = c.args.skeleton.now in
    let m = spine_of s.shape s.count in
    let j = c.loop-j.j in
    let from : c.ends-variable.result.0 ≡ arm_start s.shape m j =
    ap (λ e. e.0) c.ends-variable.ensures.ends ∙ (ap (λ x. (ends_of s.shape s.count (x + j)).0) c.spine-first.ensures.spine ∙ arm_from s.shape s.count j c.requires.skeleton (subst (λ n. j < n) c.arms-j-end.ensures.arms c.loop-j-test.true)) in
    let within : c.ends-variable.result.0 ≤ length c.args.spine.now = subst (λ x. x ≤ length c.args.spine.now) (sym from) (subst (λ n. arm_start s.shape m j ≤ n) (sym c.requires.long) (arm_within s.shape m j)) in
    subst (HasSymbol c.args.drawer.now.reach.now.schema) (sym c.type_of-from.ensures)
    (variable_symbol c.args.drawer.now.reach.now.schema c.args.start c.ends-variable.result.0 c.args.spine.now c.requires.start c.requires.symbols within)

pub loop-j-preserved : goal.loop-j-preserved
loop-j-preserved c =
    let d = c.args.drawer.now in
    let s = c.args.skeleton.now in
    let m = spine_of s.shape s.count in
    let first = c.spine-first.result in
    let j = c.loop-j.j in
    let from : c.ends-variable.result.0 ≡ arm_start s.shape first j =
    ap (λ e. e.0) c.ends-variable.ensures.ends ∙ (ap (λ x. (ends_of s.shape s.count (x + j)).0) c.spine-first.ensures.spine
    ∙ (arm_from s.shape s.count j c.requires.skeleton (subst (λ n. j < n) c.arms-j-end.ensures.arms c.loop-j-test.true) ∙ ap (λ x. arm_start s.shape x j) (sym c.spine-first.ensures.spine))) in
    let arm = nth_arm d.reach.now d.workload.now (random_words d) s.shape c.args.start c.args.spine.now first in
    let leg : c.draw_arm.result ≡ arm j =
    c.draw_arm.ensures ∙ ap (λ x. arm_leg d.reach.now d.workload.now (random_words d) x (first + j)) (c.type_of-from.ensures ∙ ap (variable_type c.args.start c.args.spine.now) from) in
    record { put = c.in_ok-push.ensures.items ∙ ((λ k. c.loop-j.invariant.put k ++ leg k ∷ []) ∙ sym (map-range_with_len_more arm 0 j j (omega arith))) }

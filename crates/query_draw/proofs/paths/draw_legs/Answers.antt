use Rattle.std.proofs.Common.{◌≡◌, ◌<◌, ◌≤◌, ◌++◌, ℕ, List, true, length, sym, ap, subst, ◌∙◌, arith}
use Rattle.std.specs.List.{All}
use Rattle.std.proofs.lemmas.List.{append_assoc}
use Rattle.sel_algebra.specs.declared.vocabulary.Class.{Class}
use Rattle.skeletons.specs.Skeleton.{SkeletonValue, HasSkeleton, spine_of, second_of}
use Rattle.sel_graph.specs.States.{begun}
use Rattle.sel_graph.specs.Tests.{feasible}
use Rattle.walk_pick.specs.Candidates.{goal_of}
use Rattle.query_draw.specs.declared.drawer.Drawer.{Drawer}
use Rattle.query_draw.specs.declared.legs.Leg.{Leg}
use Rattle.query_draw.specs.Drawn.{variable_type, rule_spine}
use Rattle.query_draw.specs.Drawers.{random_words, spine_by, second_by, arms_by, IsLeg, CanLink}
use Rattle.query_draw.proofs.PutLemmas.{stream_words}
use Rattle.query_draw.proofs.PathLemmas.{IsRuleSpine, rule_spine-is, legs_each}
use Rattle.query_draw.proofs.paths.draw_legs.Goals as goal

-- the legs of the spine of a rule, as they are drawn
module _ (d : Drawer) (s : SkeletonValue) (class : Class) (t second count : ℕ) (second_is : second ≡ second_of s.shape s.count) (count_is : count ≡ spine_of s.shape s.count) where
  spine-same : (legs : List Leg) → legs ≡ spine_by d (record { class = class; second = second }) (begun t) count 0
      → legs ≡ rule_spine d.reach.now d.workload.now (random_words d) s.shape class s.count t
  spine-same legs drawn = drawn ∙ (λ k. spine_by d (record { class = class; second = second_is k }) (begun t) (count_is k) 0)

  spine-is : HasSkeleton s.shape s.count → feasible d.reach.now (goal_of s.shape class s.count) (spine_of s.shape s.count) (begun t) ≡ true → (legs : List Leg)
      → legs ≡ spine_by d (record { class = class; second = second }) (begun t) count 0 → IsRuleSpine d.reach.now s.shape s.count t legs
  spine-is has live legs drawn =
      rule_spine-is d.reach.now d.reach_is d.workload.now (random_words d) (stream_words d.seed d.stream) s.shape class s.count t legs has live (spine-same legs drawn)

pub type_of-end-requires : goal.type_of-end-requires
type_of-end-requires c =
    let spine =
    spine-is c.args.drawer.now c.args.skeleton.now c.args.class c.args.start _ _ c.second.ensures.second c.spine-count.ensures.spine c.requires.skeleton c.requires.live _
    (c.deref.ensures.value ∙ c.in_ok-legs.ensures) in
    omega (arith, spine.long, c.spine-count.ensures.spine)

pub draw_second-requires-clause-there : goal.draw_second-requires-clause-there
draw_second-requires-clause-there c =
    let d = c.args.drawer.now in
    let s = c.args.skeleton.now in
    let t = c.args.start in
    let spine =
    spine-is d s c.args.class t _ _ c.second.ensures.second c.spine-count.ensures.spine c.requires.skeleton c.requires.live _ (c.deref.ensures.value ∙ c.in_ok-legs.ensures) in
    let end : c.type_of-end.result ≡ variable_type t c.deref.result.now (spine_of s.shape s.count) = c.type_of-end.ensures ∙ ap (variable_type t c.deref.result.now) c.spine-count.ensures.spine in
    subst (λ x. x < length d.reach.now.schema.kinds) (sym end) spine.inside

pub draw_second-requires-clause-live : goal.draw_second-requires-clause-live
draw_second-requires-clause-live c =
    let d = c.args.drawer.now in
    let s = c.args.skeleton.now in
    let t = c.args.start in
    let spine =
    spine-is d s c.args.class t _ _ c.second.ensures.second c.spine-count.ensures.spine c.requires.skeleton c.requires.live _ (c.deref.ensures.value ∙ c.in_ok-legs.ensures) in
    let end : c.type_of-end.result ≡ variable_type t c.deref.result.now (spine_of s.shape s.count) = c.type_of-end.ensures ∙ ap (variable_type t c.deref.result.now) c.spine-count.ensures.spine in
    subst (CanLink d.reach.now (second_of s.shape s.count) t) (sym end) spine.link

pub draw_arms-requires-clause-long : goal.draw_arms-requires-clause-long
draw_arms-requires-clause-long c =
    (spine-is c.args.drawer.now c.args.skeleton.now c.args.class c.args.start _ _ c.second.ensures.second c.spine-count.ensures.spine c.requires.skeleton c.requires.live _
    (c.deref-2.ensures.value ∙ c.in_ok-legs.ensures)).long

pub draw_arms-requires-clause-symbols : goal.draw_arms-requires-clause-symbols
draw_arms-requires-clause-symbols c =
    (spine-is c.args.drawer.now c.args.skeleton.now c.args.class c.args.start _ _ c.second.ensures.second c.spine-count.ensures.spine c.requires.skeleton c.requires.live _
    (c.deref-2.ensures.value ∙ c.in_ok-legs.ensures)).symbols

pub draw_arms-requires-clause-start : goal.draw_arms-requires-clause-start
draw_arms-requires-clause-start c =
    (spine-is c.args.drawer.now c.args.skeleton.now c.args.class c.args.start _ _ c.second.ensures.second c.spine-count.ensures.spine c.requires.skeleton c.requires.live _
    (c.deref-2.ensures.value ∙ c.in_ok-legs.ensures)).start

pub returns-clause-moves : goal.returns-clause-moves
returns-clause-moves c =
    let d = c.args.drawer.now in
    let s = c.args.skeleton.now in
    let t = c.args.start in
    let m = spine_of s.shape s.count in
    let spine = rule_spine d.reach.now d.workload.now (random_words d) s.shape c.args.class s.count t in
    let first : c.in_ok-legs.legs.items ≡ spine = spine-same d s c.args.class t _ _ c.second.ensures.second c.spine-count.ensures.spine _ c.in_ok-legs.ensures in
    let end : c.type_of-end.result ≡ variable_type t spine m =
    c.type_of-end.ensures ∙ (λ k. variable_type t ((c.deref.ensures.value ∙ first) k) (c.spine-count.ensures.spine k)) in
    let second : c.in_ok-second.second.items ≡ second_by d (variable_type t spine m) t (second_of s.shape s.count) m =
    c.in_ok-second.ensures ∙ ap (λ x. second_by d x t (second_of s.shape s.count) m) end in
    let arms : c.in_ok-arms.arms.items ≡ arms_by d s t spine = c.in_ok-arms.ensures ∙ ap (arms_by d s t) (c.deref-2.ensures.value ∙ first) in
    let all = c.in_ok-append-2.ensures.items
    ∙ ((λ k. (c.in_ok-append.ensures.items ∙ (λ j. first j ++ second j)) k ++ arms k) ∙ append_assoc spine (second_by d (variable_type t spine m) t (second_of s.shape s.count) m) (arms_by d s t spine)) in
    subst (All (IsLeg d.reach.now)) (sym all)
    (legs_each d.reach.now d.reach_is (subst (λ x. x.least ≤ x.most) (sym d.lengths_are) d.workload_is.words.ordered) d.workload.now (random_words d) (stream_words d.seed d.stream) s.shape c.args.class s.count t
    c.requires.skeleton c.requires.live)

-- A drawn rule: its spine leads along, and its class is the one that was drawn.
use Rattle.std.proofs.Common.{◌≡◌, ◌≢◌, ℕ, zero, suc, ◌+◌, ◌<◌, ◌≤◌, Bool, true, false, nat_le, if◌then◌else◌, Option, Some, None, List, [], ◌∷◌, ◌++◌, length, filter, map, take, refl, sym, ap, subst, ◌∙◌, arith}
use Rattle.std.specs.List.{All, range_with_len, list_any}
use Rattle.std.specs.Option.{is_some}
use Rattle.std.proofs.lemmas.Bool.{and_parts}
use Rattle.std.proofs.lemmas.Bool.Decides.{nat_tests}
use Rattle.std.proofs.lemmas.List.{length-append}
use Rattle.std.proofs.lemmas.List.Elements.{All-head, All-tail, All-map, All-from_get_or}
use Rattle.std.proofs.lemmas.List.FromFn.{length-map-range_with_len}
use Rattle.candidates.specs.Picked.{picked}
use Rattle.candidates.proofs.PickLemmas.{filter_none, none_passes, picked_some, picked_is_none}
use Rattle.sel_algebra.specs.declared.vocabulary.Op.TheVariants.{Equal}
use Rattle.sel_algebra.specs.declared.vocabulary.Class.{Class}
use Rattle.sel_algebra.specs.declared.vocabulary.Shape.{Shape}
use Rattle.sel_algebra.specs.declared.vocabulary.Shape.TheVariants.{Chain, Star, Cycle, StarChain}
use Rattle.sel_algebra.specs.Operators.{growth_class}
use Rattle.sel_algebra.specs.Entries.{ClassEntryAtMost, greater_class}
use Rattle.sel_algebra.specs.Table.{kind_at}
use Rattle.gm_config.specs.declared.workload_rules.Workload.{Workload}
use Rattle.gm_config.specs.Config.{ConfigValue, IsConfig}
use Rattle.gm_config.specs.WorkloadRules.{IsRange}
use Rattle.schema_graph.specs.Configured.{schema_of}
use Rattle.schema_graph.specs.Schema.{SchemaValue}
use Rattle.schema_graph.proofs.ConfiguredLemmas.{IsSchema-schema_of}
use Rattle.skeletons.specs.Skeleton.{conjuncts_most, HasSkeleton, spine_of, second_of, arms_of, ends_of, PartsAreAll}
use Rattle.sel_graph.specs.declared.states.State.{State}
use Rattle.sel_graph.specs.declared.states.Goal.{Goal}
use Rattle.sel_graph.specs.States.{begun, state_class}
use Rattle.sel_graph.specs.Moves.{ReachValue, IsReach, moved}
use Rattle.sel_graph.specs.Tests.{numbers_of, feasible}
use Rattle.sel_graph.proofs.MoveLemmas.{meets_agree}
use Rattle.walk_pick.specs.Candidates.{types_of, is_live_start, start_candidates, goal_of, permits, is_live_count, count_candidates}
use Rattle.walk_pick.proofs.LawLemmas.{picked_within, starts_never_run_out}
use Rattle.query_terms.specs.Values.{ConjunctValue, RuleValue, has_class}
use Rattle.query_draw.specs.declared.legs.Leg.{Leg}
use Rattle.query_draw.specs.Drawn.{Words, words_for, spine_move, spine_legs, second_move, second_legs, nth_arm, arm_legs, rule_spine, later_legs, rule_legs, variable_type, drawn_conjunct, drawn_conjuncts, drawn_count, drawn_start}
use Rattle.query_draw.specs.Query.{reach_of, drawn_shape, drawn_class, rule_count, rule_size, drawn_rule, drawn_rules, has_query, query_of}
use Rattle.query_draw.specs.Values.{LeadsSpine, composed_along, spine, spine_value, spine_class, rule_class, greatest_of}
use Rattle.query_draw.specs.Wide.{query_wide}
use Rattle.query_draw.specs.Laws.{HasSpine, DrawnClassIsClass, DrawnClassIsAtMostWideClass, ends_in, DrawnRulesHaveSkeletons, EachRuleTells}
use Rattle.query_draw.proofs.WideLemmas.{LeadsSpine-start, LeadsSpine-end, class_at_most_wide}
use Rattle.query_draw.proofs.LegLemmas.{AreWords, words_for-words, picked_is, spine_legs-none, spine_legs-more, after_legs, spine_legs-lead, conjuncts_lead}

-- ---- what a rule begins with

from_le : (a b : ℕ) → nat_le a b ≡ true → a ≤ b
from_le a b test = grind (arith, nat_tests)

-- what is known of the number of conjuncts and of the start
pub record IsBegun (r : ReachValue) (w : Workload) (shape : Shape) (class : Class) (d : Words) (k t : ℕ) : Type 0 where
  pub count : picked (d 3) (count_candidates r shape class w.conjuncts) ≡ Some k
  pub start : picked (d 4) (start_candidates r (goal_of shape class k) (spine_of shape k)) ≡ Some t
  pub skeleton : HasSkeleton shape k
  pub inside : t < length r.schema.kinds
  pub live : feasible r (goal_of shape class k) (spine_of shape k) (begun t) ≡ true

pub rule_begun : (r : ReachValue) (w : Workload) (shape : Shape) (class : Class) (d : Words) → AreWords d → IsRange 1 conjuncts_most w.conjuncts
    → list_any (is_live_count r shape class) (numbers_of w.conjuncts) ≡ true
    → IsBegun r w shape class d (drawn_count r w shape class d) (drawn_start r shape class d (drawn_count r w shape class d))
rule_begun r w shape class d words range any =
    let (k, is, live) = picked_some (d 3) (is_live_count r shape class) (numbers_of w.conjuncts) (words 3) any in
    let within = picked_within w.conjuncts (d 3) (is_live_count r shape class) k is in
    let goal = goal_of shape class k in
    let (permitted, starts) = and_parts (permits shape k) (list_any (is_live_start r goal (spine_of shape k)) (types_of r)) live in
    let (t, at, inside, feasible_there) = starts_never_run_out r goal (spine_of shape k) (d 4) (words 4) starts in
    let skeleton : HasSkeleton shape k = record {
      some = omega (arith, within.0, range.above);
      two_paths = λ same. from_le 2 k (subst (λ s. permits s k ≡ true) same permitted);
      few = omega (arith, within.1, range.small);
    } in
    let with_t : IsBegun r w shape class d k t = record { count = is; start = at; skeleton = skeleton; inside = inside; live = feasible_there } in
    let with_start : IsBegun r w shape class d k (drawn_start r shape class d k) =
    subst (IsBegun r w shape class d k) (sym (picked_is 0 (d 4) (start_candidates r goal (spine_of shape k)) t at)) with_t in
    subst (λ n. IsBegun r w shape class d n (drawn_start r shape class d n)) (sym (picked_is 0 (d 3) (count_candidates r shape class w.conjuncts) k is)) with_start

-- ---- the parts of a rule

parts : PartsAreAll
parts Chain k is = omega (arith, is.some)
parts Star k is = omega (arith, is.some)
parts Cycle k is = omega (arith, is.some)
parts StarChain k is = omega (arith, is.some)

pub some_spine : (shape : Shape) (k : ℕ) → HasSkeleton shape k → 1 ≤ spine_of shape k
some_spine Chain k is = is.some
some_spine Star k is = omega arith
some_spine Cycle k is = omega (arith, is.some)
some_spine StarChain k is = omega (arith, is.some)

pub second_legs-none : (r : ReachValue) (w : Workload) (d : Words) (end t i : ℕ) → second_legs r w d end t zero i ≡ []
unfolding second_legs
second_legs-none r w d end t i = refl

pub second_legs-more : (r : ReachValue) (w : Workload) (d : Words) (end t n i : ℕ)
    → second_legs r w d end t (suc n) i ≡ record { from = t; via = second_move r w d end t n i } ∷ second_legs r w d end (second_move r w d end t n i).to n (suc i)
unfolding second_legs
second_legs-more r w d end t n i = refl

pub length-spine_legs : (r : ReachValue) (w : Workload) (d : Words) (goal : Goal) (s : State) (n i : ℕ) → length (spine_legs r w d goal s n i) ≡ n
length-spine_legs r w d goal s zero i = ap length (spine_legs-none r w d goal s i)
length-spine_legs r w d goal s (suc n) i = ap length (spine_legs-more r w d goal s n i) ∙ ap suc (length-spine_legs r w d goal (moved r.schema s (spine_move r w d goal s n i)) n (suc i))

pub length-second_legs : (r : ReachValue) (w : Workload) (d : Words) (end t n i : ℕ) → length (second_legs r w d end t n i) ≡ n
length-second_legs r w d end t zero i = ap length (second_legs-none r w d end t i)
length-second_legs r w d end t (suc n) i = ap length (second_legs-more r w d end t n i) ∙ ap suc (length-second_legs r w d end (second_move r w d end t n i).to n (suc i))

pub length-drawn_conjuncts : (r : ReachValue) (w : Workload) (d : Words) (shape : Shape) (k i : ℕ) (legs : List Leg) → length (drawn_conjuncts r w d shape k i legs) ≡ length legs
length-drawn_conjuncts r w d shape k i [] = refl
length-drawn_conjuncts r w d shape k i (leg ∷ legs) = ap suc (length-drawn_conjuncts r w d shape k (suc i) legs)

-- the legs of a rule are as many as its conjuncts
pub length-rule_legs : (r : ReachValue) (w : Workload) (d : Words) (shape : Shape) (class : Class) (k t : ℕ) → HasSkeleton shape k → length (rule_legs r w d shape class k t) ≡ k
length-rule_legs r w d shape class k t is =
    let m = spine_of shape k in
    let first = rule_spine r w d shape class k t in
    let second = second_legs r w d (variable_type t first m) t (second_of shape k) m in
    let arms = arm_legs r w d shape t first m (arms_of shape k) in
    let whole = length-append first (second ++ arms) in
    let later = length-append second arms in
    let a = length-spine_legs r w d (goal_of shape class k) (begun t) m 0 in
    let b = length-second_legs r w d (variable_type t first m) t (second_of shape k) m in
    let e = length-map-range_with_len (nth_arm r w d shape t first m) 0 (arms_of shape k) in
    omega (arith, whole, later, a, b, e, parts shape k is)

first_conjuncts : (r : ReachValue) (w : Workload) (d : Words) (shape : Shape) (k i : ℕ) (legs more : List Leg)
    → take (length legs) (drawn_conjuncts r w d shape k i (legs ++ more)) ≡ drawn_conjuncts r w d shape k i legs
first_conjuncts r w d shape k i [] more = refl
first_conjuncts r w d shape k i (leg ∷ legs) more = ap (λ cs. drawn_conjunct r w d shape k i leg ∷ cs) (first_conjuncts r w d shape k (suc i) legs more)

-- the spine of a drawn rule has the conjuncts of the legs of its spine
pub spine_conjuncts : (r : ReachValue) (w : Workload) (d : Words) (shape : Shape) (class : Class) (k t : ℕ) → HasSkeleton shape k
    → take (spine_of shape (length (drawn_conjuncts r w d shape k 0 (rule_legs r w d shape class k t)))) (drawn_conjuncts r w d shape k 0 (rule_legs r w d shape class k t))
    ≡ drawn_conjuncts r w d shape k 0 (rule_spine r w d shape class k t)
spine_conjuncts r w d shape class k t is =
    let cs = drawn_conjuncts r w d shape k 0 (rule_legs r w d shape class k t) in
    let first = rule_spine r w d shape class k t in
    let long : length cs ≡ k = length-drawn_conjuncts r w d shape k 0 (rule_legs r w d shape class k t) ∙ length-rule_legs r w d shape class k t is in
    let short : spine_of shape k ≡ length first = sym (length-spine_legs r w d (goal_of shape class k) (begun t) (spine_of shape k) 0) in
    ap (λ n. take n cs) (ap (spine_of shape) long ∙ short) ∙ first_conjuncts r w d shape k 0 first (later_legs r w d shape k t first)

-- ---- the class of a rule

pub after-start : (g : SchemaValue) (s : State) (legs : List Leg) → (after_legs g s legs).start ≡ s.start
after-start g s [] = refl
after-start g s (leg ∷ legs) = after-start g (moved g s leg.via) legs

-- the spine leads along from a type of the schema, and has this class
pub record IsSpineOf (g : SchemaValue) (class : Class) (cs : List ConjunctValue) : Type 0 where
  pub some : cs ≢ []
  pub start : ℕ
  pub end : ℕ
  pub inside : start < length g.kinds
  pub leads : LeadsSpine g start cs end
  pub class_is : spine_class g cs ≡ class

spine_is : (r : ReachValue) → IsReach r → (w : Workload) → 1 ≤ w.disjuncts.least → (d : Words) → AreWords d → (shape : Shape) (class : Class) (k t : ℕ) → IsBegun r w shape class d k t
    → IsSpineOf r.schema class (drawn_conjuncts r w d shape k 0 (rule_spine r w d shape class k t))
spine_is r is w least d words shape class k t begins =
    let g = r.schema in
    let goal = goal_of shape class k in
    let m = spine_of shape k in
    let legs = rule_spine r w d shape class k t in
    let last = after_legs g (begun t) legs in
    let (lead, met) = spine_legs-lead r is w d words goal (begun t) m 0 begins.live in
    let (leads, value) = conjuncts_lead r is w least d words shape k 0 (begun t) last.at legs lead in
    let cs = drawn_conjuncts r w d shape k 0 legs in
    let long = length-drawn_conjuncts r w d shape k 0 legs ∙ length-spine_legs r w d goal (begun t) m 0 in
    let some : cs ≢ [] = λ none. let zero_long = ap length none in absurd (omega (arith, zero_long, long, some_spine shape k begins.skeleton)) in
    let from = LeadsSpine-start g t last.at cs some leads in
    let to = LeadsSpine-end g t last.at cs some leads in
    let same : spine_value g cs ≡ last.op = ap (λ x. composed_along g x Equal cs) from ∙ value in
    let begins_there : last.start ≡ t = after-start g (begun t) legs in
    let class_there : state_class g last ≡ class = ((meets_agree r is goal last).0 met).class in
    record {
      some = some;
      start = t;
      end = last.at;
      inside = begins.inside;
      leads = leads;
      class_is = (λ i. growth_class (same i) (kind_at g.kinds (from i)) (kind_at g.kinds (to i))) ∙ (ap (λ x. growth_class last.op (kind_at g.kinds x) (kind_at g.kinds last.at)) (sym begins_there) ∙ class_there);
    }

-- ---- queries

-- what can be reached in the schema of a configuration keeps its rules
pub reach_is : (c : ConfigValue) → IsConfig c → IsReach (reach_of c)
reach_is c is = record { schema = IsSchema-schema_of c is; some = is.workload.words.above; few = is.workload.words.small }

-- what is known of a drawn rule
pub rule_is_begun : (c : ConfigValue) → IsConfig c → (seed number rule : ℕ) → has_query c seed number ≡ true
    → IsBegun (reach_of c) c.workload (drawn_shape c seed number) (drawn_class c seed number) (words_for seed number rule) (rule_size c seed number rule)
    (drawn_start (reach_of c) (drawn_shape c seed number) (drawn_class c seed number) (words_for seed number rule) (rule_size c seed number rule))
rule_is_begun c is seed number rule any =
    rule_begun (reach_of c) c.workload (drawn_shape c seed number) (drawn_class c seed number) (words_for seed number rule) (words_for-words seed number rule) is.workload.conjuncts any

drawn_spine : (c : ConfigValue) → IsConfig c → (seed number rule : ℕ) → has_query c seed number ≡ true
    → IsSpineOf (schema_of c) (drawn_class c seed number) (spine (drawn_shape c seed number) (drawn_rule c seed number rule))
drawn_spine c is seed number rule any =
    let r = reach_of c in
    let shape = drawn_shape c seed number in
    let class = drawn_class c seed number in
    let d = words_for seed number rule in
    let k = rule_size c seed number rule in
    let t = drawn_start r shape class d k in
    let begins = rule_is_begun c is seed number rule any in
    subst (IsSpineOf (schema_of c) class) (sym (spine_conjuncts r c.workload d shape class k t begins.skeleton))
    (spine_is r (reach_is c is) c.workload is.workload.disjuncts.above d (words_for-words seed number rule) shape class k t begins)

-- each drawn rule has a spine that leads along
pub drawn_rule_has_spine : (c : ConfigValue) → IsConfig c → (seed number rule : ℕ) → has_query c seed number ≡ true
    → HasSpine (schema_of c) (drawn_shape c seed number) (drawn_rule c seed number rule)
drawn_rule_has_spine c is seed number rule any =
    let s = drawn_spine c is seed number rule any in
    record { some = s.some; start = s.start; end = s.end; inside = s.inside; leads = s.leads }

mapped : {X : Type 0} (P : X → Type 0) (f : ℕ → X) (a n : ℕ) → ((j : ℕ) → P (f j)) → All P (map f (range_with_len a n))
mapped P f a n each = All-map P f (range_with_len a n) (All-from_get_or (λ j. P (f j)) (range_with_len a n) 0 (λ i inside. each _))

all_same : (g : SchemaValue) (shape : Shape) (class : Class) (rules : List RuleValue) → rules ≢ [] → All (λ rule. rule_class g shape rule ≡ Some class) rules
    → greatest_of (map (rule_class g shape) rules) ≡ Some class
all_same g shape class [] some all = absurd (some refl)
all_same g shape class (rule ∷ []) some all = ap (λ x. greater_class x None) (All-head (λ x. rule_class g shape x ≡ Some class) rule [] all)
all_same g shape class (rule ∷ next ∷ rules) some all =
    let first = All-head (λ x. rule_class g shape x ≡ Some class) rule (next ∷ rules) all in
    let rest = all_same g shape class (next ∷ rules) (λ none. absurd (cc)) (All-tail (λ x. rule_class g shape x ≡ Some class) rule (next ∷ rules) all) in
    (λ i. greater_class (first i) (rest i)) ∙ twice class
  where
    twice : (c : Class) → greater_class (Some c) (Some c) ≡ Some c
    twice c = grind (arith)

-- there is a rule
pub some_rules : (c : ConfigValue) → IsConfig c → (seed number : ℕ) → drawn_rules c seed number ≢ []
some_rules c is seed number none =
    let long = length-map-range_with_len (drawn_rule c seed number) 0 (rule_count c seed number) in
    let zero_long = ap length none in
    absurd (omega (arith, long, zero_long, is.workload.rules.above))

-- the class of the words of a drawn query is the one that was drawn
pub drawn_class_is_class : DrawnClassIsClass
drawn_class_is_class c is seed number any =
    let g = schema_of c in
    let shape = drawn_shape c seed number in
    let class = drawn_class c seed number in
    let rules = drawn_rules c seed number in
    let each = mapped (λ rule. rule_class g shape rule ≡ Some class) (drawn_rule c seed number) 0 (rule_count c seed number) (λ rule. ap Some (drawn_spine c is seed number rule any).class_is) in
    ap (λ x. if has_class rules then x else None) (all_same g shape class rules (some_rules c is seed number) each)

-- and is at most its wide class
pub drawn_class_is_at_most_wide_class : DrawnClassIsAtMostWideClass
drawn_class_is_at_most_wide_class c is seed number any =
    let g = schema_of c in
    let shape = drawn_shape c seed number in
    let rules = drawn_rules c seed number in
    let all = mapped (HasSpine g shape) (drawn_rule c seed number) 0 (rule_count c seed number) (λ rule. drawn_rule_has_spine c is seed number rule any) in
    subst (λ x. ClassEntryAtMost x (query_wide g shape rules)) (drawn_class_is_class c is seed number any) (class_at_most_wide g (IsSchema-schema_of c is) shape rules all)

there_is : (a b : Option Class) (two : Bool) (d : Class) → a ≡ (if two then Some d else None) → ClassEntryAtMost a b → (two ≡ false → b ≡ None) → is_some b ≡ two
there_is a b false d is most none = ap is_some (none refl)
there_is a None true d is most none = absurd (subst (λ x. ClassEntryAtMost x None) is most)
there_is a (Some e) true d is most none = refl

-- a drawn query has a wide class just where it has two heads
pub wide_is_there : (c : ConfigValue) → IsConfig c → (seed number : ℕ) → has_query c seed number ≡ true → is_some (query_of c seed number).wide ≡ has_class (drawn_rules c seed number)
wide_is_there c is seed number any =
    there_is (query_of c seed number).class (query_of c seed number).wide (has_class (drawn_rules c seed number)) (drawn_class c seed number) refl
    (drawn_class_is_at_most_wide_class c is seed number any) (λ other. rw other refl)

-- ---- skeletons, and whether there is a query

pub ends_from : (r : ReachValue) (w : Workload) (d : Words) (shape : Shape) (k i : ℕ) (legs : List Leg) → ends_in (drawn_conjuncts r w d shape k i legs) ≡ map (ends_of shape k) (range_with_len i (length legs))
ends_from r w d shape k i [] = refl
ends_from r w d shape k i (leg ∷ legs) =
    let next : suc i ≡ i + 1 = omega arith in
    ap (λ es. ends_of shape k i ∷ es) (ends_from r w d shape k (suc i) legs ∙ ap (λ j. map (ends_of shape k) (range_with_len j (length legs))) next)

-- the conjuncts of a drawn rule join its variables as the skeleton says
pub drawn_rules_have_skeletons : DrawnRulesHaveSkeletons
drawn_rules_have_skeletons c is seed number rule any =
    let r = reach_of c in
    let shape = drawn_shape c seed number in
    let class = drawn_class c seed number in
    let d = words_for seed number rule in
    let k = rule_size c seed number rule in
    let t = drawn_start r shape class d k in
    let begins = rule_is_begun c is seed number rule any in
    let long = length-rule_legs r c.workload d shape class k t begins.skeleton in
    (begins.skeleton, ends_from r c.workload d shape k 0 (rule_legs r c.workload d shape class k t) ∙ ap (λ n. map (ends_of shape k) (range_with_len 0 n)) long)

-- there is no query just where the word of some rule picks no number of conjuncts, and then none of any rule does
pub each_rule_tells : EachRuleTells
each_rule_tells c seed number rule =
    let candidates = is_live_count (reach_of c) (drawn_shape c seed number) (drawn_class c seed number) in
    let numbers = numbers_of c.workload.conjuncts in
    let picks = picked_is_none (words_for seed number rule 3) (filter candidates numbers) (words_for-words seed number rule 3) in
    (λ none. none_passes candidates numbers (picks.0 none), λ miss. picks.1 (filter_none candidates numbers miss))

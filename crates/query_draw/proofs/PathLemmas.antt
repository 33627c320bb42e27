-- The legs of a second path and of arms, and that each leg of a rule leads by a move.
use Rattle.std.proofs.Common.{◌≡◌, ◌≢◌, ℕ, zero, suc, ◌+◌, ◌-◌, ◌<◌, ◌≤◌, ◌==◌, nat_lt, true, false, ◌||◌, Some, List, [], ◌∷◌, ◌++◌, length, map, refl, sym, ap, subst, ◌∙◌, arith}
use Rattle.std.specs.List.{All, range_with_len}
use Rattle.std.proofs.lemmas.Bool.{and_parts}
use Rattle.std.proofs.lemmas.Bool.Decides.{nat_tests}
use Rattle.std.proofs.lemmas.List.{append_assoc, append-nil, length-map}
use Rattle.std.proofs.lemmas.List.Elements.{All-nil, All-cons, All-map, All-append, All-get_or, All-from_get_or}
use Rattle.candidates.specs.Picked.{picked}
use Rattle.sel_algebra.specs.declared.vocabulary.Class.{Class}
use Rattle.sel_algebra.specs.declared.vocabulary.Shape.{Shape}
use Rattle.sel_algebra.specs.declared.vocabulary.Shape.TheVariants.{Chain, Star, Cycle, StarChain}
use Rattle.gm_config.specs.declared.workload_rules.Workload.{Workload}
use Rattle.schema_graph.specs.Schema.{SchemaValue}
use Rattle.skeletons.specs.Skeleton.{HasSkeleton, spine_of, second_of, arms_of, arm_start, ends_of, upper_half}
use Rattle.sel_graph.specs.declared.states.State.{State}
use Rattle.sel_graph.specs.declared.states.Move.{Move}
use Rattle.sel_graph.specs.declared.states.Goal.{Goal}
use Rattle.sel_graph.specs.States.{begun}
use Rattle.sel_graph.specs.Moves.{ReachValue, IsReach, moved}
use Rattle.sel_graph.specs.Tests.{is_move, joins, feasible}
use Rattle.walk_pick.specs.Laws.{HasSymbol}
use Rattle.walk_pick.specs.Candidates.{goal_of, link_candidates, arm_candidates}
use Rattle.walk_pick.proofs.LawLemmas.{links_never_run_out, arms_never_run_out, moves_have_symbols}
use Rattle.query_draw.specs.declared.legs.Leg.{Leg}
use Rattle.query_draw.specs.Drawn.{Words, conjunct_place, wants_star, no_move, spine_move, spine_legs, second_move, second_legs, arm_leg, nth_arm, arm_legs, variable_type, rule_spine, later_legs, rule_legs}
use Rattle.query_draw.specs.Drawers.{IsLeg, CanLink}
use Rattle.query_draw.proofs.WideLemmas.{symbol_edge}
use Rattle.query_draw.proofs.LegLemmas.{AreWords, picked_is, spine_legs-none, spine_legs-more, after_legs, AreLegs, spine_legs-lead}
use Rattle.query_draw.proofs.RuleLemmas.{second_legs-none, second_legs-more, length-spine_legs, after-start, some_spine}

-- ---- moves

symbol_inside : (r : ReachValue) → IsReach r → (t : ℕ) → HasSymbol r.schema t → t < length r.schema.kinds
symbol_inside r is t (c, known, starts) = subst (λ x. x < length r.schema.kinds) starts (symbol_edge r.schema is.schema c known).source

-- a move leads from a type to a type
pub IsLeg-move : (r : ReachValue) → IsReach r → (leg : Leg) → is_move r leg.from leg.via ≡ true → IsLeg r leg
IsLeg-move r is leg move =
    let (from, to) = moves_have_symbols r is leg.from leg.via move in
    record { from = symbol_inside r is leg.from from; to = symbol_inside r is leg.via.to to; move = move }

pub AreLegs-each : (r : ReachValue) → IsReach r → (t u : ℕ) (legs : List Leg) → AreLegs r t legs u → All (IsLeg r) legs
AreLegs-each r is t u [] same = All-nil (IsLeg r)
AreLegs-each r is t u (leg ∷ legs) (from, move, rest) = All-cons (IsLeg r) leg legs (IsLeg-move r is leg move) (AreLegs-each r is leg.via.to u legs rest)

-- ---- the second path

-- what is known of the next move of a second path
pub record IsSecondMove (r : ReachValue) (w : Workload) (d : Words) (end t n i : ℕ) (m : Move) : Type 0 where
  pub picked_is : picked (d (conjunct_place i + 1)) (link_candidates r t n end (wants_star w d i)) ≡ Some m
  pub move : is_move r t m ≡ true
  pub more : joins r n m.to end ≡ true

pub next_second_move : (r : ReachValue) → IsReach r → (w : Workload) (d : Words) → AreWords d → (end t n i : ℕ) → joins r (suc n) t end ≡ true
    → IsSecondMove r w d end t n i (second_move r w d end t n i)
next_second_move r is w d words end t n i can =
    let place = conjunct_place i + 1 in
    let (m, picks, keeps) = links_never_run_out r is t n end (wants_star w d i) (d place) (words place) can in
    let (move, more) = and_parts (is_move r t m) (joins r n m.to end) keeps in
    subst (IsSecondMove r w d end t n i) (sym (picked_is no_move (d place) (link_candidates r t n end (wants_star w d i)) m picks)) (record { picked_is = picks; move = move; more = more })

not_zero : (n : ℕ) → (suc n == 0) ≡ false
not_zero n = grind (arith, nat_tests)

pub links : (r : ReachValue) (n t end : ℕ) → joins r n t end ≡ true → CanLink r n t end
links r zero t end can = refl
links r (suc n) t end can = subst (λ b. (b || joins r (suc n) t end) ≡ true) (sym (not_zero n)) can

-- one move and n more lead there
pub first_link : (r : ReachValue) (n t end : ℕ) → CanLink r (suc n) t end → joins r (suc n) t end ≡ true
first_link r n t end can = subst (λ b. (b || joins r (suc n) t end) ≡ true) (not_zero n) can

pub second_each : (r : ReachValue) → IsReach r → (w : Workload) (d : Words) → AreWords d → (end t n i : ℕ) → CanLink r n t end → All (IsLeg r) (second_legs r w d end t n i)
second_each r is w d words end t zero i can = subst (All (IsLeg r)) (sym (second_legs-none r w d end t i)) (All-nil (IsLeg r))
second_each r is w d words end t (suc n) i can =
    let next = next_second_move r is w d words end t n i (first_link r n t end can) in
    let m = second_move r w d end t n i in
    subst (All (IsLeg r)) (sym (second_legs-more r w d end t n i)) (All-cons (IsLeg r) (record { from = t; via = m }) (second_legs r w d end m.to n (suc i)) (IsLeg-move r is (record { from = t; via = m }) next.move) (second_each r is w d words end m.to n (suc i) (links r n m.to end next.more)))

-- ---- the ends of a spine

ends_there : (g : SchemaValue) (s : State) (legs : List Leg) → variable_type s.at legs (length legs) ≡ (after_legs g s legs).at
ends_there g s [] = refl
ends_there g s (leg ∷ []) = refl
ends_there g s (leg ∷ next ∷ legs) = ends_there g (moved g s leg.via) (next ∷ legs)

-- where a spine ends, the second path can lead from its start
pub spine_links : (r : ReachValue) → IsReach r → (w : Workload) (d : Words) → AreWords d → (goal : Goal) (t n : ℕ) → feasible r goal n (begun t) ≡ true
    → CanLink r goal.second t (variable_type t (spine_legs r w d goal (begun t) n 0) n)
spine_links r is w d words goal t n can =
    let legs = spine_legs r w d goal (begun t) n 0 in
    let last = after_legs r.schema (begun t) legs in
    let met = (spine_legs-lead r is w d words goal (begun t) n 0 can).1 in
    let end : last.at ≡ variable_type t legs n = sym (ends_there r.schema (begun t) legs) ∙ ap (variable_type t legs) (length-spine_legs r w d goal (begun t) n 0) in
    let from : last.start ≡ t = after-start r.schema (begun t) legs in
    subst (λ u. CanLink r goal.second t u) end (subst (λ s. CanLink r goal.second s last.at) from (and_parts _ ((goal.second == 0) || joins r goal.second last.start last.at) met).1)

-- each variable of a spine has a type at which some symbol starts
pub spine_symbols : (r : ReachValue) → IsReach r → (t u : ℕ) (legs : List Leg) → AreLegs r t legs u → All (λ leg. HasSymbol r.schema leg.via.to) legs
spine_symbols r is t u [] same = All-nil (λ leg. HasSymbol r.schema leg.via.to)
spine_symbols r is t u (leg ∷ legs) (from, move, rest) = All-cons (λ x. HasSymbol r.schema x.via.to) leg legs (moves_have_symbols r is leg.from leg.via move).1 (spine_symbols r is leg.via.to u legs rest)

pub start_symbol : (r : ReachValue) → IsReach r → (t u : ℕ) (legs : List Leg) → legs ≢ [] → AreLegs r t legs u → HasSymbol r.schema t
start_symbol r is t u [] some same = absurd (some refl)
start_symbol r is t u (leg ∷ legs) some (from, move, rest) = subst (HasSymbol r.schema) from (moves_have_symbols r is leg.from leg.via move).0

pub variable_symbol : (g : SchemaValue) (t v : ℕ) (legs : List Leg) → HasSymbol g t → All (λ leg. HasSymbol g leg.via.to) legs → v ≤ length legs → HasSymbol g (variable_type t legs v)
variable_symbol g t zero legs start each within = start
variable_symbol g t (suc n) legs start each within =
    let inside : n < length legs = omega (arith, within) in
    let mapped : n < length (map (λ leg. leg.via.to) legs) = omega (arith, inside, length-map legs (λ leg. leg.via.to)) in
    All-get_or (HasSymbol g) (map (λ leg. leg.via.to) legs) n 0 mapped (All-map (HasSymbol g) (λ leg. leg.via.to) legs each)

-- ---- arms

-- what is known of the move of an arm
pub record IsArm (r : ReachValue) (w : Workload) (d : Words) (t i : ℕ) (m : Move) : Type 0 where
  pub picked_is : picked (d (conjunct_place i + 1)) (arm_candidates r t (wants_star w d i)) ≡ Some m
  pub move : is_move r t m ≡ true

pub next_arm : (r : ReachValue) → IsReach r → r.lengths.least ≤ r.lengths.most → (w : Workload) (d : Words) → AreWords d → (t i : ℕ) → HasSymbol r.schema t → IsArm r w d t i (arm_leg r w d t i).via
next_arm r is ordered w d words t i symbol =
    let place = conjunct_place i + 1 in
    let (m, picks, move) = arms_never_run_out r is ordered t (wants_star w d i) (d place) (words place) symbol in
    subst (IsArm r w d t i) (sym (picked_is no_move (d place) (arm_candidates r t (wants_star w d i)) m picks)) (record { picked_is = picks; move = move })

-- ---- legs one after another

-- one more leg of a spine
pub spine_left-more : (r : ReachValue) (w : Workload) (d : Words) (goal : Goal) (s t : State) (n m i j : ℕ) (via : Move) (all done next : List Leg) → all ≡ done ++ spine_legs r w d goal s n i → n ≡ suc m → j ≡ i + 1
    → via ≡ spine_move r w d goal s m i → t ≡ moved r.schema s via → next ≡ done ++ record { from = s.at; via = via } ∷ [] → all ≡ next ++ spine_legs r w d goal t m j
spine_left-more r w d goal s t n m i j via all done next before same there drawn after put =
    let one : suc i ≡ j = omega (arith, there) in
    let state : moved r.schema s (spine_move r w d goal s m i) ≡ t = ap (moved r.schema s) (sym drawn) ∙ sym after in
    let leg : Leg = record { from = s.at; via = via } in
    let rest : spine_legs r w d goal s n i ≡ leg ∷ spine_legs r w d goal t m j =
    ap (λ x. spine_legs r w d goal s x i) same ∙ (spine_legs-more r w d goal s m i ∙ (λ k. record { from = s.at; via = sym drawn k } ∷ spine_legs r w d goal (state k) m (one k))) in
    before ∙ (ap (λ x. done ++ x) rest ∙ (sym (append_assoc done (leg ∷ []) (spine_legs r w d goal t m j)) ∙ ap (λ x. x ++ spine_legs r w d goal t m j) (sym put)))

pub spine_left-none : (r : ReachValue) (w : Workload) (d : Words) (goal : Goal) (s : State) (n i : ℕ) (all done : List Leg) → all ≡ done ++ spine_legs r w d goal s n i → n ≡ 0 → done ≡ all
spine_left-none r w d goal s n i all done before none =
    sym (before ∙ (ap (λ x. done ++ x) (ap (λ x. spine_legs r w d goal s x i) none ∙ spine_legs-none r w d goal s i) ∙ append-nil done))

-- and one more of a second path
pub second_left-more : (r : ReachValue) (w : Workload) (d : Words) (end t u n m i j : ℕ) (via : Move) (all done next : List Leg) → all ≡ done ++ second_legs r w d end t n i → n ≡ suc m → j ≡ i + 1
    → via ≡ second_move r w d end t m i → u ≡ via.to → next ≡ done ++ record { from = t; via = via } ∷ [] → all ≡ next ++ second_legs r w d end u m j
second_left-more r w d end t u n m i j via all done next before same there drawn after put =
    let one : suc i ≡ j = omega (arith, there) in
    let type : (second_move r w d end t m i).to ≡ u = ap (λ x. x.to) (sym drawn) ∙ sym after in
    let leg : Leg = record { from = t; via = via } in
    let rest : second_legs r w d end t n i ≡ leg ∷ second_legs r w d end u m j =
    ap (λ x. second_legs r w d end t x i) same ∙ (second_legs-more r w d end t m i ∙ (λ k. record { from = t; via = sym drawn k } ∷ second_legs r w d end (type k) m (one k))) in
    before ∙ (ap (λ x. done ++ x) rest ∙ (sym (append_assoc done (leg ∷ []) (second_legs r w d end u m j)) ∙ ap (λ x. x ++ second_legs r w d end u m j) (sym put)))

pub second_left-none : (r : ReachValue) (w : Workload) (d : Words) (end t n i : ℕ) (all done : List Leg) → all ≡ done ++ second_legs r w d end t n i → n ≡ 0 → done ≡ all
second_left-none r w d end t n i all done before none =
    sym (before ∙ (ap (λ x. done ++ x) (ap (λ x. second_legs r w d end t x i) none ∙ second_legs-none r w d end t i) ∙ append-nil done))

not_below : (m j : ℕ) → nat_lt (m + j) m ≡ false
not_below m j = grind (arith, nat_tests)

-- an arm starts at the variable that the skeleton says
pub arm_from : (shape : Shape) (k j : ℕ) → HasSkeleton shape k → j < arms_of shape k → (ends_of shape k (spine_of shape k + j)).0 ≡ arm_start shape (spine_of shape k) j
arm_from Chain k j is below = absurd (omega (arith, below))
arm_from Cycle k j is below = absurd (omega (arith, below))
arm_from Star k j is below = let miss : nat_lt (1 + j) 1 ≡ false = not_below 1 j in rw miss refl
arm_from StarChain k j is below =
    let miss : nat_lt (upper_half k + j) (upper_half k) ≡ false = not_below (upper_half k) j in
    let back : upper_half k + j - upper_half k ≡ j = omega arith in
    rw (miss, back) refl

-- an arm starts at a variable of the spine
pub arm_within : (shape : Shape) (m j : ℕ) → arm_start shape m j ≤ m
arm_within Chain m j = omega arith
arm_within Star m j = omega arith
arm_within Cycle m j = omega arith
arm_within StarChain m j = omega arith

-- each arm leads by a move
pub arms_each : (r : ReachValue) → IsReach r → r.lengths.least ≤ r.lengths.most → (w : Workload) (d : Words) → AreWords d → (shape : Shape) (t m k : ℕ) (spine : List Leg) → HasSkeleton shape k → HasSymbol r.schema t
    → All (λ leg. HasSymbol r.schema leg.via.to) spine → length spine ≡ spine_of shape k → m ≡ spine_of shape k → All (IsLeg r) (arm_legs r w d shape t spine m (arms_of shape k))
arms_each r is ordered w d words shape t m k spine has start symbols long same =
    All-map (IsLeg r) (nth_arm r w d shape t spine m) (range_with_len 0 (arms_of shape k)) (All-from_get_or (λ j. IsLeg r (nth_arm r w d shape t spine m j)) (range_with_len 0 (arms_of shape k)) 0 (λ j inside. each _))
  where
    each : (j : ℕ) → IsLeg r (nth_arm r w d shape t spine m j)
    each j =
        let v = arm_start shape m j in
        let symbol = variable_symbol r.schema t v spine start symbols (subst (λ x. v ≤ x) (same ∙ sym long) (arm_within shape m j)) in
        IsLeg-move r is (nth_arm r w d shape t spine m j) (next_arm r is ordered w d words (variable_type t spine v) (m + j) symbol).move

-- each leg of a rule leads by a move
pub legs_each : (r : ReachValue) → IsReach r → r.lengths.least ≤ r.lengths.most → (w : Workload) (d : Words) → AreWords d → (shape : Shape) (class : Class) (k t : ℕ) → HasSkeleton shape k
    → feasible r (goal_of shape class k) (spine_of shape k) (begun t) ≡ true → All (IsLeg r) (rule_legs r w d shape class k t)
legs_each r is ordered w d words shape class k t has can =
    let m = spine_of shape k in
    let spine = rule_spine r w d shape class k t in
    let lead = (spine_legs-lead r is w d words (goal_of shape class k) (begun t) m 0 can).0 in
    let last = (after_legs r.schema (begun t) spine).at in
    let end = variable_type t spine m in
    let links_there = spine_links r is w d words (goal_of shape class k) t m can in
    let long = length-spine_legs r w d (goal_of shape class k) (begun t) m 0 in
    let some : spine ≢ [] = λ none. let zero_long = ap length none in absurd (omega (arith, zero_long, long, some_spine shape k has)) in
    let start = start_symbol r is t last spine some lead in
    let symbols = spine_symbols r is t last spine lead in
    All-append (IsLeg r) spine (later_legs r w d shape k t spine) (AreLegs-each r is t last spine lead)
    (All-append (IsLeg r) (second_legs r w d end t (second_of shape k) m) (arm_legs r w d shape t spine m (arms_of shape k)) (second_each r is w d words end t (second_of shape k) m links_there)
    (arms_each r is ordered w d words shape t m k spine has start symbols long refl))

-- what is known of the spine of a rule
pub record IsRuleSpine (r : ReachValue) (shape : Shape) (k t : ℕ) (spine : List Leg) : Type 0 where
  pub long : length spine ≡ spine_of shape k
  pub inside : variable_type t spine (spine_of shape k) < length r.schema.kinds
  pub link : CanLink r (second_of shape k) t (variable_type t spine (spine_of shape k))
  pub symbols : All (λ leg. HasSymbol r.schema leg.via.to) spine
  pub start : HasSymbol r.schema t

pub rule_spine-is : (r : ReachValue) → IsReach r → (w : Workload) (d : Words) → AreWords d → (shape : Shape) (class : Class) (k t : ℕ) (spine : List Leg) → HasSkeleton shape k
    → feasible r (goal_of shape class k) (spine_of shape k) (begun t) ≡ true → spine ≡ rule_spine r w d shape class k t → IsRuleSpine r shape k t spine
rule_spine-is r is w d words shape class k t spine has can are =
    let m = spine_of shape k in
    let legs = rule_spine r w d shape class k t in
    let lead = (spine_legs-lead r is w d words (goal_of shape class k) (begun t) m 0 can).0 in
    let last = (after_legs r.schema (begun t) legs).at in
    let long = length-spine_legs r w d (goal_of shape class k) (begun t) m 0 in
    let some : legs ≢ [] = λ none. let zero_long = ap length none in absurd (omega (arith, zero_long, long, some_spine shape k has)) in
    let start = start_symbol r is t last legs some lead in
    let symbols = spine_symbols r is t last legs lead in
    let end = variable_symbol r.schema t m legs start symbols (omega (arith, long)) in
    subst (IsRuleSpine r shape k t) (sym are) (record { long = long; inside = symbol_inside r is (variable_type t legs m) end; link = spine_links r is w d words (goal_of shape class k) t m can; symbols = symbols; start = start })

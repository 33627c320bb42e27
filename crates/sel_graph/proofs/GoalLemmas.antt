-- What some moves lead to, by the rows of places.
use Rattle.std.proofs.Common.{◌≡◌, ◌↔◌, ℕ, suc, ◌+◌, ◌*◌, ◌/◌, ◌%◌, ◌<◌, ◌≤◌, ◌==◌, Bool, true, false, ◌&&◌, Option, Some, None, List, [], ◌∷◌, length, inl, inr, refl, sym, ap, subst, ◌∙◌, arith}
use Rattle.std.proofs.lemmas.Bool.{eqb-true, eq-eqb, and_parts, and_from, cases_lt, true≢false}
use Rattle.sel_algebra.specs.declared.vocabulary.Class.{Class}
use Rattle.sel_algebra.specs.declared.vocabulary.Class.TheVariants.{Constant, Linear, Quadratic}
use Rattle.bit_rows.specs.Sets.{NumberSet, has, set_at, Meet, IsNext}
use Rattle.sel_graph.specs.declared.states.State.{State}
use Rattle.sel_graph.specs.declared.states.Move.{Move}
use Rattle.sel_graph.specs.declared.states.Goal.{Goal}
use Rattle.sel_graph.specs.Runs.{Runs, HasRun}
use Rattle.sel_graph.specs.States.{place, begun}
use Rattle.sel_graph.specs.Numbers.{state_at, all_moves, class_number, class_at, goal_count, goal_number, goal_at}
use Rattle.sel_graph.specs.Moves.{ReachValue, IsReach, second_most, moved, CarriesByMove, LeadsByMove, Joins, IsFeasible}
use Rattle.sel_graph.specs.Tables.{HasGoals}
use Rattle.sel_graph.specs.Tests.{is_move, move_on, can_come, meets, joins, feasible}
use Rattle.sel_graph.proofs.PlaceLemmas.{op_number-below, place-at, place-below, state_at-place}
use Rattle.sel_graph.proofs.MoveLemmas.{move_agrees, all_moves-contain, meets_agree, joins_agree, feasible_agrees, move_inside}
use Rattle.sel_graph.proofs.WalkLemmas.{come_to, if_some}
use Rattle.sel_graph.proofs.RowLemmas.{same_truth}
use Rattle.sel_graph.proofs.RunLemmas.{Decide, run_decided}

-- ---- the places to which so many moves carry a state

come_decides : (r : ReachValue) → IsReach r → (p : ℕ) → Decide (move_on r) (all_moves (length r.schema.kinds)) (λ u. place u == p) (CarriesByMove r) (λ u. place u ≡ p)
come_decides r is p = record {
  sound = λ s m u has leads. let (move, same) = if_some (is_move r s.at m) (moved r.schema s m) u leads in ((move_agrees r s.at m).0 move, same);
  letter = λ s m u carries. all_moves-contain (length r.schema.kinds) m (move_inside r is s.at m carries.0);
  complete = λ s m u carries. rw ((move_agrees r s.at m).1 carries.0) (ap Some carries.1);
  met = λ u same. eqb-true (place u) p same;
  passed = λ u same. eq-eqb (place u) p same;
}

-- the test on places is true just where some moves lead to the place
pub come_run : (r : ReachValue) → IsReach r → (n : ℕ) (s : State) (p : ℕ) → (can_come r n s p ≡ true) ↔ HasRun (CarriesByMove r) n (λ u. place u ≡ p) s
come_run r is n s p = run_decided (come_decides r is p) n s

-- moves keep the start
pub moves_start : (r : ReachValue) (word : List Move) (s t : State) → Runs (CarriesByMove r) word s t → t.start ≡ s.start
moves_start r [] s t same = ap (λ x. x.start) (sym same)
moves_start r (m ∷ word) s t (u, carries, runs) = moves_start r word u t runs ∙ ap (λ x. x.start) (sym carries.1)

-- moves lead among the types of the schema
moves_inside : (r : ReachValue) → IsReach r → (word : List Move) (s t : State) → Runs (CarriesByMove r) word s t → s.at < length r.schema.kinds → t.at < length r.schema.kinds
moves_inside r is [] s t same inside = rw (ap (λ x. x.at) (sym same)) inside
moves_inside r is (m ∷ word) s t (u, carries, runs) inside = moves_inside r is word u t runs (rw (ap (λ x. x.at) (sym carries.1)) (move_inside r is s.at m carries.0))

-- ---- moves between types

-- what moves do with a state, they do with its type
leads_of_run : (r : ReachValue) (word : List Move) (s t : State) → Runs (CarriesByMove r) word s t → Runs (LeadsByMove r) word s.at t.at
leads_of_run r [] s t same = ap (λ x. x.at) same
leads_of_run r (m ∷ word) s t (u, carries, runs) = (u.at, (carries.0, ap (λ x. x.at) carries.1), leads_of_run r word u t runs)

run_of_leads : (r : ReachValue) (word : List Move) (s : State) (t : ℕ) → Runs (LeadsByMove r) word s.at t → (e : State) × Runs (CarriesByMove r) word s e × (e.at ≡ t)
run_of_leads r [] s t same = (s, refl, same)
run_of_leads r (m ∷ word) s t (u, leads, runs) =
    let next = moved r.schema s m in
    let (e, rest, there) = run_of_leads r word next t (subst (λ x. Runs (LeadsByMove r) word x t) (sym leads.1) runs) in
    (e, (next, (leads.0, refl), rest), there)

-- what a test of the next number says
abbrev pub Below : Option ℕ → ℕ → Bool → Type 0
Below None end below = below ≡ false
Below (Some p) end below = (below ≡ true) ↔ (p < end)

-- some number of a row lies between two just where the next one from the first on does
next_below : (s : NumberSet) (from end : ℕ) (next : Option ℕ) → IsNext s from next → (below : Bool) → Below next end below → (below ≡ true) ↔ ((p : ℕ) × (from ≤ p) × (p < end) × (has s p ≡ true))
next_below s from end None none below is = (
  λ h. absurd (true≢false (sym h ∙ is)),
  λ (p, least, before, here). absurd (true≢false (sym here ∙ none (suc p) p least (omega arith))),
)
next_below s from end (Some p) least below is = (
  λ h. (p, least.from, is.0 h, least.here),
  λ (k, from_k, before, here). is.1 (elim (cases_lt p end) [
    | inl lt ↦ lt
    | inr past ↦ absurd (true≢false (sym here ∙ least.before k from_k (omega (arith, before, past))))
  ]),
)

-- so many moves lead to a type just where they lead to one of its places
joins_by_places : (r : ReachValue) → IsReach r → (n t u : ℕ) → ((p : ℕ) × (5 * u ≤ p) × (p < 5 * u + 5) × (can_come r n (begun t) p ≡ true)) ↔ Joins r n t u
joins_by_places r is n t u = (
  λ (p, least, before, has_p). let run = (come_run r is n (begun t) p).0 has_p in
      let there : run.end.at ≡ u = omega (arith, sym (place-at run.end), run.meets, least, before) in
      record { word = run.word; long = run.long; end = run.end.at; runs = leads_of_run r run.word (begun t) run.end run.runs; meets = there },
  λ joined. let (e, runs, there) = run_of_leads r joined.word (begun t) joined.end joined.runs in
      let at : e.at ≡ u = there ∙ joined.meets in
      (place e, omega (arith, at), omega (arith, at, op_number-below e.op), (come_run r is n (begun t) (place e)).1 (record { word = joined.word; long = joined.long; end = e; runs = runs; meets = refl })),
)

pub joins_tested : (r : ReachValue) → IsReach r → (n t u : ℕ) (row : NumberSet) → ((p : ℕ) → has row p ≡ can_come r n (begun t) p) → (next : Option ℕ) → IsNext row (5 * u) next
    → (result : Bool) → Below next (5 * u + 5) result → result ≡ joins r n t u
joins_tested r is n t u row places next first result tests =
    let found = next_below row (5 * u) (5 * u + 5) next first result tests in
    let by_places = joins_by_places r is n t u in
    let agree = joins_agree r is n t u in
    same_truth result (joins r n t u) (
      λ h. let (p, least, before, here) = found.0 h in agree.1 (by_places.0 (p, least, before, sym (places p) ∙ here)),
      λ h. let (p, least, before, here) = by_places.1 (agree.0 h) in found.1 (p, least, before, places p ∙ here),
    )

-- ---- one move

-- a place is reached by one move just where a move carries the state to it
pub step_agrees : (r : ReachValue) → IsReach r → (s t : State) → (((t.start == s.start) && can_come r 1 s (place t)) ≡ true) ↔ ((m : Move) × CarriesByMove r s m t)
step_agrees r is s t = (
  λ both. let (start, test) = and_parts (t.start == s.start) (can_come r 1 s (place t)) both in
      let run = (come_run r is 1 s (place t)).0 test in
      one run.word run.end run.long run.runs run.meets (eqb-true t.start s.start start),
  λ (m, carries). let start : t.start ≡ s.start = ap (λ x. x.start) (sym carries.1) in
      and_from (t.start == s.start) (can_come r 1 s (place t)) (eq-eqb t.start s.start start)
      ((come_run r is 1 s (place t)).1 (record { word = m ∷ []; long = refl; end = t; runs = (t, carries, refl); meets = refl })),
)
  where
    one : (word : List Move) (e : State) → length word ≡ 1 → Runs (CarriesByMove r) word s e → place e ≡ place t → t.start ≡ s.start → (m : Move) × CarriesByMove r s m t
    one [] e long runs same start = absurd (omega (arith, long))
    one (m ∷ []) e long (u, carries, last) same start =
        let end : u ≡ t = last ∙ come_to e t (ap (λ x. x.start) (sym last) ∙ ap (λ x. x.start) (sym carries.1) ∙ sym start) same in
        (m, subst (λ x. CarriesByMove r s m x) end carries)
    one (m ∷ n ∷ word) e long runs same start = absurd (omega (arith, long))

-- ---- goals

class_at-number : (c : Class) → class_at (class_number c) ≡ c
class_at-number Constant = refl
class_at-number Linear = refl
class_at-number Quadratic = refl

class_number-below : (c : Class) → class_number c < 3
class_number-below c = grind arith

same_goal : (g h : Goal) → g.class ≡ h.class → g.second ≡ h.second → g ≡ h
same_goal g h class second = λ i. record { class = class i; second = second i }

-- the goal with the number of a goal is that goal
goal_at-number : (goal : Goal) → goal.second ≤ second_most → goal_at (goal_number goal) ≡ goal
goal_at-number goal few =
    let class_is : goal_number goal / 5 ≡ class_number goal.class = omega (arith, few) in
    same_goal (goal_at (goal_number goal)) goal (ap class_at class_is ∙ class_at-number goal.class) (omega (arith, few))

pub goal_below : (goal : Goal) → goal.second ≤ second_most → goal_number goal < goal_count
goal_below goal few = omega (arith, few, class_number-below goal.class)

-- the row of a goal has the places at which paths from a start meet it
goal_row : (r : ReachValue) (rows : List NumberSet) → HasGoals r rows → (t : ℕ) (goal : Goal) (p : ℕ) → t < length r.schema.kinds → goal.second ≤ second_most
    → (has (set_at rows (15 * t + goal_number goal)) p ≡ true) ↔ ((p < 5 * length r.schema.kinds) × (meets r goal (state_at t p) ≡ true))
goal_row r rows goals t goal p inside few =
    let below = goal_below goal few in
    let n = 15 * t + goal_number goal in
    let number : n % 15 ≡ goal_number goal = omega (arith, below) in
    let start : n / 15 ≡ t = omega (arith, below) in
    let goal_is : goal_at (n % 15) ≡ goal = ap goal_at number ∙ goal_at-number goal few in
    let same : meets r (goal_at (n % 15)) (state_at (n / 15) p) ≡ meets r goal (state_at t p) = λ i. meets r (goal_is i) (state_at (start i) p) in
    let row = goals.marked n p (omega (arith, below, inside)) in
    (λ h. let (within, passes) = row.0 h in (within, sym same ∙ passes), λ (within, passes). row.1 (within, same ∙ passes))

pub feasible_tested : (r : ReachValue) → IsReach r → (rows : List NumberSet) → HasGoals r rows → (n : ℕ) (s : State) (goal : Goal) → s.start < length r.schema.kinds → s.at < length r.schema.kinds
    → goal.second ≤ second_most → (row : NumberSet) → ((p : ℕ) → has row p ≡ can_come r n s p) → (result : Bool) → (result ≡ true) ↔ Meet row (set_at rows (15 * s.start + goal_number goal))
    → result ≡ feasible r goal n s
feasible_tested r is rows goals n s goal start here small row places result meet =
    let agree = feasible_agrees r is goal n s in
    same_truth result (feasible r goal n s) (λ h. agree.1 (met (meet.0 h)), λ h. meet.1 (meeting (agree.0 h)))
  where
    met : Meet row (set_at rows (15 * s.start + goal_number goal)) → IsFeasible r goal n s
    met (p, after, goal_p) =
        let run = (come_run r is n s p).0 (sym (places p) ∙ after) in
        let (within, passes) = (goal_row r rows goals s.start goal p start small).0 goal_p in
        let same : state_at s.start p ≡ run.end = (λ i. state_at (sym (moves_start r run.word s run.end run.runs) i) (sym run.meets i)) ∙ state_at-place run.end in
        record { word = run.word; long = run.long; end = run.end; runs = run.runs; meets = (meets_agree r is goal run.end).0 (subst (λ x. meets r goal x ≡ true) same passes) }

    meeting : IsFeasible r goal n s → Meet row (set_at rows (15 * s.start + goal_number goal))
    meeting run =
        let p = place run.end in
        let inside = moves_inside r is run.word s run.end run.runs here in
        let same : run.end ≡ state_at s.start p = sym (state_at-place run.end) ∙ (λ i. state_at (moves_start r run.word s run.end run.runs i) p) in (
          p,
          places p ∙ (come_run r is n s p).1 (record { word = run.word; long = run.long; end = run.end; runs = run.runs; meets = refl }),
          (goal_row r rows goals s.start goal p start small).1 (
            place-below (length r.schema.kinds) run.end.at run.end.op inside,
            subst (λ x. meets r goal x ≡ true) same ((meets_agree r is goal run.end).1 run.meets),
          ),
        )

-- The tests on moves decide whether there are such moves.
use Rattle.std.proofs.Common.{◌≡◌, ◌↔◌, ℕ, zero, suc, ◌+◌, ◌-◌, ◌*◌, ◌/◌, ◌%◌, ◌<◌, ◌≤◌, ◌==◌, Bool, true, false, not, ◌&&◌, ◌||◌, Some, ◌∷◌, length, map, inl, inr, refl, sym, ap, ◌∙◌, arith}
use Rattle.std.specs.List.{Contains, flat_map, range_with_len}
use Rattle.std.proofs.lemmas.List.Elements.{Contains-append_left, Contains-append_right}
use Rattle.std.proofs.lemmas.Bool.{false≢true, eqb-true, eq-eqb, and_parts, and_from, or_cases, or_left, or_right, cases_Bool, cases_eq}
use Rattle.std.proofs.lemmas.List.Folds.{Any-from_list_any, list_any-from_Any}
use Rattle.std.proofs.lemmas.List.FromFn.{length-range_with_len, get_or-range_with_len, length-map-range_with_len, get_or-map-range_with_len}
use Rattle.sel_algebra.specs.declared.vocabulary.Op.{Op}
use Rattle.sel_algebra.specs.declared.vocabulary.Class.{Class}
use Rattle.gm_config.specs.declared.workload_rules.Range.{Range}
use Rattle.sel_graph.proofs.RunLemmas.{Decide, run_decided}
use Rattle.sel_graph.specs.declared.states.State.{State}
use Rattle.sel_graph.specs.declared.states.Move.{Move}
use Rattle.sel_graph.specs.declared.states.Goal.{Goal}
use Rattle.sel_graph.specs.States.{op_number, place_of, begun, came_to, state_class}
use Rattle.sel_graph.specs.Walks.{HasWalk}
use Rattle.sel_graph.specs.Moves.{ReachValue, IsReach, IsPlainMove, IsMove, moved, CarriesByMove, LeadsByMove, Joins, Meets, IsFeasible}
use Rattle.sel_graph.specs.Numbers.{op_at, move_of, moves_to, moves_of, all_moves, class_number}
use Rattle.sel_graph.specs.Tests.{can_reach, numbers_of, is_plain, is_move, move_on, join_on, joins, meets, feasible}
use Rattle.sel_graph.proofs.PlaceLemmas.{op_number-below, op_at-number, place-below}
use Rattle.sel_graph.proofs.WalkLemmas.{if_some, reach_agrees, walk_inside}

-- a number of a range stands in its list
pub range_member : (range : Range) (n : ℕ) → range.least ≤ n → n ≤ range.most → Contains (numbers_of range) n
range_member range n least most =
    let count = range.most + 1 - range.least in (
      n - range.least,
      rw (length-range_with_len range.least count) (omega (arith, least, most)),
      get_or-range_with_len range.least count (n - range.least) n (omega (arith, least, most)) ∙ omega (arith, least),
    )

pub plain_agrees : (r : ReachValue) (t u : ℕ) (v : Op) → (is_plain r t u v ≡ true) ↔ IsPlainMove r t u v
plain_agrees r t u v =
    let test : ℕ → Bool = λ n. can_reach r.schema n (begun t) (place_of u v) in
    let count = r.lengths.most + 1 - r.lengths.least in (
      λ h. let (i, n, inside, is, reach) = Any-from_list_any test (numbers_of r.lengths) h in
          let below : i < count = rw (length-range_with_len r.lengths.least count) at inside in
          let same : r.lengths.least + i ≡ n = sym (get_or-range_with_len r.lengths.least count i n below) ∙ is in
          (n, omega (arith, same), omega (arith, same, below), (reach_agrees r.schema n (begun t) (came_to t u v) refl).0 reach),
      λ (n, least, most, walk). let (i, inside, is) = range_member r.lengths n least most in
          list_any-from_Any test (numbers_of r.lengths) (i, n, inside, is, (reach_agrees r.schema n (begun t) (came_to t u v) refl).1 walk),
    )

pub star_case : (star : Bool) (allowed : Bool) → (not star || allowed) ≡ true → star ≡ true → allowed ≡ true
star_case true allowed h is = h
star_case false allowed h is = absurd (false≢true is)

pub move_agrees : (r : ReachValue) (t : ℕ) (m : Move) → (is_move r t m ≡ true) ↔ IsMove r t m
move_agrees r t m = (
  λ h. let (plain, star) = and_parts (is_plain r t m.to m.value) (not m.star || (r.stars && (m.to == t))) h in
      record {
        plain = (plain_agrees r t m.to m.value).0 plain;
        starred = λ is. let (stars, same) = and_parts r.stars (m.to == t) (star_case m.star (r.stars && (m.to == t)) star is) in (stars, eqb-true m.to t same);
      },
  λ is. and_from (is_plain r t m.to m.value) (not m.star || (r.stars && (m.to == t))) ((plain_agrees r t m.to m.value).1 is.plain)
      (elim (cases_Bool m.star) [
        | inl hit ↦ let (stars, same) = is.starred hit in or_right (not m.star) (r.stars && (m.to == t)) (and_from r.stars (m.to == t) stars (eq-eqb m.to t same))
        | inr miss ↦ or_left (not m.star) (r.stars && (m.to == t)) (rw miss refl)
      ]),
)

-- a move leads to a type of the schema
pub move_inside : (r : ReachValue) → IsReach r → (t : ℕ) (m : Move) → IsMove r t m → m.to < length r.schema.kinds
move_inside r is t m move =
    let (n, least, most, walk) = move.plain in
    inside n (omega (arith, least, is.some)) walk
  where
    inside : (n : ℕ) → 1 ≤ n → HasWalk r.schema n (begun t) (came_to t m.to m.value) → m.to < length r.schema.kinds
    inside zero some walk = absurd (omega (arith, some))
    inside (suc n) some walk = walk_inside r.schema is.schema n (begun t) (came_to t m.to m.value) walk

pub same_move : (m n : Move) → m.star ≡ n.star → m.to ≡ n.to → m.value ≡ n.value → m ≡ n
same_move m n star to value = λ i. record { star = star i; to = to i; value = value i }

-- the move of a kind with the place of a move is that move
pub move_of-place : (m : Move) → move_of m.star (place_of m.to m.value) ≡ m
move_of-place m =
    let op = op_number-below m.value in
    let to : place_of m.to m.value / 5 ≡ m.to = omega (arith, op) in
    let value : place_of m.to m.value % 5 ≡ op_number m.value = omega (arith, op) in
    same_move (move_of m.star (place_of m.to m.value)) m refl to (ap op_at value ∙ op_at-number m.value)

-- the move of a kind with a number among those to type a
move_of-nth : (star : Bool) (a j p : ℕ) → j < 5 → p ≡ 5 * a + j → record { star = star; to = a; value = op_at j } ≡ move_of star p
move_of-nth star a j p below is = same_move (record { star = star; to = a; value = op_at j }) (move_of star p) refl (omega (arith, is, below)) (ap op_at (omega (arith, is, below)))

-- the moves of a kind in their order are those of the places in their order
moves-numbered : (star : Bool) (a n : ℕ) → flat_map (moves_to star) (range_with_len a n) ≡ map (move_of star) (range_with_len (5 * a) (5 * n))
moves-numbered star a zero = refl
moves-numbered star a (suc n) =
    let five : 5 * suc n ≡ suc (suc (suc (suc (suc (5 * n))))) = omega arith in
    let next : 5 * (a + 1) ≡ 5 * a + 1 + 1 + 1 + 1 + 1 = omega arith in
    let rest = moves-numbered star (a + 1) n ∙ ap (λ p. map (move_of star) (range_with_len p (5 * n))) next in
    rw five (λ i. move_of-nth star a 0 (5 * a) (omega arith) (omega arith) i
    ∷ move_of-nth star a 1 (5 * a + 1) (omega arith) (omega arith) i
    ∷ move_of-nth star a 2 (5 * a + 1 + 1) (omega arith) (omega arith) i
    ∷ move_of-nth star a 3 (5 * a + 1 + 1 + 1) (omega arith) (omega arith) i
    ∷ move_of-nth star a 4 (5 * a + 1 + 1 + 1 + 1) (omega arith) (omega arith) i
    ∷ rest i)

pub moves_of-numbered : (k : ℕ) (star : Bool) → moves_of k star ≡ map (move_of star) (range_with_len 0 (5 * k))
moves_of-numbered k star = moves-numbered star 0 k

-- each move to one of the types stands among those of its kind
pub moves_of-contain : (k : ℕ) (m : Move) → m.to < k → Contains (moves_of k m.star) m
moves_of-contain k m inside =
    let below : place_of m.to m.value < 5 * k = place-below k m.to m.value inside in
    rw (moves_of-numbered k m.star) (
      place_of m.to m.value,
      rw (length-map-range_with_len (move_of m.star) 0 (5 * k)) below,
      get_or-map-range_with_len (move_of m.star) 0 (5 * k) (place_of m.to m.value) (place_of m.to m.value) m below (omega arith) ∙ move_of-place m,
    )

pub all_moves-contain : (k : ℕ) (m : Move) → m.to < k → Contains (all_moves k) m
all_moves-contain k m inside = of_kind m.star refl
  where
    of_kind : (star : Bool) → star ≡ m.star → Contains (all_moves k) m
    of_kind false is = Contains-append_left (moves_of k false) (moves_of k true) m (rw is (moves_of-contain k m inside))
    of_kind true is = Contains-append_right (moves_of k false) (moves_of k true) m (rw is (moves_of-contain k m inside))

join_decides : (r : ReachValue) → IsReach r → (u : ℕ) → Decide (join_on r) (all_moves (length r.schema.kinds)) (λ v. v == u) (LeadsByMove r) (λ v. v ≡ u)
join_decides r is u = record {
  sound = λ t m v has leads. let (move, same) = if_some (is_move r t m) m.to v leads in ((move_agrees r t m).0 move, same);
  letter = λ t m v leads. all_moves-contain (length r.schema.kinds) m (move_inside r is t m leads.0);
  complete = λ t m v leads. rw ((move_agrees r t m).1 leads.0) (ap Some leads.1);
  met = λ v same. eqb-true v u same;
  passed = λ v same. eq-eqb v u same;
}

pub joins_agree : (r : ReachValue) → IsReach r → (n t u : ℕ) → (joins r n t u ≡ true) ↔ Joins r n t u
joins_agree r is n t u = run_decided (join_decides r is u) n t

class_number-same : (c d : Class) → class_number c ≡ class_number d → c ≡ d
class_number-same c d same = grind arith

meets_goal : (r : ReachValue) → IsReach r → (goal : Goal) (s : State) → meets r goal s ≡ true → Meets r goal s
meets_goal r is goal s h =
    let (class, second) = and_parts (class_number (state_class r.schema s) == class_number goal.class) ((goal.second == 0) || joins r goal.second s.start s.at) h in
    record {
      class = class_number-same (state_class r.schema s) goal.class (eqb-true (class_number (state_class r.schema s)) (class_number goal.class) class);
      second = λ some. elim (or_cases (goal.second == 0) (joins r goal.second s.start s.at) second) [
        | inl none ↦ absurd (some (eqb-true goal.second 0 none))
        | inr there ↦ (joins_agree r is goal.second s.start s.at).0 there
      ];
    }

goal_met : (r : ReachValue) → IsReach r → (goal : Goal) (s : State) → Meets r goal s → meets r goal s ≡ true
goal_met r is goal s met =
    and_from (class_number (state_class r.schema s) == class_number goal.class) ((goal.second == 0) || joins r goal.second s.start s.at)
    (eq-eqb (class_number (state_class r.schema s)) (class_number goal.class) (ap class_number met.class))
    (elim (cases_eq goal.second 0) [
      | inl none ↦ or_left (goal.second == 0) (joins r goal.second s.start s.at) (eq-eqb goal.second 0 none)
      | inr some ↦ or_right (goal.second == 0) (joins r goal.second s.start s.at) ((joins_agree r is goal.second s.start s.at).1 (met.second some))
    ])

pub meets_agree : (r : ReachValue) → IsReach r → (goal : Goal) (s : State) → (meets r goal s ≡ true) ↔ Meets r goal s
meets_agree r is goal s = (meets_goal r is goal s, goal_met r is goal s)

move_decides : (r : ReachValue) → IsReach r → (goal : Goal) → Decide (move_on r) (all_moves (length r.schema.kinds)) (meets r goal) (CarriesByMove r) (Meets r goal)
move_decides r is goal = record {
  sound = λ s m u has leads. let (move, same) = if_some (is_move r s.at m) (moved r.schema s m) u leads in ((move_agrees r s.at m).0 move, same);
  letter = λ s m u carries. all_moves-contain (length r.schema.kinds) m (move_inside r is s.at m carries.0);
  complete = λ s m u carries. rw ((move_agrees r s.at m).1 carries.0) (ap Some carries.1);
  met = meets_goal r is goal;
  passed = goal_met r is goal;
}

pub feasible_agrees : (r : ReachValue) → IsReach r → (goal : Goal) (n : ℕ) (s : State) → (feasible r goal n s ≡ true) ↔ IsFeasible r goal n s
feasible_agrees r is goal n s = run_decided (move_decides r is goal) n s

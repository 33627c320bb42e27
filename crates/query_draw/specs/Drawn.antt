-- The parts of a drawn query: each decision is the candidate that the random word at its address picks.
--   words_for seed query rule      the random words of a rule of a query, by their places
--   picked_or x w xs               the candidate that a word picks, and x where there is none
--   drawn_from range w             the number of a range that a word picks
--   conjunct_place, word_place, symbol_place   the places of the words of a conjunct, of its words and of their symbols
--   wants_star                     a starred move is wanted for a conjunct
--   spine_legs, second_legs, arm_legs   the legs of a spine, a second path and the arms of a rule
--   rule_legs                      all legs of a rule
--   drawn_symbols, drawn_word, drawn_words   the symbols of a word, a word, and the words of a conjunct
--   drawn_conjunct, drawn_conjuncts   a conjunct, and the conjuncts of legs
--   drawn_count, drawn_start       the number of conjuncts of a rule, and the type at which it starts
use Rattle.std.specs.Prelude.{ℕ, zero, suc, ◌+◌, ◌-◌, ◌*◌, nat_lt, Bool, false, List, [], ◌∷◌, ◌++◌, length, map, slice_index_or}
use Rattle.std.specs.List.{range_with_len}
use Rattle.seeded_draw.specs.Draw.{word, stream_of, pick_of}
use Rattle.sel_algebra.specs.declared.vocabulary.Op.TheVariants.{Equal}
use Rattle.sel_algebra.specs.declared.vocabulary.Class.{Class}
use Rattle.sel_algebra.specs.declared.vocabulary.Shape.{Shape}
use Rattle.sel_algebra.specs.declared.vocabulary.Symbol.{Symbol}
use Rattle.gm_config.specs.declared.workload_rules.Range.{Range}
use Rattle.gm_config.specs.declared.workload_rules.Workload.{Workload}
use Rattle.schema_graph.specs.Schema.{SchemaValue}
use Rattle.skeletons.specs.Skeleton.{spine_of, second_of, arms_of, arm_start, ends_of}
use Rattle.sel_graph.specs.declared.states.State.{State}
use Rattle.sel_graph.specs.declared.states.Move.{Move}
use Rattle.sel_graph.specs.declared.states.Goal.{Goal}
use Rattle.sel_graph.specs.States.{begun, came_to, carried}
use Rattle.sel_graph.specs.Moves.{ReachValue, moved}
use Rattle.walk_pick.specs.Candidates.{goal_of, count_candidates, start_candidates, move_candidates, link_candidates, arm_candidates, length_candidates, symbol_candidates}
use Rattle.query_terms.specs.Values.{ConjunctValue}
use Rattle.query_draw.specs.declared.legs.Leg.{Leg}

-- ---- draws

-- random words by their places
abbrev pub Words : Type 0
Words = ℕ → ℕ

-- the random words of a rule of a query
abbrev pub words_for : ℕ → ℕ → ℕ → Words
words_for seed query rule = word seed (stream_of 7 query rule)

-- the item of a list that a word picks, and x where the list is empty
abbrev pub picked_or : {X : Type 0} → X → ℕ → List X → X
picked_or x w xs = slice_index_or xs (pick_of w (length xs)) x

-- the number of a range that a word picks
abbrev pub drawn_from : Range → ℕ → ℕ
drawn_from range w = range.least + pick_of w (range.most - range.least + 1)

-- the first place of conjunct i
abbrev pub conjunct_place : ℕ → ℕ
conjunct_place i = 16 + 1024 * i

-- the place of word j of conjunct i
abbrev pub word_place : ℕ → ℕ → ℕ
word_place i j = conjunct_place i + 16 + 64 * j

-- the place of its first symbol
abbrev pub symbol_place : ℕ → ℕ → ℕ
symbol_place i j = conjunct_place i + 17 + 64 * j

-- ---- legs: the type from which a conjunct leads, and its move

-- a starred move is wanted for conjunct i
abbrev pub wants_star : Workload → Words → ℕ → Bool
wants_star w d i = nat_lt (pick_of (d (conjunct_place i)) 1000) w.star

-- what stands where there is no candidate
abbrev pub no_move : Move
no_move = record { star = false; to = 0; value = Equal }

-- the move of conjunct i of a spine, from a state, with n more to come
abbrev pub spine_move : ReachValue → Workload → Words → Goal → State → ℕ → ℕ → Move
spine_move r w d goal s n i = picked_or no_move (d (conjunct_place i + 1)) (move_candidates r s n goal (wants_star w d i))

-- the n legs of a spine from a state, of which the first is conjunct i
unfoldable pub spine_legs : ReachValue → Workload → Words → Goal → State → ℕ → ℕ → List Leg
spine_legs r w d goal s zero i = []
spine_legs r w d goal s (suc n) i =
    record { from = s.at; via = spine_move r w d goal s n i }
    ∷ spine_legs r w d goal (moved r.schema s (spine_move r w d goal s n i)) n (suc i)

-- the move of conjunct i of a second path to a type, from type t, with n more to come
abbrev pub second_move : ReachValue → Workload → Words → ℕ → ℕ → ℕ → ℕ → Move
second_move r w d end t n i = picked_or no_move (d (conjunct_place i + 1)) (link_candidates r t n end (wants_star w d i))

-- the n legs of a second path to a type from type t, of which the first is conjunct i
unfoldable pub second_legs : ReachValue → Workload → Words → ℕ → ℕ → ℕ → ℕ → List Leg
second_legs r w d end t zero i = []
second_legs r w d end t (suc n) i =
    record { from = t; via = second_move r w d end t n i }
    ∷ second_legs r w d end (second_move r w d end t n i).to n (suc i)

-- the leg of conjunct i, an arm from type t
abbrev pub arm_leg : ReachValue → Workload → Words → ℕ → ℕ → Leg
arm_leg r w d t i = record { from = t; via = picked_or no_move (d (conjunct_place i + 1)) (arm_candidates r t (wants_star w d i)) }

-- the type of variable v of a spine of these legs that starts at type t
abbrev pub variable_type : ℕ → List Leg → ℕ → ℕ
variable_type t spine v = slice_index_or (t ∷ map (λ leg. leg.via.to) spine) v 0

-- the leg of arm j, after a spine of m conjuncts
abbrev pub nth_arm : ReachValue → Workload → Words → Shape → ℕ → List Leg → ℕ → ℕ → Leg
nth_arm r w d shape t spine m j = arm_leg r w d (variable_type t spine (arm_start shape m j)) (m + j)

-- the n arms of a shape, after a spine of m conjuncts that starts at type t
abbrev pub arm_legs : ReachValue → Workload → Words → Shape → ℕ → List Leg → ℕ → ℕ → List Leg
arm_legs r w d shape t spine m n = map (nth_arm r w d shape t spine m) (range_with_len 0 n)

-- the legs of the spine of a rule with k conjuncts that starts at type t
abbrev pub rule_spine : ReachValue → Workload → Words → Shape → Class → ℕ → ℕ → List Leg
rule_spine r w d shape class k t = spine_legs r w d (goal_of shape class k) (begun t) (spine_of shape k) 0

-- the legs after it: the second path from its first type to its last, or the arms
abbrev pub later_legs : ReachValue → Workload → Words → Shape → ℕ → ℕ → List Leg → List Leg
later_legs r w d shape k t spine =
    second_legs r w d (variable_type t spine (spine_of shape k)) t (second_of shape k) (spine_of shape k)
    ++ arm_legs r w d shape t spine (spine_of shape k) (arms_of shape k)

-- all legs of a rule with k conjuncts that starts at type t
abbrev pub rule_legs : ReachValue → Workload → Words → Shape → Class → ℕ → ℕ → List Leg
rule_legs r w d shape class k t = rule_spine r w d shape class k t ++ later_legs r w d shape k t (rule_spine r w d shape class k t)

-- ---- the words of conjuncts

-- what stands where there is no candidate
abbrev pub no_symbol : Symbol
no_symbol = record { edge = 0; back = false }

-- the symbol at place p, from state s to a state, with n more to come
abbrev pub drawn_symbol : SchemaValue → Words → State → State → ℕ → ℕ → Symbol
drawn_symbol g d to s n p = picked_or no_symbol (d p) (symbol_candidates g s to n)

-- n symbols from state s to a state, from place p on
unfoldable pub drawn_symbols : SchemaValue → Words → State → State → ℕ → ℕ → List Symbol
drawn_symbols g d to s zero p = []
drawn_symbols g d to s (suc n) p = drawn_symbol g d to s n p ∷ drawn_symbols g d to (carried g s (drawn_symbol g d to s n p)) n (suc p)

-- the length of word j of conjunct i
abbrev pub drawn_length : ReachValue → Words → Leg → ℕ → ℕ → ℕ
drawn_length r d leg i j = picked_or 0 (d (word_place i j)) (length_candidates r leg.from leg.via r.lengths)

-- word j of conjunct i: it leads to the end of the move, with the move's value
abbrev pub drawn_word : ReachValue → Words → Leg → ℕ → ℕ → List Symbol
drawn_word r d leg i j =
    drawn_symbols r.schema d (came_to leg.from leg.via.to leg.via.value) (begun leg.from) (drawn_length r d leg i j) (symbol_place i j)

-- the number of words of conjunct i
abbrev pub word_count : Workload → Words → ℕ → ℕ
word_count w d i = drawn_from w.disjuncts (d (conjunct_place i + 2))

-- the words of conjunct i, equal ones among them
abbrev pub drawn_words : ReachValue → Workload → Words → Leg → ℕ → List (List Symbol)
drawn_words r w d leg i = map (drawn_word r d leg i) (range_with_len 0 (word_count w d i))

-- ---- conjuncts

-- conjunct i of a rule with k conjuncts
abbrev pub drawn_conjunct : ReachValue → Workload → Words → Shape → ℕ → ℕ → Leg → ConjunctValue
drawn_conjunct r w d shape k i leg =
    record { src = (ends_of shape k i).0; trg = (ends_of shape k i).1; star = leg.via.star; words = drawn_words r w d leg i }

-- the conjuncts of legs, of which the first is conjunct i
abbrev pub drawn_conjuncts : ReachValue → Workload → Words → Shape → ℕ → ℕ → List Leg → List ConjunctValue
drawn_conjuncts r w d shape k i [] = []
drawn_conjuncts r w d shape k i (leg ∷ legs) = drawn_conjunct r w d shape k i leg ∷ drawn_conjuncts r w d shape k (suc i) legs

-- the number of conjuncts of a rule
abbrev pub drawn_count : ReachValue → Workload → Shape → Class → Words → ℕ
drawn_count r w shape class d = picked_or 0 (d 3) (count_candidates r shape class w.conjuncts)

-- the type at which a rule with k conjuncts starts
abbrev pub drawn_start : ReachValue → Shape → Class → Words → ℕ → ℕ
drawn_start r shape class d k = picked_or 0 (d 4) (start_candidates r (goal_of shape class k) (spine_of shape k))

-- the conjuncts of a rule of k
abbrev pub rule_conjuncts : ReachValue → Workload → Shape → Class → Words → ℕ → List ConjunctValue
rule_conjuncts r w shape class d k = drawn_conjuncts r w d shape k 0 (rule_legs r w d shape class k (drawn_start r shape class d k))

-- The candidates of each pick, in their order.
--   types_of r                                  the types of a schema
--   is_live_start r goal n t                    whether n moves from a start at type t can meet the goal
--   start_candidates r goal n                   the types for which they can
--   goal_of shape class k                       the goal of a spine: the class, and the second path of the skeleton
--   permits shape k                             whether a shape can have k conjuncts
--   is_live_count r shape class k               whether some start can meet the goal with k conjuncts
--   count_candidates r shape class range        the numbers of conjuncts for which some can
--   live_moves test k star                      those that pass a test, or where none does, those of the other kind that pass
--   keeps_goal r s n goal m                     whether m is a move from s after which n further moves can meet the goal
--   move_candidates r s n goal star             the moves that are
--   keeps_end r t n end m                       whether m is a move from type t after which n further moves can come to type end
--   link_candidates r t n end star              the moves that are
--   arm_candidates r t star                     the moves from type t
--   has_length r t m n                          whether some n symbols lead from type t to the end of move m with its value
--   length_candidates r t m range               the lengths that such a word can have
--   keeps_walk g s to n c                       whether n further symbols after symbol c can carry the state s to `to`
--   nth_symbol g t i                            the symbol with a number among those that start at type t
--   symbol_candidates g s to n                  the symbols for which they can
use Rattle.std.specs.Prelude.{ℕ, Bool, true, false, not, ◌&&◌, nat_le, List, length, filter, slice_index_or}
use Rattle.std.specs.List.{range_with_len, list_any}
use Rattle.sel_algebra.specs.declared.vocabulary.Class.{Class}
use Rattle.sel_algebra.specs.declared.vocabulary.Shape.{Shape}
use Rattle.sel_algebra.specs.declared.vocabulary.Shape.TheVariants.{Cycle}
use Rattle.sel_algebra.specs.declared.vocabulary.Symbol.{Symbol}
use Rattle.gm_config.specs.declared.workload_rules.Range.{Range}
use Rattle.schema_graph.specs.Schema.{SchemaValue}
use Rattle.schema_graph.specs.Symbols.{symbols_of}
use Rattle.skeletons.specs.Skeleton.{spine_of, second_of}
use Rattle.candidates.specs.Picked.{or_others}
use Rattle.sel_graph.specs.declared.states.State.{State}
use Rattle.sel_graph.specs.declared.states.Move.{Move}
use Rattle.sel_graph.specs.declared.states.Goal.{Goal}
use Rattle.sel_graph.specs.States.{begun, came_to, carried}
use Rattle.sel_graph.specs.Moves.{ReachValue, moved}
use Rattle.sel_graph.specs.Numbers.{moves_of}
use Rattle.sel_graph.specs.Tests.{can_walk, numbers_of, is_move, joins, feasible}

-- the types of a schema
abbrev pub types_of : ReachValue → List ℕ
types_of r = range_with_len 0 (length r.schema.kinds)

-- whether n moves from a start at type t can meet the goal
abbrev pub is_live_start : ReachValue → Goal → ℕ → ℕ → Bool
is_live_start r goal n t = feasible r goal n (begun t)

-- the types at which n moves that can meet the goal may start
abbrev pub start_candidates : ReachValue → Goal → ℕ → List ℕ
start_candidates r goal n = filter (is_live_start r goal n) (types_of r)

-- the goal of a spine: the class, and the second path of the skeleton
abbrev pub goal_of : Shape → Class → ℕ → Goal
goal_of shape class k = record { class = class; second = second_of shape k }

-- whether a shape can have k conjuncts
abbrev pub permits : Shape → ℕ → Bool
permits Cycle k = nat_le 2 k
permits shape k = true

-- whether some start can meet the goal with k conjuncts
abbrev pub is_live_count : ReachValue → Shape → Class → ℕ → Bool
is_live_count r shape class k = permits shape k && list_any (is_live_start r (goal_of shape class k) (spine_of shape k)) (types_of r)

-- the numbers of conjuncts of a range with which some start can meet the goal
abbrev pub count_candidates : ReachValue → Shape → Class → Range → List ℕ
count_candidates r shape class range = filter (is_live_count r shape class) (numbers_of range)

-- the moves of one kind that pass a test, or where there are none, those of the other kind
abbrev pub live_moves : (Move → Bool) → ℕ → Bool → List Move
live_moves test k star = or_others (filter test (moves_of k star)) (filter test (moves_of k (not star)))

-- whether m is a move from state s after which n further moves can meet the goal
abbrev pub keeps_goal : ReachValue → State → ℕ → Goal → Move → Bool
keeps_goal r s n goal m = is_move r s.at m && feasible r goal n (moved r.schema s m)

-- the moves after which n further moves can meet the goal
abbrev pub move_candidates : ReachValue → State → ℕ → Goal → Bool → List Move
move_candidates r s n goal star = live_moves (keeps_goal r s n goal) (length r.schema.kinds) star

-- whether m is a move from type t after which n further moves can come to type end
abbrev pub keeps_end : ReachValue → ℕ → ℕ → ℕ → Move → Bool
keeps_end r t n end m = is_move r t m && joins r n m.to end

-- the moves after which n further moves can come to type end
abbrev pub link_candidates : ReachValue → ℕ → ℕ → ℕ → Bool → List Move
link_candidates r t n end star = live_moves (keeps_end r t n end) (length r.schema.kinds) star

-- the moves from type t
abbrev pub arm_candidates : ReachValue → ℕ → Bool → List Move
arm_candidates r t star = live_moves (is_move r t) (length r.schema.kinds) star

-- whether some n symbols lead from type t to the end of a move with its value
abbrev pub has_length : ReachValue → ℕ → Move → ℕ → Bool
has_length r t m n = can_walk r.schema n (begun t) (came_to t m.to m.value)

-- the lengths of a range that a word from type t to the end of a move with its value can have
abbrev pub length_candidates : ReachValue → ℕ → Move → Range → List ℕ
length_candidates r t m range = filter (has_length r t m) (numbers_of range)

-- whether n further symbols after symbol c can carry the state s to `to`
abbrev pub keeps_walk : SchemaValue → State → State → ℕ → Symbol → Bool
keeps_walk g s to n c = can_walk g n (carried g s c) to

-- the symbol with a number among those that start at type t
abbrev pub nth_symbol : SchemaValue → ℕ → ℕ → Symbol
nth_symbol g t i = slice_index_or (symbols_of g.edges t) i (record { edge = 0; back = false })

-- the symbols from where s has come after which n further symbols can carry it to `to`
abbrev pub symbol_candidates : SchemaValue → State → State → ℕ → List Symbol
symbol_candidates g s to n = filter (keeps_walk g s to n) (symbols_of g.edges s.at)

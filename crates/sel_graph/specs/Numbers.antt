-- Operators, moves and goals in their order, and what has a number there.
--   operators            the operators in their order
--   op_at n              the operator with a number
--   state_at t p         the state of a path from type t to the type and with the operator of place p
--   moves_to star u      the moves of one kind to type u, by value
--   moves_of k star      the moves of one kind to the first k types, by type and value
--   all_moves k          the moves to the first k types
--   move_of star p       the move of one kind to the type and with the value of place p
--   class_number c       the number of a class in their order
--   goal_count           the number of goals
--   goal_number goal     the number of a goal: by class and second
use Rattle.std.specs.Prelude.{ℕ, ◌+◌, ◌*◌, ◌/◌, ◌%◌, Bool, true, false, List, [], ◌∷◌, ◌++◌, map, slice_index_or}
use Rattle.std.specs.List.{range_with_len, flat_map}
use Rattle.sel_algebra.specs.declared.vocabulary.Op.{Op}
use Rattle.sel_algebra.specs.declared.vocabulary.Op.TheVariants.{Equal, Less, Greater, Diamond, Cross}
use Rattle.sel_algebra.specs.declared.vocabulary.Class.{Class}
use Rattle.sel_algebra.specs.declared.vocabulary.Class.TheVariants.{Constant, Linear, Quadratic}
use Rattle.sel_graph.specs.declared.states.State.{State}
use Rattle.sel_graph.specs.declared.states.Move.{Move}
use Rattle.sel_graph.specs.declared.states.Goal.{Goal}
use Rattle.sel_graph.specs.States.{came_to}

-- the operators in their order
abbrev pub operators : List Op
operators = Equal ∷ Less ∷ Greater ∷ Diamond ∷ Cross ∷ []

-- the operator with a number
abbrev pub op_at : ℕ → Op
op_at n = slice_index_or operators n Equal

-- the state of a path from type t to the type and with the operator of place p
abbrev pub state_at : ℕ → ℕ → State
state_at t p = came_to t (p / 5) (op_at (p % 5))

-- the moves of one kind to type u, by value
abbrev pub moves_to : Bool → ℕ → List Move
moves_to star u = map (λ v. record { star = star; to = u; value = v }) operators

-- the moves of one kind to the first k types, by type and value
abbrev pub moves_of : ℕ → Bool → List Move
moves_of k star = flat_map (moves_to star) (range_with_len 0 k)

-- the moves to the first k types
abbrev pub all_moves : ℕ → List Move
all_moves k = moves_of k false ++ moves_of k true

-- the move of one kind to the type and with the value of place p
abbrev pub move_of : Bool → ℕ → Move
move_of star p = record { star = star; to = p / 5; value = op_at (p % 5) }

-- the number of a class in their order
abbrev pub class_number : Class → ℕ
class_number Constant = 0
class_number Linear = 1
class_number Quadratic = 2

-- the class with a number
abbrev pub class_at : ℕ → Class
class_at n = slice_index_or (Constant ∷ Linear ∷ Quadratic ∷ []) n Constant

-- the number of goals: three classes, and second paths of up to four moves
abbrev pub goal_count : ℕ
goal_count = 15

-- the number of a goal: by class and second
abbrev pub goal_number : Goal → ℕ
goal_number goal = 5 * class_number goal.class + goal.second

-- the goal with a number
abbrev pub goal_at : ℕ → Goal
goal_at n = record { class = class_at (n / 5); second = n % 5 }

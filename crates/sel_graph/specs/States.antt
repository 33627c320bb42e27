-- States, and what they are carried to.
--   op_number a            the number of an operator in their order
--   place_of u v           the place of an operator v at a type u: place s is that of state s
--   begun t                the state at type t where no path is yet
--   came_to t u v          the state of a path from type t to type u with operator v
--   carried_to g s u v     the state after a further path to type u with operator v
--   carried g s c          the state after a further symbol
--   next_places g s        the places after each symbol from where a state has come
--   state_class g s        the growth class of a state
use Rattle.std.specs.Prelude.{ℕ, ◌+◌, ◌*◌, List, map}
use Rattle.sel_algebra.specs.declared.vocabulary.Op.{Op}
use Rattle.sel_algebra.specs.declared.vocabulary.Op.TheVariants.{Equal}
use Rattle.sel_algebra.specs.declared.vocabulary.Class.{Class}
use Rattle.sel_algebra.specs.declared.vocabulary.Symbol.{Symbol}
use Rattle.sel_algebra.specs.Operators.{column, typed_composition, growth_class}
use Rattle.sel_algebra.specs.Table.{kind_at}
use Rattle.schema_graph.specs.Edge.{end_of, op_of}
use Rattle.schema_graph.specs.Schema.{SchemaValue}
use Rattle.schema_graph.specs.Symbols.{symbols_of}
use Rattle.sel_graph.specs.declared.states.State.{State}

-- the number of an operator in their order
abbrev pub op_number : Op → ℕ
op_number a = column a 0 1 2 3 4

-- the place of an operator v at a type u
abbrev pub place_of : ℕ → Op → ℕ
place_of u v = 5 * u + op_number v

-- the place of a state: that of its operator at the type to which it has come
abbrev pub place : State → ℕ
place s = place_of s.at s.op

-- the state of a path from type t to type u with operator v
abbrev pub came_to : ℕ → ℕ → Op → State
came_to t u v = record { start = t; at = u; op = v }

-- the state at type t where no path is yet
abbrev pub begun : ℕ → State
begun t = came_to t t Equal

-- the state after a further path to type u with operator v
abbrev pub carried_to : SchemaValue → State → ℕ → Op → State
carried_to g s u v = came_to s.start u (typed_composition s.op v (kind_at g.kinds s.start) (kind_at g.kinds u))

-- the state after a further symbol
abbrev pub carried : SchemaValue → State → Symbol → State
carried g s c = carried_to g s (end_of g.edges c) (op_of g.edges c)

-- the places of the states after each symbol that starts where a state has come, in the order of the symbols
abbrev pub next_places : SchemaValue → State → List ℕ
next_places g s = map (λ c. place (carried g s c)) (symbols_of g.edges s.at)

-- the growth class of a state
abbrev pub state_class : SchemaValue → State → Class
state_class g s = growth_class s.op (kind_at g.kinds s.start) (kind_at g.kinds s.at)

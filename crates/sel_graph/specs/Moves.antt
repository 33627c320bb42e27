-- Moves, and what some moves lead to.
--   ReachValue                 a schema, the permitted lengths of words, and whether words may be starred
--   IsReach r                  the rules that each such value keeps
--   IsPlainMove r t u v        some word of permitted length leads from type t to type u with value v
--   IsMove r t m               m is a move from type t
--   effect m                   the operator of a move
--   moved g s m                the state after a further move
--   CarriesByMove r s m u      move m carries state s to state u
--   LeadsByMove r t m u        move m leads from type t to type u
--   Joins r n t u              some n moves lead from t to u, one after another
--   Meets r goal s             state s meets a goal
--   IsFeasible r goal n s      some n moves carry s to a state that meets the goal
use Rattle.std.specs.Prelude.{◌≡◌, ◌≢◌, ℕ, ◌≤◌, Bool, true, if◌then◌else◌}
use Rattle.sel_algebra.specs.declared.vocabulary.Op.{Op}
use Rattle.sel_algebra.specs.Operators.{star_of}
use Rattle.gm_config.specs.declared.workload_rules.Range.{Range}
use Rattle.schema_graph.specs.Schema.{SchemaValue, IsSchema}
use Rattle.sel_graph.specs.Runs.{HasRun}
use Rattle.sel_graph.specs.declared.states.State.{State}
use Rattle.sel_graph.specs.declared.states.Move.{Move}
use Rattle.sel_graph.specs.declared.states.Goal.{Goal}
use Rattle.sel_graph.specs.States.{begun, came_to, carried_to, state_class}
use Rattle.sel_graph.specs.Walks.{HasWalk}

-- the most symbols of a word
abbrev pub symbols_most : ℕ
symbols_most = 32

-- the most moves of a path
abbrev pub moves_most : ℕ
moves_most = 8

-- the most moves of a goal's second path
abbrev pub second_most : ℕ
second_most = 4

-- a schema, the permitted lengths of words, and whether words may be starred
pub record ReachValue : Type 0 where
  pub schema : SchemaValue
  pub lengths : Range
  pub stars : Bool

-- a schema, and lengths from 1 to the most symbols of a word
pub record IsReach (r : ReachValue) : Type 0 where
  pub schema : IsSchema r.schema
  pub some : 1 ≤ r.lengths.least
  pub few : r.lengths.most ≤ symbols_most

-- some word of permitted length leads from type t to type u with value v
abbrev pub IsPlainMove : ReachValue → ℕ → ℕ → Op → Type 0
IsPlainMove r t u v = (n : ℕ) × (r.lengths.least ≤ n) × (n ≤ r.lengths.most) × HasWalk r.schema n (begun t) (came_to t u v)

-- a move from type t: a plain one, which may be starred where stars are and it leads from t to itself
pub record IsMove (r : ReachValue) (t : ℕ) (m : Move) : Type 0 where
  pub plain : IsPlainMove r t m.to m.value
  pub starred : m.star ≡ true → (r.stars ≡ true) × (m.to ≡ t)

-- the operator of a move
abbrev pub effect : Move → Op
effect m = if m.star then star_of m.value else m.value

-- the state after a further move
abbrev pub moved : SchemaValue → State → Move → State
moved g s m = carried_to g s m.to (effect m)

-- a move carries a state, where it is one from the type to which the state has come
abbrev pub CarriesByMove : ReachValue → State → Move → State → Type 0
CarriesByMove r s m u = IsMove r s.at m × (moved r.schema s m ≡ u)

-- a move leads from type t to type u
abbrev pub LeadsByMove : ReachValue → ℕ → Move → ℕ → Type 0
LeadsByMove r t m u = IsMove r t m × (m.to ≡ u)

-- some n moves lead from t to u, one after another
abbrev pub Joins : ReachValue → ℕ → ℕ → ℕ → Type 0
Joins r n t u = HasRun (LeadsByMove r) n (λ v. v ≡ u) t

-- a state has the class of a goal, and so many moves as the goal asks for lead from its start to where it has come
pub record Meets (r : ReachValue) (goal : Goal) (s : State) : Type 0 where
  pub class : state_class r.schema s ≡ goal.class
  pub second : goal.second ≢ 0 → Joins r goal.second s.start s.at

-- some n moves carry s to a state that meets the goal
abbrev pub IsFeasible : ReachValue → Goal → ℕ → State → Type 0
IsFeasible r goal n s = HasRun (CarriesByMove r) n (Meets r goal) s

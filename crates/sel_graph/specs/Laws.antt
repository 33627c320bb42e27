-- The laws of reachability: each test is true exactly where what it asks for exists.
use Rattle.std.specs.Prelude.{◌≡◌, ◌↔◌, ℕ, IsTrue, List}
use Rattle.sel_algebra.specs.declared.vocabulary.Op.{Op}
use Rattle.schema_graph.specs.Schema.{SchemaValue}
use Rattle.sel_graph.specs.declared.states.State.{State}
use Rattle.sel_graph.specs.declared.states.Move.{Move}
use Rattle.sel_graph.specs.declared.states.Goal.{Goal}
use Rattle.sel_algebra.specs.declared.vocabulary.Symbol.{Symbol}
use Rattle.sel_algebra.specs.Operators.{IsNormal}
use Rattle.sel_algebra.specs.Table.{kind_at}
use Rattle.sel_graph.specs.Runs.{Runs}
use Rattle.sel_graph.specs.States.{begun, came_to}
use Rattle.sel_graph.specs.Values.{value_from}
use Rattle.sel_graph.specs.Walks.{CarriesBySymbol, HasWalk}
use Rattle.sel_graph.specs.Moves.{ReachValue, IsReach, IsPlainMove, IsMove, Joins, Meets, IsFeasible}
use Rattle.sel_graph.specs.Tests.{can_walk, is_plain, is_move, joins, meets, feasible}

-- some n symbols carry a state to a state just where the test on walks is true
abbrev pub WalksAgree : Type 0
WalksAgree = (g : SchemaValue) (n : ℕ) (s t : State) → IsTrue (can_walk g n s t) ↔ HasWalk g n s t

-- some word of permitted length leads from a type to a type with a value just where the test is true
abbrev pub PlainMovesAgree : Type 0
PlainMovesAgree = (r : ReachValue) (t u : ℕ) (v : Op) → IsTrue (is_plain r t u v) ↔ IsPlainMove r t u v

-- it is a move from a type just where the test is true
abbrev pub MovesAgree : Type 0
MovesAgree = (r : ReachValue) (t : ℕ) (m : Move) → IsTrue (is_move r t m) ↔ IsMove r t m

-- some n moves lead from a type to a type just where the test is true
abbrev pub JoinsAgree : Type 0
JoinsAgree = (r : ReachValue) → IsReach r → (n t u : ℕ) → IsTrue (joins r n t u) ↔ Joins r n t u

-- a state meets a goal just where the test is true
abbrev pub GoalsAgree : Type 0
GoalsAgree = (r : ReachValue) → IsReach r → (goal : Goal) (s : State) → IsTrue (meets r goal s) ↔ Meets r goal s

-- some n moves carry a state to one that meets a goal just where the test is true
abbrev pub FeasibilityAgrees : Type 0
FeasibilityAgrees = (r : ReachValue) → IsReach r → (goal : Goal) (n : ℕ) (s : State) → IsTrue (feasible r goal n s) ↔ IsFeasible r goal n s

-- the operator of the state to which a word carries a state is the value of the word from there
abbrev pub WalksHaveValues : Type 0
WalksHaveValues = (g : SchemaValue) (word : List Symbol) (s t : State) → Runs (CarriesBySymbol g) word s t → t.op ≡ value_from g (kind_at g.kinds s.start) s.op word

-- the value of a word is normal for the types at its ends
abbrev pub ValuesAreNormal : Type 0
ValuesAreNormal = (g : SchemaValue) (word : List Symbol) (t u : ℕ) (v : Op) → Runs (CarriesBySymbol g) word (begun t) (came_to t u v) → IsNormal v (kind_at g.kinds t) (kind_at g.kinds u)

-- a state that meets a goal with no further move meets it
abbrev pub FinishedStatesMeet : Type 0
FinishedStatesMeet = (r : ReachValue) → IsReach r → (goal : Goal) (s : State) → IsTrue (feasible r goal 0 s) → Meets r goal s

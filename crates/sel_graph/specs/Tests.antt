-- The tests that compute whether there is a walk, a move, or a list of moves.
--   can_reach g n s p       whether some n symbols carry s to the state with its start at place p
--   comes_from g n t p      whether some n symbols carry the state with the start of t at place p to t
--   can_walk g n s t        whether some n symbols carry s to t
--   leads_at r t p          whether some word of permitted length leads from t to place p
--   is_plain r t u v        whether some word of permitted length leads from t to u with value v
--   is_move r t m           whether m is a move from type t
--   can_come r n s p        whether some n moves carry s to the state with its start at place p
--   joins r n t u           whether some n moves lead from t to u
--   meets r goal s          whether s meets a goal
--   feasible r goal n s     whether some n moves carry s to a state that meets the goal
use Rattle.std.specs.Prelude.{ℕ, ◌+◌, ◌-◌, ◌==◌, Bool, not, ◌&&◌, ◌||◌, if◌then◌else◌, Option, Some, None, List, length}
use Rattle.std.specs.List.{range_with_len, list_any}
use Rattle.sel_algebra.specs.declared.vocabulary.Op.{Op}
use Rattle.sel_algebra.specs.declared.vocabulary.Symbol.{Symbol}
use Rattle.gm_config.specs.declared.workload_rules.Range.{Range}
use Rattle.schema_graph.specs.Edge.{start_of}
use Rattle.schema_graph.specs.Symbols.{first_symbols}
use Rattle.schema_graph.specs.Schema.{SchemaValue}
use Rattle.sel_graph.specs.Runs.{can_run}
use Rattle.sel_graph.specs.declared.states.State.{State}
use Rattle.sel_graph.specs.declared.states.Move.{Move}
use Rattle.sel_graph.specs.declared.states.Goal.{Goal}
use Rattle.sel_graph.specs.States.{place_of, place, begun, carried, state_class}
use Rattle.sel_graph.specs.Numbers.{state_at, all_moves, class_number}
use Rattle.sel_graph.specs.Moves.{ReachValue, moved}

-- the state to which a symbol carries a state, if it starts there
abbrev pub carry : SchemaValue → State → Symbol → Option State
carry g s c = if start_of g.edges c == s.at then Some (carried g s c) else None

-- whether some n symbols carry s to the state with its start at place p
abbrev pub can_reach : SchemaValue → ℕ → State → ℕ → Bool
can_reach g n s p = can_run (carry g) (first_symbols (length g.edges)) (λ u. place u == p) n s

-- whether some n symbols carry the state with the start of t at place p to t
abbrev pub comes_from : SchemaValue → ℕ → State → ℕ → Bool
comes_from g n t p = can_reach g n (state_at t.start p) (place t)

-- whether some n symbols carry s to t
abbrev pub can_walk : SchemaValue → ℕ → State → State → Bool
can_walk g n s t = (t.start == s.start) && can_reach g n s (place t)

-- the numbers of a range
abbrev pub numbers_of : Range → List ℕ
numbers_of range = range_with_len range.least (range.most + 1 - range.least)

-- whether some word of permitted length leads from t to place p
abbrev pub leads_at : ReachValue → ℕ → ℕ → Bool
leads_at r t p = list_any (λ n. can_reach r.schema n (begun t) p) (numbers_of r.lengths)

-- whether some word of permitted length leads from t to u with value v
abbrev pub is_plain : ReachValue → ℕ → ℕ → Op → Bool
is_plain r t u v = leads_at r t (place_of u v)

-- whether m is a move from type t
abbrev pub is_move : ReachValue → ℕ → Move → Bool
is_move r t m = is_plain r t m.to m.value && (not m.star || (r.stars && (m.to == t)))

-- the state to which a move carries a state, if it is one from there
abbrev pub move_on : ReachValue → State → Move → Option State
move_on r s m = if is_move r s.at m then Some (moved r.schema s m) else None

-- whether some n moves carry s to the state with its start at place p
abbrev pub can_come : ReachValue → ℕ → State → ℕ → Bool
can_come r n s p = can_run (move_on r) (all_moves (length r.schema.kinds)) (λ u. place u == p) n s

-- the type to which a move leads from t, if it is one from there
abbrev pub join_on : ReachValue → ℕ → Move → Option ℕ
join_on r t m = if is_move r t m then Some m.to else None

-- whether some n moves lead from t to u
abbrev pub joins : ReachValue → ℕ → ℕ → ℕ → Bool
joins r n t u = can_run (join_on r) (all_moves (length r.schema.kinds)) (λ v. v == u) n t

-- whether a state meets a goal
abbrev pub meets : ReachValue → Goal → State → Bool
meets r goal s = (class_number (state_class r.schema s) == class_number goal.class) && ((goal.second == 0) || joins r goal.second s.start s.at)

-- whether some n moves carry s to a state that meets the goal
abbrev pub feasible : ReachValue → Goal → ℕ → State → Bool
feasible r goal n s = can_run (move_on r) (all_moves (length r.schema.kinds)) (meets r goal) n s

-- The laws of picks: from a live start on, no later pick is without a candidate.
--   HasSymbol g t              some symbol of the schema starts at type t
--   PickedCountsAreLive        a number of conjuncts that a word picks is in the range, and some start can meet the goal with it
--   StartsNeverRunOut          where some start can meet the goal, each word picks one that can
--   MovesNeverRunOut           where n + 1 moves can meet the goal, each word picks a move after which n can
--   LinksNeverRunOut           where n + 1 moves can come to a type, each word picks a move after which n can
--   ArmsNeverRunOut            from a type with a symbol each word picks a move
--   MovesHaveSymbols           a move leads from a type with a symbol to a type with a symbol
--   LengthsNeverRunOut         of a move each word picks a length of the range that it can have
--   SymbolsNeverRunOut         where n + 1 symbols can lead to a state, each word picks a symbol that carries the state there, after which n can
use Rattle.std.specs.Prelude.{◌≡◌, ℕ, suc, ◌^◌, ◌<◌, ◌≤◌, Bool, Some, IsTrue, length}
use Rattle.std.specs.List.{list_any}
use Rattle.sel_algebra.specs.declared.vocabulary.Class.{Class}
use Rattle.sel_algebra.specs.declared.vocabulary.Shape.{Shape}
use Rattle.sel_algebra.specs.declared.vocabulary.Symbol.{Symbol}
use Rattle.gm_config.specs.declared.workload_rules.Range.{Range}
use Rattle.schema_graph.specs.Edge.{start_of}
use Rattle.schema_graph.specs.Schema.{SchemaValue}
use Rattle.candidates.specs.Picked.{picked}
use Rattle.sel_graph.specs.declared.states.State.{State}
use Rattle.sel_graph.specs.declared.states.Move.{Move}
use Rattle.sel_graph.specs.declared.states.Goal.{Goal}
use Rattle.sel_graph.specs.States.{carried}
use Rattle.sel_graph.specs.Walks.{CarriesBySymbol}
use Rattle.sel_graph.specs.Moves.{ReachValue, IsReach}
use Rattle.sel_graph.specs.Tests.{can_walk, is_move, joins, feasible}
use Rattle.walk_pick.specs.Candidates.{types_of, is_live_start, start_candidates, is_live_count, count_candidates, keeps_goal, move_candidates, keeps_end, link_candidates, arm_candidates, has_length, length_candidates, keeps_walk, symbol_candidates}

-- some symbol of the schema starts at type t
abbrev pub HasSymbol : SchemaValue → ℕ → Type 0
HasSymbol g t = (c : Symbol) × (c.edge < length g.edges) × (start_of g.edges c ≡ t)

-- a number of conjuncts that a word picks is in the range, and some start can meet the goal with it
abbrev pub PickedCountsAreLive : Type 0
PickedCountsAreLive = (r : ReachValue) (shape : Shape) (class : Class) (range : Range) (w k : ℕ) → picked w (count_candidates r shape class range) ≡ Some k
    → (range.least ≤ k) × (k ≤ range.most) × IsTrue (is_live_count r shape class k)

-- where some start can meet the goal, each word picks one that can
abbrev pub StartsNeverRunOut : Type 0
StartsNeverRunOut = (r : ReachValue) (goal : Goal) (n w : ℕ) → w < 2 ^ 64 → IsTrue (list_any (is_live_start r goal n) (types_of r))
    → (t : ℕ) × (picked w (start_candidates r goal n) ≡ Some t) × (t < length r.schema.kinds) × IsTrue (is_live_start r goal n t)

-- where n + 1 moves can meet the goal, each word picks a move after which n can, whatever kind is wanted
abbrev pub MovesNeverRunOut : Type 0
MovesNeverRunOut = (r : ReachValue) → IsReach r → (s : State) (n : ℕ) (goal : Goal) (star : Bool) (w : ℕ) → w < 2 ^ 64 → IsTrue (feasible r goal (suc n) s)
    → (m : Move) × (picked w (move_candidates r s n goal star) ≡ Some m) × IsTrue (keeps_goal r s n goal m)

-- where n + 1 moves can come to a type, each word picks a move after which n can, whatever kind is wanted
abbrev pub LinksNeverRunOut : Type 0
LinksNeverRunOut = (r : ReachValue) → IsReach r → (t n end : ℕ) (star : Bool) (w : ℕ) → w < 2 ^ 64 → IsTrue (joins r (suc n) t end)
    → (m : Move) × (picked w (link_candidates r t n end star) ≡ Some m) × IsTrue (keeps_end r t n end m)

-- from a type with a symbol each word picks a move, whatever kind is wanted
abbrev pub ArmsNeverRunOut : Type 0
ArmsNeverRunOut = (r : ReachValue) → IsReach r → r.lengths.least ≤ r.lengths.most → (t : ℕ) (star : Bool) (w : ℕ) → w < 2 ^ 64 → HasSymbol r.schema t
    → (m : Move) × (picked w (arm_candidates r t star) ≡ Some m) × IsTrue (is_move r t m)

-- a move leads from a type with a symbol to a type with a symbol
abbrev pub MovesHaveSymbols : Type 0
MovesHaveSymbols = (r : ReachValue) → IsReach r → (t : ℕ) (m : Move) → IsTrue (is_move r t m) → HasSymbol r.schema t × HasSymbol r.schema m.to

-- of a move each word picks a length of the range that it can have
abbrev pub LengthsNeverRunOut : Type 0
LengthsNeverRunOut = (r : ReachValue) (t : ℕ) (m : Move) (w : ℕ) → w < 2 ^ 64 → IsTrue (is_move r t m)
    → (n : ℕ) × (picked w (length_candidates r t m r.lengths) ≡ Some n) × (r.lengths.least ≤ n) × (n ≤ r.lengths.most) × IsTrue (has_length r t m n)

-- where n + 1 symbols can lead to a state, each word picks a symbol that carries the state there, after which n can
abbrev pub SymbolsNeverRunOut : Type 0
SymbolsNeverRunOut = (g : SchemaValue) (s to : State) (n w : ℕ) → w < 2 ^ 64 → IsTrue (can_walk g (suc n) s to)
    → (c : Symbol) × (picked w (symbol_candidates g s to n) ≡ Some c) × CarriesBySymbol g s c (carried g s c) × IsTrue (keeps_walk g s to n c)

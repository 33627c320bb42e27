-- What a symbol or a move does with a place, which depends on the start by its kind alone.
--   symbol_place g kind p c     the place to which symbol c carries place p, from a start of a kind
--   next_from g kind p          the places to which the symbols that start at the type of place p carry it
--   SymbolStep g kind p q       some symbol of the schema carries p to q
--   move_place g kind p m       the place to which move m carries place p, from a start of a kind
--   MoveStep r kind p q         some move carries p to q
--   PlainStep r kind p q        some plain move does
--   StarStep r kind p q         some starred move does, where moves may be starred
--   GoalMet r n p               the state from the start with a number to place p meets the goal with a number
use Rattle.std.specs.Prelude.{◌≡◌, ℕ, ◌*◌, ◌/◌, ◌%◌, ◌<◌, ◌==◌, ◌&&◌, Bool, true, false, IsTrue, List, length, map}
use Rattle.sel_algebra.specs.declared.vocabulary.Op.{Op}
use Rattle.sel_algebra.specs.declared.vocabulary.Kind.{Kind}
use Rattle.sel_algebra.specs.declared.vocabulary.Symbol.{Symbol}
use Rattle.sel_algebra.specs.Operators.{typed_composition}
use Rattle.sel_algebra.specs.Table.{kind_at}
use Rattle.schema_graph.specs.Edge.{start_of, end_of, op_of}
use Rattle.schema_graph.specs.Schema.{SchemaValue}
use Rattle.schema_graph.specs.Symbols.{symbols_of}
use Rattle.sel_graph.specs.declared.states.Move.{Move}
use Rattle.sel_graph.specs.States.{place_of}
use Rattle.sel_graph.specs.Numbers.{op_at, state_at, move_of, goal_at}
use Rattle.sel_graph.specs.Moves.{ReachValue, effect}
use Rattle.sel_graph.specs.Tests.{leads_at, is_plain, is_move, meets}

-- the place to which symbol c carries place p, from a start of a kind
abbrev pub symbol_place : SchemaValue → Kind → ℕ → Symbol → ℕ
symbol_place g kind p c = place_of (end_of g.edges c) (typed_composition (op_at (p % 5)) (op_of g.edges c) kind (kind_at g.kinds (end_of g.edges c)))

-- the places to which the symbols that start at the type of place p carry it, in their order
abbrev pub next_from : SchemaValue → Kind → ℕ → List ℕ
next_from g kind p = map (symbol_place g kind p) (symbols_of g.edges (p / 5))

-- whether symbol c starts at the type of place p and carries it to q
abbrev pub symbol_steps : SchemaValue → Kind → ℕ → ℕ → Symbol → Bool
symbol_steps g kind p q c = (start_of g.edges c == p / 5) && (symbol_place g kind p c == q)

-- some symbol of the schema carries place p to q
abbrev pub SymbolStep : SchemaValue → Kind → ℕ → ℕ → Type 0
SymbolStep g kind p q = (c : Symbol) × (c.edge < length g.edges) × (start_of g.edges c ≡ p / 5) × (symbol_place g kind p c ≡ q)

-- the place to which move m carries place p, from a start of a kind
abbrev pub move_place : SchemaValue → Kind → ℕ → Move → ℕ
move_place g kind p m = place_of m.to (typed_composition (op_at (p % 5)) (effect m) kind (kind_at g.kinds m.to))

-- some move to a type of the schema carries place p to q
abbrev pub MoveStep : ReachValue → Kind → ℕ → ℕ → Type 0
MoveStep r kind p q = (m : Move) × IsTrue (is_move r (p / 5) m) × (m.to < length r.schema.kinds) × (move_place r.schema kind p m ≡ q)

-- the state of a path from the start with a number to place p meets the goal with a number
abbrev pub GoalMet : ReachValue → ℕ → ℕ → Type 0
GoalMet r n p = (p < 5 * length r.schema.kinds) × IsTrue (meets r (goal_at (n % 15)) (state_at (n / 15) p))

-- some plain move carries place p to q
abbrev pub PlainStep : ReachValue → Kind → ℕ → ℕ → Type 0
PlainStep r kind p q = (n : ℕ) × IsTrue (leads_at r (p / 5) n) × (move_place r.schema kind p (move_of false n) ≡ q)

-- some plain move from the type of place p to itself carries p to q when it is starred
abbrev pub StarStep : ReachValue → Kind → ℕ → ℕ → Type 0
StarStep r kind p q = (v : Op) × IsTrue (is_plain r (p / 5) (p / 5) v) × (move_place r.schema kind p (record { star = true; to = p / 5; value = v }) ≡ q)

-- whether the plain move with a value from the type of place p to itself carries p to q when it is starred
abbrev pub star_step : ReachValue → Kind → ℕ → ℕ → Op → Bool
star_step r kind p q v = is_plain r (p / 5) (p / 5) v && (move_place r.schema kind p (record { star = true; to = p / 5; value = v }) == q)

-- the same for the value with a number
abbrev pub star_steps : ReachValue → Kind → ℕ → ℕ → ℕ → Bool
star_steps r kind p q n = star_step r kind p q (op_at n)

-- whether the plain move to a place carries place p to q
abbrev pub plain_steps : ReachValue → Kind → ℕ → ℕ → ℕ → Bool
plain_steps r kind p q n = move_place r.schema kind p (move_of false n) == q

-- What the rows of a schema hold.
--   levels_of b kind           the levels of rows from starts of a kind
--   HasStateRows g most Holds b   for each number of steps up to most and each state the places that it has
--   HasWalks g b               the places to which so many symbols lead
--   HasBefores g b             the places from which so many symbols lead
--   HasAfters r b              the places to which so many moves lead
--   HasWords r rows            for each type the plain moves from there
--   HasGoals r rows            for each start and goal the places at which the goal is met
--   HasNexts g b               for each place the places after one symbol
--   HasTables r w b n a rows       all but those of words
use Rattle.std.specs.Prelude.{◌≡◌, ℕ, ◌+◌, ◌*◌, ◌<◌, ◌≤◌, Bool, IsTrue, List, length, map}
use Rattle.std.specs.List.{range_with_len}
use Rattle.sel_algebra.specs.declared.vocabulary.Kind.{Kind}
use Rattle.sel_algebra.specs.declared.vocabulary.Kind.TheVariants.{Fixed, Growing}
use Rattle.sel_algebra.specs.Table.{kind_at}
use Rattle.schema_graph.specs.Schema.{SchemaValue}
use Rattle.bit_rows.specs.Sets.{NumberSet, has}
use Rattle.sel_graph.specs.declared.states.State.{State}
use Rattle.sel_graph.specs.declared.levels.KindLevels.{KindLevels}
use Rattle.sel_graph.specs.declared.next_places.Nexts.{Nexts}
use Rattle.sel_graph.specs.States.{place}
use Rattle.sel_graph.specs.Rows.{HasRows, level_at, row_at}
use Rattle.sel_graph.specs.Steps.{next_from, GoalMet}
use Rattle.sel_graph.specs.Moves.{ReachValue, IsReach, symbols_most, moves_most}
use Rattle.sel_graph.specs.Numbers.{goal_count}
use Rattle.sel_graph.specs.Tests.{can_reach, comes_from, can_come, leads_at}

-- the levels of rows from starts of a kind
abbrev pub levels_of : KindLevels → Kind → List (List NumberSet)
levels_of b Fixed = b.fixed.items
levels_of b Growing = b.growing.items

-- for each number of steps up to most and each state the places that it has, by the kind of its start and its place
pub record HasStateRows (g : SchemaValue) (most : ℕ) (holds : ℕ → State → ℕ → Bool) (b : KindLevels) : Type 0 where
  pub count : (kind : Kind) → length (levels_of b kind) ≡ most + 1
  pub long : (kind : Kind) (n : ℕ) → n ≤ most → length (level_at (levels_of b kind) n) ≡ 5 * length g.kinds
  pub marked : (n : ℕ) (s : State) (p : ℕ) → n ≤ most → s.at < length g.kinds → has (row_at (levels_of b (kind_at g.kinds s.start)) n (place s)) p ≡ holds n s p

-- the places to which so many symbols lead
abbrev pub HasWalks : SchemaValue → KindLevels → Type 0
HasWalks g b = HasStateRows g symbols_most (can_reach g) b

-- the places from which so many symbols lead
abbrev pub HasBefores : SchemaValue → KindLevels → Type 0
HasBefores g b = HasStateRows g symbols_most (comes_from g) b

-- the places to which so many moves lead
abbrev pub HasAfters : ReachValue → KindLevels → Type 0
HasAfters r b = HasStateRows r.schema moves_most (can_come r) b

-- for each type the places of the plain moves from there
abbrev pub HasWords : ReachValue → List NumberSet → Type 0
HasWords r rows = HasRows (length r.schema.kinds) (λ t p. IsTrue (leads_at r t p)) rows

-- for each start and goal the places at which the goal is met
abbrev pub HasGoals : ReachValue → List NumberSet → Type 0
HasGoals r rows = HasRows (goal_count * length r.schema.kinds) (GoalMet r) rows

-- for each place the places to which the symbols from there lead
abbrev pub HasNexts : SchemaValue → Nexts → Type 0
HasNexts g b = (b.fixed.items ≡ map (next_from g Fixed) (range_with_len 0 (5 * length g.kinds))) × (b.growing.items ≡ map (next_from g Growing) (range_with_len 0 (5 * length g.kinds)))

-- all rows but those of words
pub record HasTables (r : ReachValue) (w b : KindLevels) (n : Nexts) (a : KindLevels) (rows : List NumberSet) : Type 0 where
  pub reach : IsReach r
  pub walks : HasWalks r.schema w
  pub befores : HasBefores r.schema b
  pub nexts : HasNexts r.schema n
  pub afters : HasAfters r a
  pub goals : HasGoals r rows

-- Sides that have more stubs than a side may have.
--   too_many c side total            the report of a total, if it is above the limit
--   side_over config seed c side     the report of a side, if it is not free and its total is above the limit
--   first_side_over config seed c    the report of the first such side of a constraint: out before in
--   IsWithinLimit config seed        there is no such side
--   IsFirstOver config seed over     the report is that of the first such side of all constraints
use Rattle.std.specs.Prelude.{◌≡◌, ℕ, ◌<◌, nat_lt, if◌then◌else◌, length, Option, Some, None}
use Rattle.std.specs.Option.{option_or}
use Rattle.gm_config.specs.Config.{ConfigValue}
use Rattle.edge_match.specs.declared.config_sides.Side.{Side}
use Rattle.edge_match.specs.declared.config_sides.Side.TheVariants.{Out, In}
use Rattle.edge_match.specs.declared.errors.TooManyStubs.{TooManyStubs}
use Rattle.edge_match.specs.StubLimit.{stubs_most}
use Rattle.edge_match.specs.ConfigSides.{is_free}
use Rattle.edge_match.specs.DrawnDegrees.{table_total}

-- the report of a total, if it is above the limit
abbrev pub too_many : ℕ → Side → ℕ → Option TooManyStubs
too_many c side total = if nat_lt stubs_most total then Some (record { constraint = c; side = side; total = total }) else None

-- the report of a side, if it is not free and its total is above the limit
abbrev pub side_over : ConfigValue → (seed c : ℕ) → Side → Option TooManyStubs
side_over config seed c side = if is_free config c side then None else too_many c side (table_total config seed c side)

-- the report of the first such side of a constraint: out before in
abbrev pub first_side_over : ConfigValue → (seed c : ℕ) → Option TooManyStubs
first_side_over config seed c = option_or (side_over config seed c Out) (side_over config seed c In)

-- no side that is not free has a total above the limit
abbrev pub IsWithinLimit : ConfigValue → ℕ → Type 0
IsWithinLimit config seed = (c : ℕ) → c < length config.constraints → first_side_over config seed c ≡ None

-- a report is that of the first side that is not free and has a total above the limit
pub record IsFirstOver (config : ConfigValue) (seed : ℕ) (over : TooManyStubs) : Type 0 where
  pub constraint : over.constraint < length config.constraints
  pub here : first_side_over config seed over.constraint ≡ Some over
  pub before : (c : ℕ) → c < over.constraint → first_side_over config seed c ≡ None

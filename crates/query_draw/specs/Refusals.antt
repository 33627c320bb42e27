-- Why a query is not drawn.
--   IsRefusal c seed number error     there is no query of this number, or memory ran out
use Rattle.std.specs.Prelude.{ℕ, ⊤}
use Rattle.gm_config.specs.Config.{ConfigValue}
use Rattle.query_draw.specs.declared.errors.DrawError.{DrawError}
use Rattle.query_draw.specs.declared.errors.DrawError.TheVariants.{NoSuchQuery, NoMemory}
use Rattle.query_draw.specs.Missing.{IsMissing}

-- there is no query of this number, as its shape and class tell, or memory ran out
abbrev pub IsRefusal : ConfigValue → ℕ → ℕ → DrawError → Type 0
IsRefusal c seed number (NoSuchQuery missing) = IsMissing c seed number missing
IsRefusal c seed number NoMemory = ⊤

-- The first query of a configuration that can't be drawn.
--   IsFirst c seed missing           the query of this number can't be drawn, and all before it can
--   IsMissing c seed number missing  it names this query, which can't be drawn
--   IsFirstMissing c seed answer     the first such query, and none where all can be drawn
use Rattle.std.specs.Prelude.{◌≡◌, ℕ, ◌<◌, true, false, Option, Some, None}
use Rattle.gm_config.specs.Config.{ConfigValue}
use Rattle.query_draw.specs.declared.missing.NoSuchQuery.{NoSuchQuery}
use Rattle.query_draw.specs.Query.{drawn_shape, drawn_class, has_query}

-- it can't be drawn, which its shape and class tell, and all before it can
pub record IsFirst (c : ConfigValue) (seed : ℕ) (missing : NoSuchQuery) : Type 0 where
  pub within : missing.query < c.workload.queries
  pub shape : missing.shape ≡ drawn_shape c seed missing.query
  pub class : missing.class ≡ drawn_class c seed missing.query
  pub none : has_query c seed missing.query ≡ false
  pub before : (n : ℕ) → n < missing.query → has_query c seed n ≡ true

-- the first query that can't be drawn, and none where all can
abbrev pub IsFirstMissing : ConfigValue → ℕ → Option NoSuchQuery → Type 0
IsFirstMissing c seed None = (n : ℕ) → n < c.workload.queries → has_query c seed n ≡ true
IsFirstMissing c seed (Some missing) = IsFirst c seed missing

-- it names a query that can't be drawn, with its shape and class
pub record IsMissing (c : ConfigValue) (seed number : ℕ) (missing : NoSuchQuery) : Type 0 where
  pub query : missing.query ≡ number
  pub shape : missing.shape ≡ drawn_shape c seed number
  pub class : missing.class ≡ drawn_class c seed number
  pub none : has_query c seed number ≡ false

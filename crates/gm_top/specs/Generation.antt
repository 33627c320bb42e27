-- What the files of a configuration are made of.
--   GenerationValue           a configuration and a seed
--   CanDraw config seed       each query of the configuration can be drawn
--   IsAcceptedFor config seed it keeps the rules, each query can be drawn, and no side has too many stubs
use Rattle.std.specs.Prelude.{◌≡◌, ◌<◌, ℕ, true}
use Rattle.gm_config.specs.Config.{ConfigValue, IsConfig}
use Rattle.edge_match.specs.Limit.{IsWithinLimit}
use Rattle.query_draw.specs.Query.{has_query}

-- a configuration and a seed: all draws follow from these
pub record GenerationValue : Type 0 where
  pub config : ConfigValue
  pub seed : ℕ

-- each query of the configuration can be drawn
abbrev pub CanDraw : ConfigValue → ℕ → Type 0
CanDraw config seed = (number : ℕ) → number < config.workload.queries → has_query config seed number ≡ true

-- the configuration keeps its rules, each of its queries can be drawn, and no side has too many stubs
pub record IsAcceptedFor (config : ConfigValue) (seed : ℕ) : Type 0 where
  pub rules : IsConfig config
  pub queries : CanDraw config seed
  pub sides : IsWithinLimit config seed

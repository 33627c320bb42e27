-- The head of a configuration.
--   head_of c     its format, the names of its labels and of its types, and its schema
use Rattle.std.specs.Prelude.{map}
use Rattle.gm_config.specs.Config.{ConfigValue}
use Rattle.schema_graph.specs.Configured.{schema_of}
use Rattle.workload_text.specs.Values.{HeadValue}

-- the head under which the queries of a configuration stand
abbrev pub head_of : ConfigValue → HeadValue
head_of c = record { format = c.workload.format; labels = c.labels; types = map (λ t. t.name) c.types; schema = schema_of c }

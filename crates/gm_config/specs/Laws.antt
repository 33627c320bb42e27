-- The laws of configurations.
use Rattle.std.specs.Prelude.{◌≡◌, ℕ, ◌≤◌, None}
use Rattle.serde_json.specs.Data.{Data}
use Rattle.gm_config.specs.Rule.{first_broken}
use Rattle.gm_config.specs.Rules.{rules}
use Rattle.gm_config.specs.Config.{IsConfig}
use Rattle.gm_config.specs.Reading.{Reads, config_of}
use Rattle.gm_config.specs.Sample.{sample_text, sample_of}

-- a value that breaks no rule gives what each configuration keeps
abbrev pub RulesGiveConfig : Type 0
RulesGiveConfig = (d : Data) → first_broken rules d ≡ None → IsConfig (config_of d)

-- the sample's text has a reading, which breaks no rule and is the sample
abbrev pub SampleIsRead : Type 0
SampleIsRead = (d : Data) × Reads sample_text d × (first_broken rules d ≡ None) × (config_of d ≡ sample_of 1)

-- the sample keeps the rules of a configuration at each of its sizes
abbrev pub SampleIsConfig : Type 0
SampleIsConfig = (k : ℕ) → 1 ≤ k → k ≤ 100 → IsConfig (sample_of k)

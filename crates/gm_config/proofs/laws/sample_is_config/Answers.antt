use Rattle.gm_config.proofs.SampleLemmas.{IsConfig-sample_of}
use Rattle.gm_config.proofs.laws.sample_is_config.Goals as goal

pub returns : goal.returns
returns c = IsConfig-sample_of

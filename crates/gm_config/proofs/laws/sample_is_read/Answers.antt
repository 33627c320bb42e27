use Rattle.gm_config.proofs.SampleLemmas.{sample-read}
use Rattle.gm_config.proofs.laws.sample_is_read.Goals as goal

pub returns : goal.returns
returns c = sample-read

use Rattle.gm_config.proofs.ConfigLemmas.{IsConfig-first_broken}
use Rattle.gm_config.proofs.laws.rules_give_config.Goals as goal

pub returns : goal.returns
returns c = IsConfig-first_broken

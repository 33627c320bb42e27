use Rattle.sel_algebra.proofs.GreatestLemmas.{greatest_class_unique}
use Rattle.sel_algebra.proofs.laws.greatest_class_is_unique.Goals as goal

pub returns : goal.returns
returns c = greatest_class_unique

use Rattle.std.proofs.Common.{refl, add-one}
use Rattle.sel_algebra.proofs.GreatestLemmas.{greatest_below-none, greatest_below-more}
use Rattle.sel_algebra.proofs.matrix.greatest_class_of.Goals as goal

pub loop-from-init : goal.loop-from-init
loop-from-init c = rw (greatest_below-none _) refl

pub loop-from-preserved : goal.loop-from-preserved
loop-from-preserved c = rw (add-one, greatest_below-more, c.greater_class-greatest.ensures, c.greatest_class_from.ensures, c.loop-from.invariant) refl

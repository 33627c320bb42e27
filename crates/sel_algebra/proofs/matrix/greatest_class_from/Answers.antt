use Rattle.std.proofs.Common.{refl, add-one}
use Rattle.sel_algebra.proofs.GreatestLemmas.{greatest_below-none, greatest_below-more}
use Rattle.sel_algebra.proofs.matrix.greatest_class_from.Goals as goal

pub loop-to-init : goal.loop-to-init
loop-to-init c = rw (greatest_below-none _) refl

pub loop-to-preserved : goal.loop-to-preserved
loop-to-preserved c = rw (add-one, greatest_below-more, c.greater_class-greatest.ensures, c.class_of_entry-class.ensures, c.loop-to.invariant) refl

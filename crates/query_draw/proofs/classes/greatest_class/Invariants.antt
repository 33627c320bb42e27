use Rattle.query_draw.proofs.ClassLemmas.{AreGreatestTo}
use Rattle.query_draw.proofs.classes.greatest_class.Given as goal

abbrev pub invariant-loop-to : goal.invariant-loop-to
invariant-loop-to l = AreGreatestTo l.kinds l.columns l.greatest l.to

use Rattle.sel_algebra.proofs.GreatestLemmas.{greatest_class_unique, IsNone-greatest}
use Rattle.sel_algebra.proofs.matrix.Matrix.greatest_class.Goals as goal

pub returns-clause-greatest : goal.returns-clause-greatest
returns-clause-greatest c =
    rw (c.as_slice.ensures.value, c.as_slice-2.ensures.value, c.self.view_is) at ((greatest_class_unique _ _).1 c.greatest_class_of.ensures)

pub returns-clause-none : goal.returns-clause-none
returns-clause-none c = IsNone-greatest c.args.self.now _ (returns-clause-greatest c)

use Rattle.sel_algebra.proofs.TableLemmas.{zero_of-cells}
use Rattle.sel_algebra.proofs.matrix.cells_of_zero.Goals as goal

pub returns : goal.returns
returns c = rw (zero_of-cells c.args.kinds.now) c.no_entries.ensures

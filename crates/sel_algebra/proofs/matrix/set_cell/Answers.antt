use Rattle.sel_algebra.proofs.TableLemmas.{SetsEntry-slice_set, IsMatrix-SetsEntry}
use Rattle.std.proofs.lemmas.List.{length-set}
use Rattle.sel_algebra.proofs.matrix.set_cell.Goals as goal

pub returns-clause-entries : goal.returns-clause-entries
returns-clause-entries c = rw c.normal.ensures (SetsEntry-slice_set _ _ _ _ _ c.requires.matrix.whole c.requires.from c.requires.to)

pub returns-clause-matrix : goal.returns-clause-matrix
returns-clause-matrix c =
    rw c.normal.ensures (IsMatrix-SetsEntry _ _ _ _ _ _ c.requires.matrix (length-set _ _ _) (SetsEntry-slice_set _ _ _ _ _ c.requires.matrix.whole c.requires.from c.requires.to))

use Rattle.std.proofs.Common.{◌≡◌, ◌∙◌, sym, length, arith}
use Rattle.std.proofs.lemmas.Grind.{common_steps}
use Rattle.std.proofs.lemmas.List.{nil_from_length}
use Rattle.gm_files.specs.declared.putting.WriteFault.{WriteFault}
use Rattle.gm_files.proofs.PieceLemmas.{Writes-none}
use Rattle.gm_files.proofs.pieces.Pieces.flush.Goals as goal

pub returns-then-is_empty-clause-files : goal.returns-then-is_empty-clause-files
returns-then-is_empty-clause-files g c =
    let none : length c.self.inside.kept.items ≡ 0 = grind (arith, common_steps) in
    Writes-none WriteFault _ _ (sym c.self.view_is ∙ nil_from_length c.self.inside.kept.items none)

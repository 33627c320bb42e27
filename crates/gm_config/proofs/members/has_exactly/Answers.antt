use Rattle.std.proofs.lemmas.List.{length-map}
use Rattle.std.proofs.lemmas.List.Folds.{list_all-map}
use Rattle.gm_config.proofs.members.has_exactly.Goals as goal

pub returns-then-has_count : goal.returns-then-has_count
returns-then-has_count c = simp (length-map, list_all-map) (rw (← c.if-has_count.ensures) c.has_each.ensures)

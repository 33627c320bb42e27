use Rattle.std.proofs.Common.{rules}
use Rattle.std.proofs.lemmas.List.{length-map}
use Rattle.std.proofs.lemmas.List.Folds.{list_all-map}
use Rattle.gm_config.proofs.workload_rules.are_choices.Goals as goal

pub returns-then-are_named : goal.returns-then-are_named
returns-then-are_named g c = simp (length-map, list_all-map) (search rules)

pub returns-else-are_named : goal.returns-else-are_named
returns-else-are_named g c = simp (length-map, list_all-map) (search rules)

use Rattle.std.proofs.Common.{rules}
use Rattle.std.proofs.lemmas.List.{length-map}
use Rattle.std.proofs.lemmas.List.Folds.{list_all-map}
use Rattle.gm_config.proofs.ListLemmas.{list_any-map}
use Rattle.gm_config.proofs.degree_specs.are_weights.Goals as goal

pub returns-then-are_numbers : goal.returns-then-are_numbers
returns-then-are_numbers c = simp (length-map, list_all-map, list_any-map) (search rules)

pub returns-else-are_numbers : goal.returns-else-are_numbers
returns-else-are_numbers c = simp (length-map, list_all-map, list_any-map) (search rules)

use Rattle.std.proofs.Common.{ap, sym, ◌∙◌}
use Rattle.edge_match.specs.ConfigSides.{is_free_spec}
use Rattle.edge_match.proofs.SideLemmas.{is_free-opposite}
use Rattle.edge_match.proofs.config_sides.is_free.Goals as goal

pub returns-in-Free-clause-one : goal.returns-in-Free-clause-one
returns-in-Free-clause-one c = λ _. is_free-opposite _ _ _ c.spec_of.ensures.config c.requires (ap is_free_spec (sym c.spec_of.ensures.spec ∙ c.in-Free.is))

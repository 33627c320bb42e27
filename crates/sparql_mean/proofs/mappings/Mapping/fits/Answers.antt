use Rattle.std.proofs.Common.{ap, ◌∙◌}
use Rattle.sparql_mean.specs.Joins.{mapping_of}
use Rattle.sparql_mean.proofs.StepLemmas.{fits_entries}
use Rattle.sparql_mean.proofs.mappings.Mapping.fits.Goals as goal

pub returns : goal.returns
returns c = fits_entries c.args.self.now _ _ _ _ c.fits.ensures (ap mapping_of c.deref.ensures.value ∙ c.self.view_is)

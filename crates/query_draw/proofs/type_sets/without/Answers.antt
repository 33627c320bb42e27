use Rattle.query_draw.proofs.TypeSetLemmas.{IsWithout-cleared}
use Rattle.query_draw.proofs.type_sets.without.Goals as goal

pub returns : goal.returns
returns c = IsWithout-cleared c.args.set c.args.t c.requires

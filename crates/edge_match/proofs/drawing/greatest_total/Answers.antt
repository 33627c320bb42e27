use Rattle.edge_match.proofs.GreatestLemmas.{sum-degrees_by-greatest}
use Rattle.edge_match.proofs.drawing.greatest_total.Goals as goal

pub returns : goal.returns
returns c = λ seed stream. rw (c.from.ensures, c.from-2.ensures) (sum-degrees_by-greatest c.args.table.now c.greatest.result seed stream c.args.count c.greatest.ensures.value)

use Rattle.query_draw.proofs.TypeSetLemmas.{IsLeastType-lowest, HasNone-lowest}
use Rattle.query_draw.proofs.type_sets.next_type.Goals as goal

pub returns-then-least-count : goal.returns-then-least-count
returns-then-least-count c = IsLeastType-lowest c.args.set c.args.count c.ranges.set.fits c.requires c.if-least-count.true

pub returns-else-least-count : goal.returns-else-least-count
returns-else-least-count c = HasNone-lowest c.args.set c.args.count c.ranges.set.fits c.if-least-count.false

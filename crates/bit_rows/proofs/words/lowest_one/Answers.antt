use Rattle.bit_rows.proofs.WordLemmas.{lowest_place}
use Rattle.bit_rows.proofs.words.lowest_one.Goals as goal

pub returns-else-word-eq0 : goal.returns-else-word-eq0
returns-else-word-eq0 c = lowest_place c.args.word c.ranges.word.fits c.if-word-eq0.false

use Rattle.bit_rows.proofs.WordLemmas.{with_bit_here, with_bit_else}
use Rattle.bit_rows.proofs.words.set_bit.Goals as goal

pub returns-clause-here : goal.returns-clause-here
returns-clause-here c = with_bit_here c.args.words.now c.args.n c.requires

pub returns-clause-others : goal.returns-clause-others
returns-clause-others c = with_bit_else c.args.words.now c.args.n c.requires

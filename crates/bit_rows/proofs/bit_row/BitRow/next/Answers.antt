use Rattle.bit_rows.proofs.WordLemmas.{next_number, next_within}
use Rattle.bit_rows.proofs.bit_row.BitRow.next.Goals as goal

pub returns-clause-next : goal.returns-clause-next
returns-clause-next g c = rw (← c.self.view_is) (next_number c.self.inside.words c.args.n c.next_bit.result c.next_bit.ensures)

pub returns-clause-within : goal.returns-clause-within
returns-clause-within g c = rw (← c.self.told) (next_within c.self.inside.words c.args.n c.next_bit.result c.next_bit.ensures)

use Rattle.gm_text.proofs.LinesLemmas.{lines_of-cut}
use Rattle.gm_text.proofs.reading.Scan.next_line.Goals as goal

pub returns-in-Some-clause-line : goal.returns-in-Some-clause-line
returns-in-Some-clause-line c = rw (← c.self.view_is) (lines_of-cut c.self.inside.rest.now _ c.in-Some.rest.now c.in-Some.ensures)

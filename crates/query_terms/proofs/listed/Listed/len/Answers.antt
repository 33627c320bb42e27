use Rattle.std.proofs.Common.{sym}
use Rattle.query_terms.proofs.ListedLemmas.{length_decoded}
use Rattle.query_terms.proofs.listed.Listed.len.Goals as goal

pub returns : goal.returns
returns c = rw (← c.self.view_is) (sym (length_decoded c.self.inside.others.now 0 c.self.inside.codes.now))

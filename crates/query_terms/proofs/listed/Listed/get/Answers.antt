use Rattle.query_terms.proofs.ListedLemmas.{length_decoded, at_low, at_other}
use Rattle.query_terms.proofs.listed.Listed.get.Goals as goal

pub bounds-self-inside-n : goal.bounds-self-inside-n
bounds-self-inside-n c =
    let s = c.self.inside in
    rw (← c.self.view_is, length_decoded s.others.now 0 s.codes.now) at c.requires

pub returns-then-code-lt-OTHERS_FROM : goal.returns-then-code-lt-OTHERS_FROM
returns-then-code-lt-OTHERS_FROM c =
    let s = c.self.inside in
    let within = rw (← c.self.view_is, length_decoded s.others.now 0 s.codes.now) at c.requires in
    rw (← c.self.view_is, c.of.ensures, c.of-then-code-lt-OTHERS_FROM.ensures, c.saturating_sub.ensures)
    (at_low s.others.now s.codes.now c.args.n within c.if-code-lt-OTHERS_FROM.true)

pub returns : goal.returns
returns c =
    let s = c.self.inside in
    let within = rw (← c.self.view_is, length_decoded s.others.now 0 s.codes.now) at c.requires in
    rw (← c.self.view_is) (at_other s.others.now s.codes.now c.args.n _ c.self.invariant within c.if-code-lt-OTHERS_FROM.false)

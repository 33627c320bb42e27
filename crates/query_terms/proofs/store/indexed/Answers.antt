use Rattle.std.proofs.Common.{ap, sym, ◌∙◌}
use Rattle.query_terms.specs.Kept.{terms_in}
use Rattle.query_terms.specs.Store.{put_of}
use Rattle.query_terms.proofs.IndexLemmas.{front_put}
use Rattle.query_terms.proofs.store.indexed.Goals as goal

pub loop-n-preserved : goal.loop-n-preserved
loop-n-preserved c =
    sym (ap (λ placed. placed.terms) c.in_ok-put.ensures.put)
    ∙ ((λ i. (put_of (c.loop-n.invariant i) c.get.result).terms) ∙ front_put (terms_in c.args.terms.now) c.loop-n.n c.get.result c.requires.store c.get.ensures)

use Rattle.std.proofs.Common.{ap, ◌∙◌}
use Rattle.query_terms.specs.Lists.{heads_in}
use Rattle.workload_text.specs.Heads.{occur}
use Rattle.workload_text.proofs.StateLemmas.{occur-is}
use Rattle.workload_text.proofs.state.Reading.heads_occur.Goals as goal

pub returns : goal.returns
returns c =
    let heads = heads_in c.args.self.now.heads in
    c.occur.ensures ∙ ap (λ ends. occur ends heads) (c.deref.ensures.value ∙ c.requires.ends) ∙ occur-is c.args.self.now.builder.conjuncts heads

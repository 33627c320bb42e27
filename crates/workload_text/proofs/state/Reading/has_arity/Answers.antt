use Rattle.std.proofs.Common.{◌==◌, ◌||◌, ap, sym, ◌∙◌}
use Rattle.workload_text.specs.Sofar.{ended_rules}
use Rattle.workload_text.specs.State.{sofar_of}
use Rattle.workload_text.proofs.StateLemmas.{have_heads-as, have_heads-ended}
use Rattle.workload_text.proofs.state.Reading.has_arity.Goals as goal

pub returns : goal.returns
returns c =
    c.may_share.ensures
    ∙ ap (λ n. (n == 0) || (c.args.self.now.heads.count == c.args.count)) c.ended_rules.ensures
    ∙ sym (have_heads-as c.args.self.now.heads.count c.args.count (ended_rules (sofar_of c.args.self.now)) (have_heads-ended c.args.self.now c.requires.usable))

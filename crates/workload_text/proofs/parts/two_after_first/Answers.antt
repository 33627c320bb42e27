use Rattle.std.proofs.Common.{◌∷◌, ap, sym, ◌∙◌}
use Rattle.gm_text.specs.Lines.{is_byte}
use Rattle.workload_text.specs.Forms.{two_words, rest_of}
use Rattle.workload_text.proofs.PartLemmas.{not_two}
use Rattle.workload_text.proofs.parts.two_after_first.Goals as goal

pub returns : goal.returns
returns c =
    let second = c.in-Some-cut_long.second.now in
    let more = c.in-Some-cut_long-2._more in
    sym (ap (λ ws. two_words (rest_of ws)) c.in-Some.ensures
    ∙ (ap two_words c.in-Some-cut_long.ensures
    ∙ (ap (λ ws. two_words (second ∷ ws)) c.in-Some-cut_long-2.ensures ∙ not_two (is_byte 32) second more.0.now more.1.now)))

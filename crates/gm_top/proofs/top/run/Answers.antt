use Rattle.std.proofs.Common.{ap, refl, Err}
use Rattle.gm_top.proofs.CommandLemmas.{asked-can, reads-not, reads-so}
use Rattle.gm_top.proofs.DecisionLemmas.{IsAccepted-IsDecision, input-short, too-long-left}
use Rattle.gm_top.proofs.RunLemmas.{after-is_of_bytes, GainsMeaning-Gained, IsAnswerTo-done, IsAnswerTo-refused}
use Rattle.gm_top.proofs.TogetherLemmas.{GainsTogether-Gained}
use Rattle.gm_top.proofs.top.run.Goals as goal

pub decided-requires : goal.decided-requires
decided-requires g c = record { asked = asked-can _ c.in-Some.command c.in-Some.ensures }

pub returns-in-Err-clause-reads_nothing : goal.returns-in-Err-clause-reads_nothing
returns-in-Err-clause-reads_nothing g c = λ none. c.in-Err.ensures.reads_nothing (reads-not _ c.in-Some.command c.in-Some.ensures none)

pub returns-in-Err-clause-too_long_told : goal.returns-in-Err-clause-too_long_told
returns-in-Err-clause-too_long_told g c = λ is. too-long-left c.in-Some.command _ (c.in-Err.ensures.too_long_told (ap Err is))

pub returns-in-Err-clause-read_whole : goal.returns-in-Err-clause-read_whole
returns-in-Err-clause-read_whole g c = λ after reading. c.in-Err.ensures.read_whole (after-is_of_bytes c.in-Err.outcome c.in-Err.ensures.of_input after) (reads-so _ c.in-Some.command c.in-Some.ensures reading)

pub returns-in-Err-clause-complete : goal.returns-in-Err-clause-complete
returns-in-Err-clause-complete g c = λ source folder memory asked wanted.
    IsAnswerTo-refused _ c.in-Some.command asked _ c.in-Err.outcome c.in-Some.ensures wanted c.in-Err.ensures.of_input memory
    (λ is. source (c.in-Err.ensures.read_fault (ap Err is))) (λ is. c.in-Err.ensures.too_long_told (ap Err is))
    c.in-Err.ensures.decision (λ is. input-short c.in-Some.command _ _ (c.in-Err.ensures.read_whole is))

pub written-requires-clause-accepted : goal.written-requires-clause-accepted
written-requires-clause-accepted g c =
    let decided = c.in-Ok.ensures.decision refl in
    IsAccepted-IsDecision c.in-Some.command (asked-can _ c.in-Some.command c.in-Some.ensures) decided.0 c.in-Ok.work decided.2

pub returns-in-Ok-written-clause-meaning : goal.returns-in-Ok-written-clause-meaning
returns-in-Ok-written-clause-meaning g c = λ _.
    GainsMeaning-Gained _ c.in-Some.command _ _ _ c.in-Ok.work c.in-Some.ensures (c.in-Ok.ensures.decision refl) c.in-Ok-written.ensures.files

pub returns-in-Ok-written-clause-together : goal.returns-in-Ok-written-clause-together
returns-in-Ok-written-clause-together g c = λ _.
    GainsTogether-Gained _ c.in-Some.command _ _ _ c.in-Ok.work c.in-Some.ensures (c.in-Ok.ensures.decision refl) c.in-Ok-written.ensures.files

pub returns-in-Ok-written-clause-reads_nothing : goal.returns-in-Ok-written-clause-reads_nothing
returns-in-Ok-written-clause-reads_nothing g c = λ none. c.in-Ok.ensures.reads_nothing (reads-not _ c.in-Some.command c.in-Some.ensures none)

pub returns-in-Ok-written-clause-read_whole : goal.returns-in-Ok-written-clause-read_whole
returns-in-Ok-written-clause-read_whole g c = λ after reading. c.in-Ok.ensures.read_whole refl (reads-so _ c.in-Some.command c.in-Some.ensures reading)

pub returns-in-Ok-written-clause-complete : goal.returns-in-Ok-written-clause-complete
returns-in-Ok-written-clause-complete g c = λ _ _ _ asked wanted.
    IsAnswerTo-done _ c.in-Some.command asked _ c.in-Ok.work c.in-Some.ensures wanted (c.in-Ok.ensures.decision refl)
    (input-short c.in-Some.command _ _ (c.in-Ok.ensures.read_whole refl))

pub returns-clause-reads_nothing : goal.returns-clause-reads_nothing
returns-clause-reads_nothing g c = λ none. c.in-Ok.ensures.reads_nothing (reads-not _ c.in-Some.command c.in-Some.ensures none)

pub returns-clause-read_whole : goal.returns-clause-read_whole
returns-clause-read_whole g c = λ after reading. c.in-Ok.ensures.read_whole refl (reads-so _ c.in-Some.command c.in-Some.ensures reading)

use Rattle.workload_text.proofs.HeadLemmas.{take-more}
use Rattle.workload_text.proofs.head.label_names.Goals as goal

pub loop-l-preserved : goal.loop-l-preserved
loop-l-preserved c =
    let more = take-more c.args.config.now.labels c.loop-l.l c.label.result.now c.label.ensures.label in
    let pushed = c.in_ok-push.ensures.items in
    let copied = c.in_ok-copy.ensures in
    cc

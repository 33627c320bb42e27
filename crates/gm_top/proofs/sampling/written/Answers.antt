use Rattle.std.proofs.Common.{[], ◌∷◌}
use Rattle.gm_top.specs.Outputs.{summary, files_outputs}
use Rattle.gm_top.proofs.GraphLemmas.{OnErr-all}
use Rattle.gm_top.proofs.OutputLemmas.{MakesFiles-append, MakesPart-append, MakesPart-longer, TakesCalls-append, TakesCallsWithin-append, TakesCallsWithin-longer}
use Rattle.gm_top.proofs.SampleLemmas.{summary-some}
use Rattle.gm_top.proofs.sampling.written.Goals as goal

pub returns-in_err-written-clause-part : goal.returns-in_err-written-clause-part
returns-in_err-written-clause-part g c =
    let own = c.args.generation.now in
    OnErr-all c.from_residual.result _
    (MakesPart-longer (files_outputs own) (summary own.config own.seed ∷ []) _ _ c.in_err-written.ensures.part (summary-some own.config own.seed c.requires.accepted))

pub returns-in_err-written-clause-part_calls : goal.returns-in_err-written-clause-part_calls
returns-in_err-written-clause-part_calls g c =
    let own = c.args.generation.now in
    OnErr-all c.from_residual.result _
    (TakesCallsWithin-longer (files_outputs own) (summary own.config own.seed ∷ []) _ _ c.in_err-written.ensures.part_calls (summary-some own.config own.seed c.requires.accepted))

pub returns-in_err-put_summary-clause-part : goal.returns-in_err-put_summary-clause-part
returns-in_err-put_summary-clause-part g c =
    let own = c.args.generation.now in
    OnErr-all c.from_residual-in_err-put_summary.result _
    (MakesPart-append (files_outputs own) (summary own.config own.seed ∷ []) _ _ _ c.in_ok-written.ensures.files c.in_err-put_summary.ensures.part)

pub returns-in_err-put_summary-clause-part_calls : goal.returns-in_err-put_summary-clause-part_calls
returns-in_err-put_summary-clause-part_calls g c =
    let own = c.args.generation.now in
    OnErr-all c.from_residual-in_err-put_summary.result _
    (TakesCallsWithin-append (files_outputs own) (summary own.config own.seed ∷ []) _ _ _ c.in_ok-written.ensures.calls c.in_err-put_summary.ensures.part_calls)

pub returns-clause-files : goal.returns-clause-files
returns-clause-files g c =
    let own = c.args.generation.now in
    MakesFiles-append (files_outputs own) (summary own.config own.seed ∷ []) _ _ _ c.in_ok-written.ensures.files c.in_ok-put_summary.ensures.files

pub returns-clause-calls : goal.returns-clause-calls
returns-clause-calls g c =
    let own = c.args.generation.now in
    TakesCalls-append (files_outputs own) (summary own.config own.seed ∷ []) _ _ _ c.in_ok-written.ensures.calls c.in_ok-put_summary.ensures.calls

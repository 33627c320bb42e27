use Rattle.std.proofs.Common.{◌∙◌, [], ◌∷◌}
use Rattle.gm_top.specs.Outputs.{summary}
use Rattle.gm_top.proofs.PutLemmas.{KeepsFiles-same}
use Rattle.gm_top.proofs.GraphLemmas.{OnErr-all}
use Rattle.gm_top.proofs.OutputLemmas.{MakesPart-none, MakesFiles-one, MakesPart-one, TakesCalls-one, TakesCallsWithin-one, TakesCallsWithin-none}
use Rattle.gm_top.proofs.SampleLemmas.{summary-counted, summary-some}
use Rattle.gm_top.proofs.sampling.put_summary.Goals as goal

pub returns-in_err-text-clause-part : goal.returns-in_err-text-clause-part
returns-in_err-text-clause-part g c =
    let own = c.args.generation.now in
    OnErr-all c.from_residual.result _ (MakesPart-none (summary own.config own.seed ∷ []) _ _ (summary-some own.config own.seed c.requires.accepted) (KeepsFiles-same _))

pub returns-in_err-text-clause-part_calls : goal.returns-in_err-text-clause-part_calls
returns-in_err-text-clause-part_calls g c =
    let own = c.args.generation.now in
    OnErr-all c.from_residual.result _ (TakesCallsWithin-none (summary own.config own.seed ∷ []) _ (summary-some own.config own.seed c.requires.accepted))

pub returns-in_err-put_file-clause-part : goal.returns-in_err-put_file-clause-part
returns-in_err-put_file-clause-part g c =
    let own = c.args.generation.now in
    let text = c.deref.ensures.value ∙ c.in_ok-text.ensures in
    OnErr-all c.from_residual-in_err-put_file.result _
    (MakesPart-one (summary own.config own.seed) _ _ _ (summary-counted own.config own.seed _ c.requires.accepted text) c.in_err-put_file.ensures.part)

pub returns-in_err-put_file-clause-part_calls : goal.returns-in_err-put_file-clause-part_calls
returns-in_err-put_file-clause-part_calls g c =
    let own = c.args.generation.now in
    let text = c.deref.ensures.value ∙ c.in_ok-text.ensures in
    OnErr-all c.from_residual-in_err-put_file.result _
    (TakesCallsWithin-one (summary own.config own.seed) _ _ _ (summary-counted own.config own.seed _ c.requires.accepted text) c.in_err-put_file.ensures.calls_within)

pub returns-clause-files : goal.returns-clause-files
returns-clause-files g c =
    let own = c.args.generation.now in
    let text = c.deref.ensures.value ∙ c.in_ok-text.ensures in
    MakesFiles-one (summary own.config own.seed) _ _ _ (summary-counted own.config own.seed _ c.requires.accepted text) c.in_ok-put_file.ensures.gained

pub returns-clause-calls : goal.returns-clause-calls
returns-clause-calls g c =
    let own = c.args.generation.now in
    let text = c.deref.ensures.value ∙ c.in_ok-text.ensures in
    TakesCalls-one (summary own.config own.seed) _ _ _ (summary-counted own.config own.seed _ c.requires.accepted text) c.in_ok-put_file.ensures.calls

use Rattle.std.proofs.Common.{◌∙◌, [], ◌++◌, sym, append_assoc, append-nil}
use Rattle.gm_top.specs.Workload.{all_queries_text}
use Rattle.gm_top.proofs.PutLemmas.{PutsText-none, PutsText-same, PutsText-append, PutsTextPart-append}
use Rattle.gm_top.proofs.GraphLemmas.{OnErr-all}
use Rattle.gm_top.proofs.WorkloadLemmas.{workload_text-of}
use Rattle.gm_top.proofs.workload_file.put_workload.Goals as goal

pub returns-in_err-put_text-clause-part : goal.returns-in_err-put_text-clause-part
returns-in_err-put_text-clause-part g c =
    let own = c.args.generation.now in
    let head = c.args.head.now in
    let rest = all_queries_text own.config own.seed ++ c.args.end.now in
    let is = workload_text-of own.config own.seed _ _ c.requires.head c.requires.end ∙ append_assoc head _ _ in
    OnErr-all c.from_residual.result _
    (PutsTextPart-append _ _ _ _ _ _ _ _ [] head rest _ (PutsText-none _ _ _ c.requires.short) c.in_err-put_text.ensures.part is)

pub returns-in_err-put_queries-clause-part : goal.returns-in_err-put_queries-clause-part
returns-in_err-put_queries-clause-part g c =
    let own = c.args.generation.now in
    let is = workload_text-of own.config own.seed _ _ c.requires.head c.requires.end in
    OnErr-all c.from_residual-in_err-put_queries.result _
    (PutsTextPart-append _ _ _ _ _ _ _ _ c.args.head.now _ c.args.end.now _ c.in_ok-put_text.ensures.put c.in_err-put_queries.ensures.part is)

pub returns-in_err-put_text-2-clause-part : goal.returns-in_err-put_text-2-clause-part
returns-in_err-put_text-2-clause-part g c =
    let own = c.args.generation.now in
    let is = workload_text-of own.config own.seed _ _ c.requires.head c.requires.end ∙ sym (append-nil _) in
    let put = PutsText-append _ _ _ _ _ _ _ _ _ _ _ c.in_ok-put_text.ensures.put c.in_ok-put_queries.ensures.put in
    OnErr-all c.from_residual-in_err-put_text-2.result _
    (PutsTextPart-append _ _ _ _ _ _ _ _ _ c.args.end.now [] _ put c.in_err-put_text-2.ensures.part is)

pub returns-clause-put : goal.returns-clause-put
returns-clause-put g c =
    let own = c.args.generation.now in
    let is = workload_text-of own.config own.seed _ _ c.requires.head c.requires.end in
    let put = PutsText-append _ _ _ _ _ _ _ _ _ _ _ c.in_ok-put_text.ensures.put c.in_ok-put_queries.ensures.put in
    PutsText-same _ _ _ _ _ _ _ _ (sym is) (PutsText-append _ _ _ _ _ _ _ _ _ _ _ put c.in_ok-put_text-2.ensures.put)

use Rattle.std.proofs.Common.{◌≡◌, ◌∙◌, ◌+◌, List, ℕ, [], ◌∷◌, ◌++◌, refl, ap, sym, arith, rules}
use Rattle.query_terms.specs.Values.{QueryValue}
use Rattle.query_draw.specs.Query.{query_of}
use Rattle.gm_top.specs.Workload.{queries_text}
use Rattle.gm_top.proofs.GraphLemmas.{OnErr-all}
use Rattle.gm_top.proofs.PutLemmas.{PutsText-none, PutsText-same, PutsText-append, PutsTextPart-append, PutsTextPart-stopped}
use Rattle.gm_top.proofs.WorkloadLemmas.{first_queries, first_queries-more, queries_text-more, all_queries-rest}
use Rattle.gm_top.proofs.workload_file.put_queries.Goals as goal

pub loop-number-init : goal.loop-number-init
loop-number-init g c = record { put = PutsText-none _ _ c.args.pieces.now c.requires.short; kept = c.requires.none; unfinished = c.requires.unfinished; no_fault = refl }

pub draw_lines-requires-clause-drawable : goal.draw_lines-requires-clause-drawable
draw_lines-requires-clause-drawable g c = c.requires.drawable c.loop-number.number (omega (arith, c.loop-number-test.true, c.query_count-number-end.ensures))

pub put_text-requires-clause-short : goal.put_text-requires-clause-short
put_text-requires-clause-short g c = omega (arith, c.loop-number.invariant.put.called.kept)

pub returns-in_err-draw_lines-clause-part : goal.returns-in_err-draw_lines-clause-part
returns-in_err-draw_lines-clause-part g c =
    let own = c.args.generation.now in
    let rest = all_queries-rest own.config own.seed c.loop-number.number (omega (arith, c.loop-number-test.true, c.query_count-number-end.ensures)) in
    OnErr-all c.from_residual.result _ (PutsTextPart-stopped _ _ _ _ _ _ _ rest.0 _ c.loop-number.invariant.put rest.1)

pub loop-number-preserved : goal.loop-number-preserved
loop-number-preserved g c =
    let own = c.args.generation.now in
    let n = c.loop-number.number in
    let line = c.deref.ensures.value ∙ c.in_ok-draw_lines.ensures.text in
    let text = ap (λ (bytes : List ℕ). queries_text own.config own.seed n ++ bytes) line ∙ sym (queries_text-more own.config own.seed n) in
    record {
      put = PutsText-same _ _ _ _ _ _ _ _ text (PutsText-append _ _ _ _ _ _ _ _ _ _ _ c.loop-number.invariant.put c.in_ok-put_text.ensures.put);
      kept =
          c.in_ok-draw_lines.ensures.kept
          ∙ ap (λ (queries : List QueryValue). queries ++ query_of own.config own.seed n ∷ []) c.loop-number.invariant.kept
          ∙ sym (first_queries-more own.config own.seed n);
      unfinished = search rules;
      no_fault = search rules;
    }

pub returns-in_err-put_text-clause-part : goal.returns-in_err-put_text-clause-part
returns-in_err-put_text-clause-part g c =
    let own = c.args.generation.now in
    let n = c.loop-number.number in
    let before = queries_text own.config own.seed n in
    let rest = all_queries-rest own.config own.seed (n + 1) (omega (arith, c.loop-number-test.true, c.query_count-number-end.ensures)) in
    let line = c.deref.ensures.value ∙ c.in_ok-draw_lines.ensures.text in
    let text = queries_text-more own.config own.seed n ∙ ap (λ (bytes : List ℕ). before ++ bytes) (sym line) in
    OnErr-all c.from_residual-in_err-put_text.result _
    (PutsTextPart-append _ _ _ _ _ _ _ _ before c.deref.result.now rest.0 _ c.loop-number.invariant.put c.in_err-put_text.ensures.part
    (rest.1 ∙ ap (λ (bytes : List ℕ). bytes ++ rest.0) text))

pub returns-clause-put : goal.returns-clause-put
returns-clause-put g c =
    let own = c.args.generation.now in
    let all : c.loop-number.number ≡ own.config.workload.queries = omega (arith, c.query_count-number-end.ensures) in
    PutsText-same _ _ _ _ _ _ _ _ (ap (queries_text own.config own.seed) all) c.loop-number.invariant.put

pub returns-clause-kept : goal.returns-clause-kept
returns-clause-kept g c =
    let own = c.args.generation.now in
    let all : c.loop-number.number ≡ own.config.workload.queries = omega (arith, c.query_count-number-end.ensures) in
    c.loop-number.invariant.kept ∙ ap (first_queries own.config own.seed) all

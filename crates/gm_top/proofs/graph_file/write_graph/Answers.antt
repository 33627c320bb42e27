use Rattle.std.proofs.Common.{◌≡◌, ◌∙◌, ◌++◌, ◌+◌, ℕ, List, [], length, refl, ap, sym, subst, arith, rules}
use Rattle.std.proofs.lemmas.List.{length-append}
use Rattle.gm_files.proofs.Gains.{Gained-write, Gained-nil, Gained-append}
use Rattle.summary_text.specs.Counts.{drawn_summary}
use Rattle.gm_top.specs.Putting.{AreLinesBefore}
use Rattle.gm_top.proofs.PutLemmas.{PutsPart-write, Gained-Puts, CallsToPut-none, CallsToPut-more}
use Rattle.gm_top.proofs.GraphLemmas.{OnErr-all, AreLinesBefore-none, AreLinesBefore-more, graph-whole, part-none, part-kept, part-lines, part-whole}
use Rattle.gm_top.proofs.GraphLemmas.{calls-whole, calls-part, calls-none}
use Rattle.gm_top.proofs.graph_file.write_graph.Goals as goal

pub returns-in_err-create-clause-part : goal.returns-in_err-create-clause-part
returns-in_err-create-clause-part g c =
    OnErr-all c.from_residual.result _
    (part-none c.args.config.now c.args.seed c.constraint_count-count.ensures.config c.requires.within _ _ c.in_err-create.ensures.files)

pub loop-c-init : goal.loop-c-init
loop-c-init g c = record {
  lines = (
    [],
    subst (λ (text : List ℕ). AreLinesBefore c.args.config.now c.args.seed 0 text) (sym c.requires.empty) (AreLinesBefore-none c.args.config.now c.args.seed),
    c.in_ok-create.ensures.files,
    rw (c.in_ok-create.ensures.calls, c.requires.empty) (CallsToPut-none _ [] (omega arith)),
  );
  counted = c.requires.nothing;
  unfinished = search rules;
  no_fault = search rules;
}

pub returns-in_err-put_edges-clause-part : goal.returns-in_err-put_edges-clause-part
returns-in_err-put_edges-clause-part g c =
    let lines = c.loop-c.invariant.lines in
    let part = c.in_err-put_edges.ensures.part in
    OnErr-all c.from_residual-in_err-put_edges.result _
    (part-lines c.args.config.now c.args.seed c.constraint_count-count.ensures.config c.requires.within _ _ _ c.loop-c.c lines.0 c.loop-c.pieces (lines.0 ++ c.loop-c.pieces) part.0
    (omega arith) lines.1 part.1 refl lines.2 part.2)

pub loop-c-preserved : goal.loop-c-preserved
loop-c-preserved g c =
    let lines = c.loop-c.invariant.lines in
    let put = c.in_ok-put_edges.ensures.put in
    let now = Gained-Puts _ _ _ _ lines.0 c.loop-c.pieces c.put_edges.new.pieces put.0 (lines.0 ++ c.loop-c.pieces) refl lines.2 put.2 in
    let own = AreLinesBefore-more c.args.config.now c.args.seed c.loop-c.c (lines.0 ++ c.loop-c.pieces) put.0 lines.1 put.1 in
    record {
      lines = (
        now.0,
        subst (λ (text : List ℕ). AreLinesBefore c.args.config.now c.args.seed (c.loop-c.c + 1) text) (sym now.1) own,
        now.2,
        CallsToPut-more _ _ _ [] _ _ (lines.0 ++ c.loop-c.pieces) put.0 _ lines.3 put.3 now.1,
      );
      counted = c.in_ok-put_edges.ensures.counted;
      unfinished = search rules;
      no_fault = search rules;
    }

pub returns-in_err-flush-clause-part : goal.returns-in_err-flush-clause-part
returns-in_err-flush-clause-part g c =
    let lines = c.loop-c.invariant.lines in
    OnErr-all c.from_residual-in_err-flush.result _
    (part-kept c.args.config.now c.args.seed c.constraint_count-count.ensures.config c.requires.within _ _ _ c.loop-c.c lines.0 c.loop-c.pieces (lines.0 ++ c.loop-c.pieces)
    (omega arith) lines.1 refl lines.2 (PutsPart-write _ _ _ c.in_err-flush.ensures.files))

pub returns-in_err-finish-clause-part : goal.returns-in_err-finish-clause-part
returns-in_err-finish-clause-part g c =
    let lines = c.loop-c.invariant.lines in
    let all : c.loop-c.c ≡ length c.args.config.now.constraints = omega arith in
    let written = Gained-write _ _ _ _ lines.0 c.loop-c.pieces lines.2 c.in_ok-flush.ensures.files in
    let gained = Gained-append _ _ _ _ [] written (Gained-nil _ _ c.in_err-finish.ensures.files) in
    let text = subst (λ (n : ℕ). AreLinesBefore c.args.config.now c.args.seed n (lines.0 ++ c.loop-c.pieces)) all lines.1 in
    OnErr-all c.from_residual-in_err-finish.result _
    (part-whole c.args.config.now c.args.seed _ _ (graph-whole c.args.config.now c.args.seed _ _ lines.0 c.loop-c.pieces (lines.0 ++ c.loop-c.pieces) text refl gained))

pub returns-clause-files : goal.returns-clause-files
returns-clause-files g c =
    let lines = c.loop-c.invariant.lines in
    let all : c.loop-c.c ≡ length c.args.config.now.constraints = omega arith in
    let written = Gained-write _ _ _ _ lines.0 c.loop-c.pieces lines.2 c.in_ok-flush.ensures.files in
    let gained = Gained-append _ _ _ _ [] written (Gained-nil _ _ c.in_ok-finish.ensures.files) in
    let text = subst (λ (n : ℕ). AreLinesBefore c.args.config.now c.args.seed n (lines.0 ++ c.loop-c.pieces)) all lines.1 in
    graph-whole c.args.config.now c.args.seed _ _ lines.0 c.loop-c.pieces (lines.0 ++ c.loop-c.pieces) text refl gained

-- ---- the calls

pub put_edges-requires-clause-short : goal.put_edges-requires-clause-short
put_edges-requires-clause-short g c = omega (arith, c.loop-c.invariant.lines.3.kept)

pub returns-in_err-create-clause-part_calls : goal.returns-in_err-create-clause-part_calls
returns-in_err-create-clause-part_calls g c =
    OnErr-all c.from_residual.result _
    (calls-none c.args.config.now c.args.seed c.constraint_count-count.ensures.config c.requires.within _ _ (omega (arith, c.in_err-create.ensures.calls)))

pub returns-in_err-put_edges-clause-part_calls : goal.returns-in_err-put_edges-clause-part_calls
returns-in_err-put_edges-clause-part_calls g c =
    let lines = c.loop-c.invariant.lines in
    let part = c.in_err-put_edges.ensures.part in
    let text = lines.0 ++ c.loop-c.pieces in
    OnErr-all c.from_residual-in_err-put_edges.result _
    (calls-part c.args.config.now c.args.seed c.constraint_count-count.ensures.config c.requires.within _ _ (c.loop-c.c + 1) (text ++ part.0) (omega arith)
    (AreLinesBefore-more c.args.config.now c.args.seed c.loop-c.c text part.0 lines.1 part.1)
    (omega (arith, part.3, lines.3.each_piece, lines.3.kept, length-append text part.0)))

pub returns-in_err-flush-clause-part_calls : goal.returns-in_err-flush-clause-part_calls
returns-in_err-flush-clause-part_calls g c =
    let lines = c.loop-c.invariant.lines in
    OnErr-all c.from_residual-in_err-flush.result _
    (calls-part c.args.config.now c.args.seed c.constraint_count-count.ensures.config c.requires.within _ _ c.loop-c.c (lines.0 ++ c.loop-c.pieces) (omega arith) lines.1
    (omega (arith, c.in_err-flush.ensures.calls, lines.3.each_piece, lines.3.kept)))

pub returns-in_err-finish-clause-part_calls : goal.returns-in_err-finish-clause-part_calls
returns-in_err-finish-clause-part_calls g c =
    let lines = c.loop-c.invariant.lines in
    OnErr-all c.from_residual-in_err-finish.result _
    (calls-part c.args.config.now c.args.seed c.constraint_count-count.ensures.config c.requires.within _ _ c.loop-c.c (lines.0 ++ c.loop-c.pieces) (omega arith) lines.1
    (omega (arith, c.in_err-finish.ensures.calls, c.in_ok-flush.ensures.calls, lines.3.each_piece, lines.3.kept)))

pub returns-clause-calls : goal.returns-clause-calls
returns-clause-calls g c =
    let lines = c.loop-c.invariant.lines in
    let all : c.loop-c.c ≡ length c.args.config.now.constraints = omega arith in
    let text = subst (λ (n : ℕ). AreLinesBefore c.args.config.now c.args.seed n (lines.0 ++ c.loop-c.pieces)) all lines.1 in
    calls-whole c.args.config.now c.args.seed _ _ (lines.0 ++ c.loop-c.pieces) text
    (omega (arith, c.in_ok-finish.ensures.calls, c.in_ok-flush.ensures.calls, lines.3.each_piece, lines.3.kept))

-- ---- the edges

pub returns-clause-counted : goal.returns-clause-counted
returns-clause-counted g c =
    let all : c.loop-c.c ≡ length c.args.config.now.constraints = omega arith in
    c.loop-c.invariant.counted ∙ ap (λ n. drawn_summary c.args.config.now c.args.seed n []) all

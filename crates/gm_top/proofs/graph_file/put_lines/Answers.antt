use Rattle.std.proofs.Common.{◌≡◌, refl, ap, sym, subst, ◌∙◌, List, [], ◌∷◌, ◌++◌, All, append_assoc, rules}
use Rattle.std.proofs.lemmas.List.Elements.{All-tail}
use Rattle.graph_text.specs.declared.graphs.Triple.{Triple}
use Rattle.graph_text.specs.EdgesText.{IsInRange}
use Rattle.gm_top.proofs.GraphLemmas.{OnErr-all}
use Rattle.gm_top.proofs.PutLemmas.{Puts-none, Puts-edge, PutsPart-edge, CallsToPut-none, CallsToPut-edge, CallsToPut-within}
use Rattle.gm_top.proofs.graph_file.put_lines.Goals as goal

pub loop-edge-init : goal.loop-edge-init
loop-edge-init g c = record {
  put = ([], refl, Puts-none _ c.args.pieces.now, CallsToPut-none _ c.args.pieces.now c.requires.short);
  in_range = c.requires.in_range;
  unfinished = c.requires.unfinished;
  no_fault = refl;
}

pub loop-edge-preserved : goal.loop-edge-preserved
loop-edge-preserved g c =
    let put = c.loop-edge.invariant.put in
    let edge = c.in-Some.edge in
    let rest = c.next_edge.new.self in
    let first : c.loop-edge.edges ≡ edge ∷ rest = c.in-Some.ensures.edge in
    record {
      put = (
        put.0 ++ edge ∷ [],
        put.1 ∙ ap (λ (edges : List Triple). put.0 ++ edges) first ∙ sym (append_assoc put.0 (edge ∷ []) rest),
        Puts-edge _ _ _ _ _ _ _ put.0 edge put.2 (c.bytes.ensures.bytes ∙ c.line_of.ensures) c.in_ok-put.ensures.files c.in_ok-put.ensures.kept,
        CallsToPut-edge _ _ _ _ _ _ _ put.0 edge put.3 (c.bytes.ensures.bytes ∙ c.line_of.ensures) c.in_ok-put.ensures.calls c.in_ok-put.ensures.kept,
      );
      in_range = All-tail IsInRange edge rest (subst (λ (edges : List Triple). All IsInRange edges) first c.loop-edge.invariant.in_range);
      unfinished = search rules;
      no_fault = search rules;
    }

pub returns-in_err-put-clause-part : goal.returns-in_err-put-clause-part
returns-in_err-put-clause-part g c =
    let put = c.loop-edge.invariant.put in
    OnErr-all c.from_residual.result _ (PutsPart-edge _ _ _ _ _ _ c.args.edges put.0 c.next_edge.new.self c.in-Some.edge put.2
    (c.bytes.ensures.bytes ∙ c.line_of.ensures) c.in_err-put.ensures.files (put.1 ∙ ap (λ (edges : List Triple). put.0 ++ edges) c.in-Some.ensures.edge))

pub returns-in_err-put-clause-part_calls : goal.returns-in_err-put-clause-part_calls
returns-in_err-put-clause-part_calls g c =
    let put = c.loop-edge.invariant.put in
    OnErr-all c.from_residual.result _ (CallsToPut-within _ _ _ _ _ _ c.args.edges put.0 c.next_edge.new.self c.in-Some.edge put.3
    (c.bytes.ensures.bytes ∙ c.line_of.ensures) c.in_err-put.ensures.calls (put.1 ∙ ap (λ (edges : List Triple). put.0 ++ edges) c.in-Some.ensures.edge))

use Rattle.std.proofs.Common.{◌≡◌, ◌∙◌, List, ℕ, [], ◌++◌, refl, ap, sym, append_assoc, append-nil, rules}
use Rattle.std.proofs.lemmas.List.{take-append-drop}
use Rattle.gm_top.proofs.GraphLemmas.{OnErr-all}
use Rattle.gm_top.proofs.PutLemmas.{PutsText-none, PutsText-same, PutsText-piece, PutsTextPart-piece}
use Rattle.gm_top.proofs.putting.put_text.Goals as goal

-- the text is what was put, the next piece, and the rest
parts : (text done rest first later : List ℕ) → text ≡ done ++ rest → first ++ later ≡ rest → text ≡ (done ++ first) ++ later
parts text done rest first later is cut = is ∙ ap (λ (bytes : List ℕ). done ++ bytes) (sym cut) ∙ sym (append_assoc done first later)

pub loop-rest-init : goal.loop-rest-init
loop-rest-init g c = record {
  put = ([], refl, PutsText-none _ _ c.args.pieces.now c.requires.short);
  unfinished = c.requires.unfinished;
  no_fault = refl;
}

pub loop-rest-preserved : goal.loop-rest-preserved
loop-rest-preserved g c =
    let put = c.loop-rest.invariant.put in
    let first = c.split_at.result.0.now in
    let later = c.split_at.result.1.now in
    let cut : first ++ later ≡ c.loop-rest.rest.now = rw (c.split_at.ensures.front, c.split_at.ensures.back) (take-append-drop 65536 c.loop-rest.rest.now) in
    record {
      put = (
        put.0 ++ first,
        parts _ put.0 _ first later put.1 cut,
        PutsText-piece _ _ _ _ _ _ _ _ _ put.0 first put.2 c.in_ok-put.ensures.files c.in_ok-put.ensures.calls c.in_ok-put.ensures.kept,
      );
      unfinished = search rules;
      no_fault = search rules;
    }

pub returns-in_err-put-clause-part : goal.returns-in_err-put-clause-part
returns-in_err-put-clause-part g c =
    let put = c.loop-rest.invariant.put in
    let first = c.split_at.result.0.now in
    let later = c.split_at.result.1.now in
    let cut : first ++ later ≡ c.loop-rest.rest.now = rw (c.split_at.ensures.front, c.split_at.ensures.back) (take-append-drop 65536 c.loop-rest.rest.now) in
    OnErr-all c.from_residual.result _ (PutsTextPart-piece _ _ _ _ _ _ _ _ put.0 first later _ put.2 c.in_err-put.ensures.files c.in_err-put.ensures.calls
    (parts _ put.0 _ first later put.1 cut))

pub returns-in_err-put-2-clause-part : goal.returns-in_err-put-2-clause-part
returns-in_err-put-2-clause-part g c =
    let put = c.loop-rest.invariant.put in
    let rest = c.loop-rest.rest.now in
    OnErr-all c.from_residual-in_err-put-2.result _ (PutsTextPart-piece _ _ _ _ _ _ _ _ put.0 rest [] _ put.2 c.in_err-put-2.ensures.files c.in_err-put-2.ensures.calls
    (put.1 ∙ sym (append-nil (put.0 ++ rest))))

pub returns-clause-put : goal.returns-clause-put
returns-clause-put g c =
    let put = c.loop-rest.invariant.put in
    PutsText-same _ _ _ _ _ _ _ _ (sym put.1)
    (PutsText-piece _ _ _ _ _ _ _ _ _ put.0 c.loop-rest.rest.now put.2 c.in_ok-put-2.ensures.files c.in_ok-put-2.ensures.calls c.in_ok-put-2.ensures.kept)

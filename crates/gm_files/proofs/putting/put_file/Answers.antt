use Rattle.std.proofs.Common.{ℕ, [], ◌∷◌, ◌++◌, List, length, ap, ◌∙◌, rules, arith, append_assoc, append-nil, length-append}
use Rattle.std.specs.Slice.Iter.{chunks_rest}
use Rattle.std.proofs.lemmas.List.{nil_from_length}
use Rattle.std.proofs.lemmas.Result.{err_from_is_err_and}
use Rattle.gm_files.proofs.Gains.{Gained-write, GainedPart-write, GainedWhole-finish}
use Rattle.gm_files.proofs.Counting.{pieces_of-first}
use Rattle.gm_files.proofs.putting.put_file.Goals as goal

pub loop-piece-preserved : goal.loop-piece-preserved
loop-piece-preserved g c =
    let i = c.loop-piece.invariant in
    let steps = c.in-Some.ensures.steps in
    record {
      can_next = search rules;
      is_finite = tt;
      size = search rules;
      gained = (
        i.gained.0 ++ c.in-Some.piece.now,
        rw append_assoc (i.gained.1 ∙ ap (λ (rest : List ℕ). i.gained.0 ++ rest) steps.1.0),
        Gained-write _ _ _ _ _ _ i.gained.2 c.in_ok-write.ensures.files,
      );
      unfinished = search rules;
      pieces = omega (
        arith,
        i.pieces,
        length-append c.loop-piece.yielded (c.in-Some.piece ∷ []),
        pieces_of-first _ _ _ (ap length steps.1.0 ∙ length-append _ _) (rw i.size at steps.1.1) steps.1.2,
      );
      calls = omega (arith, c.in_ok-write.ensures.calls, length-append c.loop-piece.yielded (c.in-Some.piece ∷ []));
      no_fault = search rules;
    }

pub returns-in_err-write-clause-part : goal.returns-in_err-write-clause-part
returns-in_err-write-clause-part g c =
    let i = c.loop-piece.invariant in
    let p = err_from_is_err_and c.from_residual-in_err-write.result c.from_residual-in_err-write.ensures.1 in
    rw p.1 (GainedPart-write _ _ _ _ _ _ _ _ _ i.gained.1 c.in-Some.ensures.steps.1.0 i.gained.2 c.in_err-write.ensures.files)

pub returns-in_err-finish-clause-whole : goal.returns-in_err-finish-clause-whole
returns-in_err-finish-clause-whole g c =
    let i = c.loop-piece.invariant in
    let p = err_from_is_err_and c.from_residual-in_err-finish.result c.from_residual-in_err-finish.ensures.1 in
    let none = nil_from_length (chunks_rest c.loop-piece.piece-iterator) c.in-None.ensures.steps.1.0 in
    rw (p.1, i.gained.1, none, append-nil) (λ _. GainedWhole-finish _ _ _ _ i.gained.2 c.in_err-finish.ensures.files)

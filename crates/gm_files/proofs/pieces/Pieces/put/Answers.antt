use Rattle.std.proofs.Common.{◌<◌, ◌≤◌, ◌-◌, List, [], ℕ, ◌++◌, length, sym, ap, ◌∙◌, arith}
use Rattle.std.proofs.lemmas.List.{length-append}
use Rattle.std.proofs.lemmas.Result.{err_from_is_err_and}
use Rattle.gm_files.specs.declared.putting.WriteFault.{WriteFault}
use Rattle.gm_files.proofs.PieceLemmas.{Writes-none, full_pieces-short, last_piece-short, full_pieces-filled, last_piece-filled}
use Rattle.gm_files.proofs.pieces.Pieces.put.Given.{Over}
use Rattle.gm_files.proofs.pieces.Pieces.put.Goals as goal

-- the bytes are fewer than the piece still takes
short : (g : Over) (c : goal.After-unwrap g) → length (c.args.self.now ++ c.args.bytes.now) < 65536
short g c = omega (arith, length-append c.args.self.now c.args.bytes.now, ap length c.self.view_is, c.self.inside.kept.ok.0, c.len-room.ensures, c.self.invariant, c.if-bytes-room.true)

pub returns-then-bytes-room-clause-files : goal.returns-then-bytes-room-clause-files
returns-then-bytes-room-clause-files g c = Writes-none WriteFault _ _ (full_pieces-short _ (short g c))

pub returns-then-bytes-room-clause-kept : goal.returns-then-bytes-room-clause-kept
returns-then-bytes-room-clause-kept g c =
    let kept = rw c.unwrap.ensures at c.extend_from_slice.ensures.items in
    kept ∙ ap (λ (bytes : List ℕ). bytes ++ c.args.bytes.now) c.self.view_is ∙ sym (last_piece-short _ (short g c))

pub returns-in_err-written-clause-files : goal.returns-in_err-written-clause-files
returns-in_err-written-clause-files g c =
    let failed = err_from_is_err_and c.from_residual.result c.from_residual.ensures.1 in
    let kept = rw c.unwrap-2.ensures at c.extend_from_slice-2.ensures.items in
    let size = c.len-room.ensures ∙ c.self.inside.kept.ok.0 in
    let fits : 65536 - c.len-room.result ≤ length c.args.bytes.now = omega (arith, c.if-bytes-room.false) in
    let full = full_pieces-filled _ _ _ _ _ c.self.view_is size (omega (arith, c.len-room.ensures, c.self.invariant)) c.requires.fits fits _ (c.deref.ensures.value ∙ kept) c.split_at.ensures.front in
    rw (failed.1, full) c.in_err-written.ensures.files

pub returns-clause-files : goal.returns-clause-files
returns-clause-files g c =
    let kept = rw c.unwrap-2.ensures at c.extend_from_slice-2.ensures.items in
    let size = c.len-room.ensures ∙ c.self.inside.kept.ok.0 in
    let fits : 65536 - c.len-room.result ≤ length c.args.bytes.now = omega (arith, c.if-bytes-room.false) in
    let full = full_pieces-filled _ _ _ _ _ c.self.view_is size (omega (arith, c.len-room.ensures, c.self.invariant)) c.requires.fits fits _ (c.deref.ensures.value ∙ kept) c.split_at.ensures.front in
    rw full c.in_ok-written.ensures.files

pub returns-clause-kept : goal.returns-clause-kept
returns-clause-kept g c =
    let kept = rw (c.unwrap-3.ensures, c.clear.ensures.items) at c.extend_from_slice-3.ensures.items in
    let size = c.len-room.ensures ∙ c.self.inside.kept.ok.0 in
    let fits : 65536 - c.len-room.result ≤ length c.args.bytes.now = omega (arith, c.if-bytes-room.false) in
    kept ∙ sym (last_piece-filled _ _ _ [] _ c.self.view_is size (omega (arith, c.len-room.ensures, c.self.invariant)) c.requires.fits fits _ c.split_at.ensures.back)

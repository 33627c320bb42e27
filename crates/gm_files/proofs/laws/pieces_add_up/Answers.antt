use Rattle.gm_files.proofs.PieceLemmas.{full_pieces-append, last_piece-append, full_count-append}
use Rattle.gm_files.proofs.laws.pieces_add_up.Goals as goal

pub returns : goal.returns
returns c = λ text bytes. record { full = full_pieces-append text bytes; last = last_piece-append text bytes; count = full_count-append text bytes }

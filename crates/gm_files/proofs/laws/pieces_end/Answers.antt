use Rattle.std.proofs.Common.{arith}
use Rattle.gm_files.proofs.PieceLemmas.{full_pieces-last_piece, length-full_pieces, length-last_piece, pieces_of-last_piece}
use Rattle.gm_files.proofs.laws.pieces_end.Goals as goal

pub returns : goal.returns
returns c = λ text. record {
  text_is = full_pieces-last_piece text;
  full = length-full_pieces text;
  last = omega (arith, length-last_piece text);
  count = pieces_of-last_piece text;
}

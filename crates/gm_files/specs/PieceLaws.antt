-- Laws of the pieces of a text that comes part by part.
--   PiecesAddUp    the pieces of a text and of bytes after it are those of both
--   PiecesEnd      the full pieces and the last one are the text, in as many pieces as it has, and of their sizes
use Rattle.std.specs.Prelude.{◌≡◌, ◌<◌, ℕ, ◌+◌, ◌*◌, List, ◌++◌, length}
use Rattle.gm_files.specs.Calls.{piece_most, full_count, pieces_of}
use Rattle.gm_files.specs.Pieces.{full_pieces, last_piece}

-- bytes after a text: the full pieces go on, the same bytes are left, and no piece is counted twice
pub record PiecesAddUp (text bytes : List ℕ) : Type 0 where
  pub full : full_pieces text ++ full_pieces (last_piece text ++ bytes) ≡ full_pieces (text ++ bytes)
  pub last : last_piece (last_piece text ++ bytes) ≡ last_piece (text ++ bytes)
  pub count : full_count (length text) + full_count (length (last_piece text) + length bytes) ≡ full_count (length (text ++ bytes))

-- the full pieces, of `piece_most` bytes each, and the last one, of fewer, are the text, in as many pieces as it has
pub record PiecesEnd (text : List ℕ) : Type 0 where
  pub text_is : full_pieces text ++ last_piece text ≡ text
  pub full : length (full_pieces text) ≡ piece_most * full_count (length text)
  pub last : length (last_piece text) < piece_most
  pub count : full_count (length text) + pieces_of (length (last_piece text)) ≡ pieces_of (length text)

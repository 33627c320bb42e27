-- A text that is put into a file part by part, and is written in pieces of `piece_most` bytes and a last shorter one.
--   full_pieces text      the bytes of its full pieces, which are written while the text still grows
--   last_piece text       the bytes after them, which are kept until the text ends
use Rattle.std.specs.Prelude.{ℕ, ◌*◌, List, length, take, drop}
use Rattle.gm_files.specs.Calls.{piece_most, full_count}

-- the bytes up to the last whole multiple of `piece_most`
unfoldable pub full_pieces : List ℕ → List ℕ
full_pieces text = take (piece_most * full_count (length text)) text

-- the bytes after those
unfoldable pub last_piece : List ℕ → List ℕ
last_piece text = drop (piece_most * full_count (length text)) text

-- How many calls of a folder it takes to put files into it.
--   piece_most            the most bytes of a piece
--   full_count n          the full pieces among those that n bytes are written in
--   pieces_of n           the pieces that n bytes are written in
--   file_calls n          the calls for one file of n bytes
--   all_calls files       the calls for all of these files
use Rattle.std.specs.Prelude.{ℕ, ◌+◌, ◌-◌, ◌/◌, length, sum_by}
use Rattle.gm_io.specs.FileList.{FileList}

-- the most bytes of a piece
abbrev pub piece_most : ℕ
piece_most = 65536

-- one piece for each whole `piece_most` bytes
abbrev pub full_count : ℕ → ℕ
full_count n = n / piece_most

-- one piece for each started `piece_most` bytes
abbrev pub pieces_of : ℕ → ℕ
pieces_of n = (n + (piece_most - 1)) / piece_most

-- one create, one write for each piece, and one finish
abbrev pub file_calls : ℕ → ℕ
file_calls n = 2 + pieces_of n

-- the sum over the files
abbrev pub all_calls : FileList → ℕ
all_calls files = sum_by (λ file. file_calls (length file.1)) files

-- Names of labels and types.
use Rattle.std.specs.Prelude.{ℕ, Bool, ◌||◌, ◌&&◌, ◌==◌, nat_le, List, length, slice_index, IsTrue}
use Rattle.std.specs.List.{list_all}
use Rattle.std.specs.Char.{is_ascii_alphabetic, is_ascii_alphanumeric}

-- the most bytes of a name
abbrev pub name_most : ℕ
name_most = 32

-- a byte that may stand in a name: an ASCII letter, a digit or `_`
abbrev pub is_name_byte : ℕ → Bool
is_name_byte byte = is_ascii_alphanumeric byte || (byte == 95)

-- a name: a letter, then letters, digits or `_`, at most 32 bytes in all
abbrev pub is_name : List ℕ → Bool
is_name bytes = nat_le (length bytes) name_most && is_ascii_alphabetic (slice_index bytes 0) && list_all is_name_byte bytes

-- the bytes are a name
abbrev pub IsName : List ℕ → Type 0
IsName bytes = IsTrue (is_name bytes)

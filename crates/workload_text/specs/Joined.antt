-- The bytes of symbols that are joined by `.` or `+`, each by the two before it.
--   is_joint byte              `.` or `+`
--   starts_number byte         a number may start after it
--   fits second before byte    a byte may stand after two others
--   all_fit second before bytes   so may each of the bytes, and the last is a digit
use Rattle.std.specs.Prelude.{ℕ, ◌==◌, Bool, not, ◌&&◌, ◌||◌, List, [], ◌∷◌}
use Rattle.std.specs.Char.{is_ascii_digit}

-- the byte of `.` or `+`
abbrev pub is_joint : ℕ → Bool
is_joint byte = (byte == 46) || (byte == 43)

-- `.`, `+` or `^`
abbrev pub starts_number : ℕ → Bool
starts_number byte = is_joint byte || (byte == 94)

-- a digit where a number starts or goes on, which it doesn't after a first `0`; `^` where a symbol starts; or `.` or `+` after a digit
abbrev pub fits : ℕ → ℕ → ℕ → Bool
fits second before byte =
    (is_ascii_digit byte && (starts_number before || (is_ascii_digit before && not ((before == 48) && starts_number second))))
    || ((byte == 94) && is_joint before) || (is_joint byte && is_ascii_digit before)

-- each byte fits, and a digit is the last
abbrev pub all_fit : ℕ → ℕ → List ℕ → Bool
all_fit second before [] = is_ascii_digit before
all_fit second before (byte ∷ bytes) = fits second before byte && all_fit before byte bytes

-- Decimals of numbers: what std's `decimal` writes, and how it is read.
--   is_canonical word       a word that is `0`, or digits that don't begin with `0`
--   IsCanonical word        the same, as a fact
--   IfValue answer P        the fact P of the value in an answer, where it has one
--   WrittenIsCanonical      a law: what is written of a number is canonical
--   CanonicalIsWritten      a law: a canonical word is what is written of its value
use Rattle.std.specs.Prelude.{◌≡◌, ℕ, ◌^◌, ◌<◌, decimal, Bool, not, ◌||◌, ◌&&◌, ◌==◌, nat_lt, List, length, slice_index, IsTrue, ⊤}
use Rattle.std.specs.List.{list_all}
use Rattle.std.specs.Char.{is_ascii_digit}
use Rattle.std.specs.Str.Parse.{digits_value}
use Rattle.gm_text.specs.declared.decimals.Decimal.{Decimal}
use Rattle.gm_text.specs.declared.decimals.Decimal.TheVariants.{No, Value, Big}

-- digits, at least one, and where the first is `0` (byte 48) no other
abbrev pub is_canonical : List ℕ → Bool
is_canonical word = nat_lt 0 (length word) && (not (slice_index word 0 == 48) || (length word == 1)) && list_all is_ascii_digit word

-- the word passes that test
abbrev pub IsCanonical : List ℕ → Type 0
IsCanonical word = IsTrue (is_canonical word)

-- the fact holds of the value that was read, if one was
abbrev pub IfValue : Decimal → (ℕ → Type 0) → Type 0
IfValue No P = ⊤
IfValue (Value n) P = P n
IfValue Big P = ⊤

-- the decimal of a number is canonical, and its digits have the number as their value
abbrev pub WrittenIsCanonical : Type 0
WrittenIsCanonical = (n : ℕ) → n < 2 ^ 64 → IsCanonical (decimal n) × (digits_value 10 (decimal n) ≡ n)

-- a canonical word is the decimal of the value of its digits
abbrev pub CanonicalIsWritten : Type 0
CanonicalIsWritten = (word : List ℕ) → IsCanonical word → digits_value 10 word < 2 ^ 64 → word ≡ decimal (digits_value 10 word)

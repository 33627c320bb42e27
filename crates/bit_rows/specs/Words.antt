-- Sets of numbers as words of 32 bits.
--   has_bit words n      whether bit n is set: bit n % 32 of word n / 32
--   set_of words         the set of the numbers whose bits are set
--   IsNextBit words n p  p is the place of the lowest bit that is set from n on, or there is none
use Rattle.std.specs.Prelude.{◌≡◌, ℕ, ◌*◌, ◌/◌, ◌%◌, ◌<◌, ◌≤◌, ◌==◌, Bool, true, false, Option, List, length, filter, slice_index_or, MatchOption}
use Rattle.std.specs.Int.{bit_at}
use Rattle.std.specs.List.{range_with_len}
use Rattle.std.specs.FinSet as set
use Rattle.bit_rows.specs.Sets.{NumberSet}

-- whether bit n is set: bit n % 32 of word n / 32
abbrev pub has_bit : List ℕ → ℕ → Bool
has_bit words n = bit_at (slice_index_or words (n / 32) 0) (n % 32) == 1

-- the set of the numbers whose bits are set
unfoldable pub set_of : List ℕ → NumberSet
set_of words = set.from_list (filter (has_bit words) (range_with_len 0 (32 * length words)))

-- no bit from n up to m is set
abbrev pub NoBits : List ℕ → ℕ → ℕ → Type 0
NoBits words n m = (k : ℕ) → n ≤ k → k < m → has_bit words k ≡ false

-- p is the place of the lowest bit that is set from n on
pub record IsLowestBit (words : List ℕ) (n p : ℕ) : Type 0 where
  pub from : n ≤ p
  pub here : has_bit words p ≡ true
  pub before : NoBits words n p

-- the place of the lowest bit that is set from n on, or none where there is none
abbrev pub IsNextBit : List ℕ → ℕ → Option ℕ → Type 0
IsNextBit words n next = MatchOption next ((m : ℕ) → NoBits words n m) (IsLowestBit words n)

-- some bit is set in both
abbrev pub MeetBits : List ℕ → List ℕ → Type 0
MeetBits words others = (k : ℕ) × (has_bit words k ≡ true) × (has_bit others k ≡ true)

-- t is the place of the lowest 1 of a word
pub record IsLowestPlace (word t : ℕ) : Type 0 where
  pub inside : t < 32
  pub here : bit_at word t ≡ 1
  pub below : (i : ℕ) → i < t → bit_at word i ≡ 0

-- the place of the lowest 1 of a word, or none where the word is 0
abbrev pub IsLowestOne : ℕ → Option ℕ → Type 0
IsLowestOne word place = MatchOption place (word ≡ 0) (IsLowestPlace word)

-- What a random word picks from a list of candidates.
--   candidates_most        the most candidates
--   picked w xs            the candidate that a word picks
--   numbers_that test n    the numbers below n that pass a test
--   or_others xs ys        a list, or where it is empty another
use Rattle.std.specs.Prelude.{ℕ, Bool, Option, List, [], ◌∷◌, length}
use Rattle.std.specs.List.{slice_get, filter, range_with_len}
use Rattle.seeded_draw.specs.Draw.{pick_of}

-- the most candidates
abbrev pub candidates_most : ℕ
candidates_most = 256

-- the candidate at the place that the word picks of all places
abbrev pub picked : {X : Type 0} → ℕ → List X → Option X
picked w xs = slice_get xs (pick_of w (length xs))

-- the numbers below n that pass the test
abbrev pub numbers_that : (ℕ → Bool) → ℕ → List ℕ
numbers_that test n = filter test (range_with_len 0 n)

-- the list, or where it is empty the others
abbrev pub or_others : {X : Type 0} → List X → List X → List X
or_others [] ys = ys
or_others (x ∷ xs) ys = x ∷ xs

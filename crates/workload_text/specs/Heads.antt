-- The heads of rules as they are read.
--   heads_of words      the variables of words
--   ends_of c           the two ends of a conjunct
--   occur ends heads    each head stands at an end of one of the conjuncts, of which these are the ends
use Rattle.std.specs.Prelude.{ℕ, ◌==◌, Bool, ◌||◌, List, map, drop}
use Rattle.std.specs.List.{list_all, list_any}
use Rattle.query_terms.specs.Values.{ConjunctValue}
use Rattle.workload_text.specs.Sofar.{number}

-- the numbers after the `x`
abbrev pub heads_of : List (List ℕ) → List ℕ
heads_of words = map number (map (drop 1) words)

-- the two ends of a conjunct
abbrev pub ends_of : ConjunctValue → ℕ × ℕ
ends_of c = (c.src, c.trg)

-- the variable is one of the two
abbrev pub is_end_of : ℕ → ℕ × ℕ → Bool
is_end_of v ends = (ends.0 == v) || (ends.1 == v)

-- the variable is an end of one of the conjuncts
abbrev pub is_end : List (ℕ × ℕ) → ℕ → Bool
is_end ends v = list_any (is_end_of v) ends

-- each head is an end of one of the conjuncts
abbrev pub occur : List (ℕ × ℕ) → List ℕ → Bool
occur ends heads = list_all (is_end ends) heads

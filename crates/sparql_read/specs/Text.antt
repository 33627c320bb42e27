-- What a SPARQL text asks, and how deep its parentheses nest.
--   IsSparql bytes asked    the bytes are a text of the subset, and this is what it asks
--   HasNoReading bytes      they are none
--   deepest bytes           how deep parentheses nest, counted over all bytes
--   ReadingIsOne            a law: no text asks two things
use Rattle.std.specs.Prelude.{◌≡◌, ℕ, Bool, true, ◌||◌, ◌&&◌, ◌==◌, ◌+◌, ◌-◌, max, not, nat_le, if◌then◌else◌, IsTrue, List, [], ◌∷◌, length, bytes_eq}
use Rattle.std.specs.List.{list_all, list_any}
use Rattle.token_text.specs.Tokens.{HasTokens}
use Rattle.sparql_read.specs.Tokens.{Token, Predicate, first}
use Rattle.sparql_read.specs.Grammar.{Pattern, Asked, IsText}

-- the most variables that a text selects
abbrev pub heads_most : ℕ
heads_most = 4

-- a variable is one of the pattern's two
abbrev pub is_end_of : List ℕ → Pattern → Bool
is_end_of x p = bytes_eq x p.subject || bytes_eq x p.object

-- a variable is in a group
abbrev pub occurs_in : List ℕ → List Pattern → Bool
occurs_in x ps = list_any (is_end_of x) ps

-- no two of the variables are one
abbrev pub are_different : List (List ℕ) → Bool
are_different [] = true
are_different (x ∷ xs) = not (list_any (bytes_eq x) xs) && are_different xs

-- each of the variables is in the group
abbrev pub has_all : List (List ℕ) → List Pattern → Bool
has_all xs ps = list_all (λ x. occurs_in x ps) xs

-- at most four selected variables, which differ, and every group has each
abbrev pub holds : Asked → Bool
holds asked =
    nat_le (length asked.heads) heads_most && are_different asked.heads && list_all (has_all asked.heads) asked.groups

-- a predicate has this mark
abbrev pub has_mark : List ℕ → Token → Bool
has_mark mark (Predicate own name) = bytes_eq own mark
has_mark mark token = true

-- the bytes have tokens that are a text, each of its predicates has its mark, and what it asks holds
pub record IsSparql (bytes : List ℕ) (asked : Asked) : Type 0 where
  pub tokens : List Token
  pub mark : List ℕ
  pub cut : HasTokens first bytes tokens
  pub text : IsText tokens mark asked
  pub marked : IsTrue (list_all (has_mark mark) tokens)
  pub holds : IsTrue (holds asked)

-- the bytes are no text of the subset
abbrev pub HasNoReading : List ℕ → Type 0
HasNoReading bytes = (asked : Asked) → IsSparql bytes asked → ⊥

-- no text asks two things
abbrev pub ReadingIsOne : Type 0
ReadingIsOne = (bytes : List ℕ) (one other : Asked) → IsSparql bytes one → IsSparql bytes other → one ≡ other

-- the depth of parentheses behind a byte
abbrev pub depth_behind : ℕ → ℕ → ℕ
depth_behind depth b = if b == 40 then depth + 1 else if b == 41 then depth - 1 else depth

-- the greatest depth from a depth on
abbrev pub deepest_from : ℕ → List ℕ → ℕ
deepest_from depth [] = depth
deepest_from depth (b ∷ bs) = max depth (deepest_from (depth_behind depth b) bs)

-- the greatest depth, over all bytes, also those of comments and IRIs
abbrev pub deepest : List ℕ → ℕ
deepest bytes = deepest_from 0 bytes

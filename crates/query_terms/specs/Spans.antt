-- Parts of lists, and words that are kept once each.
--   cut xs span                the items of a part
--   lies n span                the part lies in a list of n items
--   covers from spans to       the parts stand one after the other between two places
--   same_symbol, same_word     the symbols, and the words, are the same
--   distinct words             the words, each where it is first
--   joined words               the words one after the other
--   first_of kept word         how many symbols stand before a word
--   span_in kept word          where a word stands
use Rattle.std.specs.Prelude.{ℕ, ◌+◌, Bool, ◌==◌, ◌&&◌, if◌then◌else◌, nat_le, List, [], ◌∷◌, ◌++◌, length, take, drop, fold}
use Rattle.std.specs.List.{flat_map, list_any}
use Rattle.std.specs.Cmp.Lexicographic.{pointwise}
use Rattle.gm_text.specs.declared.lists.Span.{Span}
use Rattle.sel_algebra.specs.declared.vocabulary.Symbol.{Symbol}
use Rattle.query_terms.specs.Store.{same_bool}

-- as many items as the part has, from its first on
abbrev pub cut : {X : Type 0} → List X → Span → List X
cut xs span = take span.count (drop span.first xs)

-- the part ends at the end of a list of n items, or before
abbrev pub lies : ℕ → Span → Bool
lies n span = nat_le (span.first + span.count) n

-- the first part begins at a place, each other one where the part before it ends, and the last ends at a place
abbrev pub covers : ℕ → List Span → ℕ → Bool
covers from [] to = from == to
covers from (span ∷ spans) to = (span.first == from) && covers (from + span.count) spans to

-- the same edge in the same direction
abbrev pub same_symbol : Symbol → Symbol → Bool
same_symbol s t = (s.edge == t.edge) && same_bool s.back t.back

-- the same symbols in the same order
abbrev pub same_word : List Symbol → List Symbol → Bool
same_word = pointwise same_symbol

-- a word is added where it isn't there
abbrev pub with_word : List (List Symbol) → List Symbol → List (List Symbol)
with_word kept word = if list_any (same_word word) kept then kept else kept ++ word ∷ []

-- each word once, in the order in which the words come first
abbrev pub distinct : List (List Symbol) → List (List Symbol)
distinct words = fold with_word [] words

-- the symbols of the words, one word after the other
abbrev pub joined : List (List Symbol) → List Symbol
joined words = flat_map (λ word. word) words

-- the number of the symbols of the words that stand before a word
abbrev pub first_of : List (List Symbol) → List Symbol → ℕ
first_of [] word = 0
first_of (w ∷ kept) word = if same_word word w then 0 else length w + first_of kept word

-- the part of the joined words that a word is
abbrev pub span_in : List (List Symbol) → List Symbol → Span
span_in kept word = record { first = first_of kept word; count = length word }

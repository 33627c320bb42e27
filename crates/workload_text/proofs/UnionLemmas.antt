-- Words of a conjunct that are taken one by one.
use Rattle.std.proofs.Common.{◌≡◌, ℕ, ◌+◌, ◌<◌, ◌≤◌, Bool, true, false, ◌&&◌, nat_le, List, [], ◌∷◌, ◌++◌, length, map, refl, sym, ap, ◌∙◌, arith}
use Rattle.std.specs.List.{list_all}
use Rattle.std.proofs.lemmas.Bool.Decides.{nat_tests}
use Rattle.std.specs.List.{slice_split}
use Rattle.gm_text.specs.Lines.{is_byte}
use Rattle.query_terms.specs.Building.{Building}
use Rattle.workload_text.specs.Forms.{read_symbol, read_path, read_union}
use Rattle.workload_text.specs.Sofar.{symbol_of}
use Rattle.std.proofs.lemmas.List.Splits.{length-slice_split}
use Rattle.std.proofs.lemmas.List.{append_assoc, append-nil, length-append, length-map}
use Rattle.std.proofs.lemmas.List.Folds.{list_all-append}
use Rattle.sel_algebra.specs.declared.vocabulary.Symbol.{Symbol}
use Rattle.schema_graph.specs.declared.edge.SchemaEdge.{SchemaEdge}
use Rattle.workload_text.specs.Values.{have_same_ends, has_ends, word_start, word_end, is_short_word}
use Rattle.workload_text.specs.Union.{word_of, union_of, put_word, first_ends, agree, first_with}

-- an item more of the list
pub one_more : {X : Type 0} (xs rest : List X) (x : X) (all : List X) → all ≡ xs ++ x ∷ rest → all ≡ (xs ++ x ∷ []) ++ rest
one_more xs rest x all whole = whole ∙ sym (append_assoc xs (x ∷ []) rest)

module _ {X : Type 0} (p : X → Bool) (xs rest : List X) (x : X) where
  -- an item that fails the test makes the list fail
  pub list_all-fails : (all : List X) → all ≡ xs ++ x ∷ rest → p x ≡ false → list_all p all ≡ false
  list_all-fails all whole fails = ap (list_all p) whole ∙ list_all-append p xs (x ∷ rest) ∙ fail (list_all p xs) (p x) (list_all p rest) fails
    where
      fail : (a b c : Bool) → b ≡ false → (a && (b && c)) ≡ false
      fail a b c fails = grind arith

  -- an item after as many as there may be makes it too long
  pub too_long : (most : ℕ) (all : List X) → all ≡ xs ++ x ∷ rest → most ≤ length xs → nat_le (length all) most ≡ false
  too_long most all whole full =
      let count : length all ≡ length xs + (length rest + 1) = ap length whole ∙ length-append xs (x ∷ rest) ∙ omega arith in
      grind (arith, nat_tests)

  -- all items pass, with one more that does
  pub list_all-more : list_all p xs ≡ true → p x ≡ true → list_all p (xs ++ x ∷ []) ≡ true
  list_all-more all one = list_all-append p xs (x ∷ []) ∙ both (list_all p xs) (p x) all one
    where
      both : (a b : Bool) → a ≡ true → b ≡ true → (a && (b && true)) ≡ true
      both a b = λ ha hb. grind arith

-- words with the same ends, and one more
pub have_same_ends-more : (edges : List SchemaEdge) (words : List (List Symbol)) (word : List Symbol)
    → have_same_ends edges (words ++ word ∷ []) ≡ (have_same_ends edges words && agree (first_ends edges words) (word_start edges word) (word_end edges word))
have_same_ends-more edges [] word = refl
have_same_ends-more edges (w ∷ words) word =
    list_all-append (has_ends edges (word_start edges w) (word_end edges w)) words (word ∷ [])
    ∙ last (list_all (has_ends edges (word_start edges w) (word_end edges w)) words) (has_ends edges (word_start edges w) (word_end edges w) word)
  where
    last : (a b : Bool) → (a && (b && true)) ≡ (a && b)
    last a b = grind arith

pub first_ends-more : (edges : List SchemaEdge) (words : List (List Symbol)) (word : List Symbol)
    → first_ends edges (words ++ word ∷ []) ≡ first_with (first_ends edges words) (word_start edges word) (word_end edges word)
first_ends-more edges [] word = refl
first_ends-more edges (w ∷ words) word = refl

-- all of a list is in the first part, where nothing is left
pub some_before : {X : Type 0} (all xs rest : List X) → all ≡ xs ++ rest → rest ≡ [] → 0 < length all → 0 < length xs
some_before all xs rest whole none some =
    let same : length all ≡ length xs = ap length (whole ∙ ap (λ ys. xs ++ ys) none ∙ append-nil xs) in
    omega (arith, same, some)

-- a word has a symbol, and a conjunct a word
pub word_of-some : (bytes : List ℕ) → 0 < length (word_of bytes)
word_of-some bytes =
    let symbols : length (word_of bytes) ≡ length (read_path bytes) = length-map (read_path bytes) symbol_of in
    let parts : length (read_path bytes) ≡ length (slice_split (is_byte 46) bytes) = length-map (slice_split (is_byte 46) bytes) read_symbol in
    omega (arith, symbols, parts, length-slice_split (is_byte 46) bytes)

pub union_of-some : (bytes : List ℕ) → 0 < length (union_of bytes)
union_of-some bytes =
    let words : length (union_of bytes) ≡ length (read_union bytes) = length-map (read_union bytes) (map symbol_of) in
    let parts : length (read_union bytes) ≡ length (slice_split (is_byte 43) bytes) = length-map (slice_split (is_byte 43) bytes) read_path in
    omega (arith, words, parts, length-slice_split (is_byte 43) bytes)

-- a short word has few symbols
pub short_word-length : (edges : ℕ) (word : List Symbol) → is_short_word edges word ≡ true → length word ≤ 32
short_word-length edges word short = grind (arith, nat_tests)

-- the items after the first pass
pub list_all-rest : {X : Type 0} (p : X → Bool) (all rest : List X) (x : X) → all ≡ x ∷ rest → list_all p all ≡ true → list_all p rest ≡ true
list_all-rest p all rest x whole pass = second (p x) (list_all p rest) (sym (ap (list_all p) whole) ∙ pass)
  where
    second : (a b : Bool) → (a && b) ≡ true → b ≡ true
    second a b both = grind arith

-- the builder with one word more
pub put_builder : (a b c : Building) (word : List Symbol) → b ≡ record a { words = b.words; taken = b.taken } → a.word ≡ [] → c ≡ put_word b word
    → c ≡ record a { words = c.words; taken = c.taken }
put_builder a b c word same none put = λ i. record {
  labels = (ap (λ x. x.labels) put ∙ ap (λ x. x.labels) same) i;
  rules = (ap (λ x. x.rules) put ∙ ap (λ x. x.rules) same) i;
  conjuncts = (ap (λ x. x.conjuncts) put ∙ ap (λ x. x.conjuncts) same) i;
  words = c.words;
  word = (ap (λ x. x.word) put ∙ sym none) i;
  taken = c.taken;
  refused = (ap (λ x. x.refused) put ∙ ap (λ x. x.refused) same) i;
}

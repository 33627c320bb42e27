-- What the bytes of a line are read as.
use Rattle.std.proofs.Common.{◌≡◌, ℕ, suc, ◌+◌, ◌-◌, ◌<◌, ◌≤◌, Bool, true, false, not, ◌&&◌, ◌||◌, ◌==◌, if◌then◌else◌, codes, Option, Some, None, List, [], ◌∷◌, ◌++◌, length, map, drop, take, get_or, All, inl, inr, ◌⊎◌, refl, sym, ap, subst, ◌∙◌, arith, true≢false}
use Rattle.std.specs.Prelude.{IfSome, ⊤, option_map, option_and_then, nat_lt, nat_le, slice_index}
use Rattle.std.specs.List.{list_all, slice_split, join_with_byte, between}
use Rattle.std.specs.Char.{is_ascii_digit}
use Rattle.std.proofs.lemmas.Option.{IfSome_then}
use Rattle.std.proofs.lemmas.Bool.{and_parts, ne_eqb, eqb-true}
use Rattle.std.specs.Str.{bytes_eq}
use Rattle.std.proofs.lemmas.Bool.Decides.{nat_tests}
use Rattle.std.proofs.lemmas.Slice.Eq.{bytes_eq-Decides}
use Rattle.std.proofs.lemmas.List.{append_assoc, length-append, length-map, take_at, drop_more, drop_all, take-append-drop}
use Rattle.std.proofs.lemmas.List.Folds.{list_all-append}
use Rattle.std.proofs.Math.Seq.{get_or-append_seam}
use Rattle.std.proofs.lemmas.List.Recursion.{and_at}
use Rattle.std.proofs.lemmas.List.Splits.{slice_split_at, slice_split_none, length-slice_split, join_with_byte-slice_split}
use Rattle.gm_text.specs.Name.{is_name, is_name_byte}
use Rattle.gm_text.specs.Decimal.{is_canonical}
use Rattle.gm_text.specs.Lines.{is_byte, words_of}
use Rattle.query_terms.proofs.SpanLemmas.{and_true, list_all_more}
use Rattle.sel_algebra.specs.declared.vocabulary.Op.{Op}
use Rattle.sel_algebra.specs.declared.vocabulary.Op.TheVariants.{Equal, Less, Greater, Diamond, Cross}
use Rattle.sel_algebra.specs.declared.vocabulary.Kind.{Kind}
use Rattle.sel_algebra.specs.declared.vocabulary.Kind.TheVariants.{Fixed, Growing}
use Rattle.sel_algebra.specs.declared.vocabulary.Class.{Class}
use Rattle.sel_algebra.specs.declared.vocabulary.Class.TheVariants.{Constant, Linear, Quadratic}
use Rattle.sel_algebra.specs.declared.vocabulary.Shape.{Shape}
use Rattle.sel_algebra.specs.declared.vocabulary.Shape.TheVariants.{Chain, Star, Cycle, StarChain}
use Rattle.workload_text.specs.Lines.{WrittenSymbol, Asked, WorkLine, format_word, kind_word, op_word, shape_word, class_or_none, variable_word, symbol_word, path_word, union_word, expr_word, line_words, line_bytes, is_symbol, is_path, is_union, is_format, is_line, has_heads_of, has_classes_of}
use Rattle.workload_text.specs.Lines.WorkLine.{FirstLine, LabelLine, TypeLine, EdgeLine, QueryLine, RuleLine, ConjunctLine, EndLine}
use Rattle.workload_text.specs.Forms.{is_against, format_of_word, kind_of_word, op_of_word, shape_of_word, class_of_word, is_variable, read_symbol, read_path, read_union, is_symbol_word, is_path_word, is_union_word, is_starred_word, within_star, line_of_words, line_of, begins_with_x, sort_of, one_word, two_words, four_words, label_line, type_line, edge_line, are_numbers, asked_of_words, query_line, query_with, are_conjunct_words, conjunct_line, line_of_sort, LinesAreRead}
use Rattle.workload_text.specs.declared.sorts.Sort.{Sort}
use Rattle.workload_text.specs.declared.sorts.Sort.TheVariants.{First, Label, NodeType, Edge, Query, Rule, Conjunct, End}

-- ---- what was joined is cut again

pub Lacks-from : (p : ℕ → Bool) (b : ℕ) → p b ≡ false → (xs : List ℕ) → list_all p xs ≡ true → All (λ x. is_byte b x ≡ false) xs
Lacks-from p b fails xs all k d in_range =
    let passes : p (get_or xs k d) ≡ true = and_at (list_all p) p refl (λ _ _. refl) xs k d in_range all in
    ne_eqb (get_or xs k d) b (λ same. true≢false (sym passes ∙ ap p same ∙ fails))

split-join : (p : ℕ → Bool) (b : ℕ) → p b ≡ false → (words : List (List ℕ)) → 0 < length words → list_all (list_all p) words ≡ true
    → slice_split (is_byte b) (join_with_byte b words) ≡ words
split-join p b fails [] some all = absurd (omega arith)
split-join p b fails (w ∷ []) some all = slice_split_none (is_byte b) w (Lacks-from p b fails w (and_parts _ _ all).0)
split-join p b fails (w ∷ v ∷ words) some all =
    slice_split_at (is_byte b) w b (join_with_byte b (v ∷ words)) (Lacks-from p b fails w (and_parts _ _ all).0) (grind (arith, nat_tests))
    ∙ ap (λ ws. w ∷ ws) (split-join p b fails (v ∷ words) (omega arith) (and_parts _ _ all).1)

-- bytes of joined words
pub list_all-join : (p : ℕ → Bool) (b : ℕ) → p b ≡ true → (words : List (List ℕ)) → list_all (list_all p) words ≡ true → list_all p (join_with_byte b words) ≡ true
list_all-join p b passes [] all = refl
list_all-join p b passes (w ∷ []) all = (and_parts _ _ all).0
list_all-join p b passes (w ∷ v ∷ words) all =
    list_all-append p w (b ∷ join_with_byte b (v ∷ words))
    ∙ and_true (and_parts _ _ all).0 (and_true passes (list_all-join p b passes (v ∷ words) (and_parts _ _ all).1))

pub list_all-map : {X Y : Type 0} (p : Y → Bool) (q : X → Bool) (f : X → Y) → ((x : X) → q x ≡ true → p (f x) ≡ true) → (xs : List X) → list_all q xs ≡ true
    → list_all p (map f xs) ≡ true
list_all-map p q f each [] all = refl
list_all-map p q f each (x ∷ xs) all = and_true (each x (and_parts _ _ all).0) (list_all-map p q f each xs (and_parts _ _ all).1)

pub map-back : {X Y : Type 0} (q : X → Bool) (f : X → Y) (g : Y → X) → ((x : X) → q x ≡ true → g (f x) ≡ x) → (xs : List X) → list_all q xs ≡ true → map g (map f xs) ≡ xs
map-back q f g each [] all = refl
map-back q f g each (x ∷ xs) all = λ i. each x (and_parts _ _ all).0 i ∷ map-back q f g each xs (and_parts _ _ all).1 i

-- ---- the bytes of words

abbrev is_path_byte : ℕ → Bool
is_path_byte x = is_ascii_digit x || (x == 94)

abbrev is_union_byte : ℕ → Bool
is_union_byte x = is_path_byte x || (x == 46)

abbrev is_expr_byte : ℕ → Bool
is_expr_byte x = is_union_byte x || (x == 43)

-- neither a space nor an LF
abbrev pub is_word_byte : ℕ → Bool
is_word_byte x = not (x == 32) && not (x == 10)

digit-path : (x : ℕ) → is_ascii_digit x ≡ true → is_path_byte x ≡ true
digit-path x is = rw is refl

path-union : (x : ℕ) → is_path_byte x ≡ true → is_union_byte x ≡ true
path-union x is = rw is refl

union-expr : (x : ℕ) → is_union_byte x ≡ true → is_expr_byte x ≡ true
union-expr x is = rw is refl

-- a test that fails of a space and of LF passes of no byte that isn't of a word
word_byte-from : (p : ℕ → Bool) → p 32 ≡ false → p 10 ≡ false → (x : ℕ) → p x ≡ true → is_word_byte x ≡ true
word_byte-from p not_space not_end x passes =
    let space : (x == 32) ≡ false = ne_eqb x 32 (λ same. true≢false (sym passes ∙ ap p same ∙ not_space)) in
    let ending : (x == 10) ≡ false = ne_eqb x 10 (λ same. true≢false (sym passes ∙ ap p same ∙ not_end)) in
    rw (space, ending) refl

canonical-digits : (word : List ℕ) → is_canonical word ≡ true → list_all is_ascii_digit word ≡ true
canonical-digits word is = grind (arith, nat_tests)

pub canonical-some : (word : List ℕ) → is_canonical word ≡ true → 0 < length word
canonical-some word is = grind (arith, nat_tests)

-- ---- the words of a conjunct

symbol-bytes : (s : WrittenSymbol) → is_symbol s ≡ true → list_all is_path_byte (symbol_word s) ≡ true
symbol-bytes s is = by s.back
  where
    digits : list_all is_path_byte s.number ≡ true
    digits = list_all_more is_ascii_digit is_path_byte s.number digit-path (canonical-digits s.number is)

    by : (back : Bool) → list_all is_path_byte (symbol_word (record { back = back; number = s.number })) ≡ true
    by true = digits
    by false = digits

path-bytes : (w : List WrittenSymbol) → is_path w ≡ true → list_all is_union_byte (path_word w) ≡ true
path-bytes w is =
    list_all-join is_union_byte 46 refl (map symbol_word w)
    (list_all-map (list_all is_union_byte) is_symbol symbol_word (λ s ok. list_all_more is_path_byte is_union_byte (symbol_word s) path-union (symbol-bytes s ok))
    w (and_parts (nat_lt 0 (length w)) _ is).1)

union-bytes : (ws : List (List WrittenSymbol)) → is_union ws ≡ true → list_all is_expr_byte (union_word ws) ≡ true
union-bytes ws is =
    list_all-join is_expr_byte 43 refl (map path_word ws)
    (list_all-map (list_all is_expr_byte) is_path path_word (λ w ok. list_all_more is_union_byte is_expr_byte (path_word w) union-expr (path-bytes w ok))
    ws (and_parts (nat_lt 0 (length ws)) _ is).1)

-- a symbol is read from its word
first-digit : (word : List ℕ) → is_canonical word ≡ true → is_ascii_digit (get_or word 0 0) ≡ true
first-digit word is = and_at (list_all is_ascii_digit) is_ascii_digit refl (λ _ _. refl) word 0 0 (canonical-some word is) (canonical-digits word is)

no_mark : (word : List ℕ) → is_canonical word ≡ true → (get_or word 0 0 == 94) ≡ false
no_mark word is = ne_eqb (get_or word 0 0) 94 (λ same. true≢false (sym (first-digit word is) ∙ ap is_ascii_digit same))

symbol-read : (s : WrittenSymbol) → is_symbol s ≡ true → read_symbol (symbol_word s) ≡ s
symbol-read s is = by s.back
  where
    by : (back : Bool) → read_symbol (symbol_word (record { back = back; number = s.number })) ≡ record { back = back; number = s.number }
    by true = refl
    by false = rw (no_mark s.number is) refl

symbol_word-is : (s : WrittenSymbol) → is_symbol s ≡ true → is_symbol_word (symbol_word s) ≡ true
symbol_word-is s is = ap is_symbol (symbol-read s is) ∙ is

map-some : {X Y : Type 0} (f : X → Y) (xs : List X) → nat_lt 0 (length xs) ≡ true → 0 < length (map f xs)
map-some f xs some = grind (arith, nat_tests, length-map xs f)

path-cut : (w : List WrittenSymbol) → is_path w ≡ true → slice_split (is_byte 46) (path_word w) ≡ map symbol_word w
path-cut w is =
    split-join is_path_byte 46 refl (map symbol_word w) (map-some symbol_word w (and_parts _ _ is).0)
    (list_all-map (list_all is_path_byte) is_symbol symbol_word symbol-bytes w (and_parts _ _ is).1)

union-cut : (ws : List (List WrittenSymbol)) → is_union ws ≡ true → slice_split (is_byte 43) (union_word ws) ≡ map path_word ws
union-cut ws is =
    split-join is_union_byte 43 refl (map path_word ws) (map-some path_word ws (and_parts _ _ is).0)
    (list_all-map (list_all is_union_byte) is_path path_word path-bytes ws (and_parts _ _ is).1)

path-read : (w : List WrittenSymbol) → is_path w ≡ true → read_path (path_word w) ≡ w
path-read w is = ap (map read_symbol) (path-cut w is) ∙ map-back is_symbol symbol_word read_symbol symbol-read w (and_parts _ _ is).1

path_word-is : (w : List WrittenSymbol) → is_path w ≡ true → is_path_word (path_word w) ≡ true
path_word-is w is = ap (list_all is_symbol_word) (path-cut w is) ∙ list_all-map is_symbol_word is_symbol symbol_word symbol_word-is w (and_parts _ _ is).1

pub union-read : (ws : List (List WrittenSymbol)) → is_union ws ≡ true → read_union (union_word ws) ≡ ws
union-read ws is = ap (map read_path) (union-cut ws is) ∙ map-back is_path path_word read_path path-read ws (and_parts _ _ is).1

pub union_word-is : (ws : List (List WrittenSymbol)) → is_union ws ≡ true → is_union_word (union_word ws) ≡ true
union_word-is ws is = ap (list_all is_path_word) (union-cut ws is) ∙ list_all-map is_path_word is_path path_word path_word-is ws (and_parts _ _ is).1

-- ---- words within a star

not_starred : (w : List ℕ) → (slice_index w 0 == 40) ≡ false → is_starred_word w ≡ false
not_starred w other = grind arith

union-plain : (u : List ℕ) → list_all is_expr_byte u ≡ true → is_starred_word u ≡ false
union-plain [] all = refl
union-plain (x ∷ u) all = not_starred (x ∷ u) (ne_eqb x 40 (λ same. true≢false (sym (and_parts _ _ all).0 ∙ ap is_expr_byte same)))

module _ (u : List ℕ) where
  starred-length : length (40 ∷ (u ++ codes ")*")) ≡ length u + 3
  starred-length = omega (arith, length-append u (codes ")*"))

  before_last : slice_index (40 ∷ (u ++ codes ")*")) (length (40 ∷ (u ++ codes ")*")) - 2) ≡ 41
  before_last =
      let at : length (40 ∷ (u ++ codes ")*")) - 2 ≡ length (40 ∷ u) = omega (arith, starred-length) in
      ap (slice_index (40 ∷ (u ++ codes ")*"))) at ∙ get_or-append_seam (40 ∷ u) 41 (42 ∷ []) 0

  last : slice_index (40 ∷ (u ++ codes ")*")) (length (40 ∷ (u ++ codes ")*")) - 1) ≡ 42
  last =
      let at : length (40 ∷ (u ++ codes ")*")) - 1 ≡ length ((40 ∷ u) ++ 41 ∷ []) = omega (arith, starred-length, length-append (40 ∷ u) (41 ∷ [])) in
      ap (slice_index (40 ∷ (u ++ codes ")*"))) at
      ∙ ap (λ w. slice_index w (length ((40 ∷ u) ++ 41 ∷ []))) (sym (append_assoc (40 ∷ u) (41 ∷ []) (42 ∷ [])))
      ∙ get_or-append_seam ((40 ∷ u) ++ 41 ∷ []) 42 [] 0

  starred-is : is_starred_word (40 ∷ (u ++ codes ")*")) ≡ true
  starred-is =
      let long : nat_le 3 (length (40 ∷ (u ++ codes ")*"))) ≡ true = grind (arith, nat_tests, starred-length) in
      rw (long, before_last, last) refl

  starred-within : within_star (40 ∷ (u ++ codes ")*")) ≡ u
  starred-within =
      rw starred-is (ap (λ n. take n (u ++ codes ")*")) (omega (arith, starred-length)) ∙ take_at u (codes ")*") (length u) refl)

pub expr-starred : (star : Bool) (ws : List (List WrittenSymbol)) → is_union ws ≡ true → is_starred_word (expr_word star ws) ≡ star
expr-starred true ws is = starred-is (union_word ws)
expr-starred false ws is = union-plain (union_word ws) (union-bytes ws is)

pub expr-within : (star : Bool) (ws : List (List WrittenSymbol)) → is_union ws ≡ true → within_star (expr_word star ws) ≡ union_word ws
expr-within true ws is = starred-within (union_word ws)
expr-within false ws is = rw (union-plain (union_word ws) (union-bytes ws is)) refl

-- ---- the words of lines

abbrev pub W : List ℕ → Bool
W word = list_all is_word_byte word

name-word : (name : List ℕ) → is_name name ≡ true → W name ≡ true
name-word name is =
    let bytes : list_all is_name_byte name ≡ true = grind (arith, nat_tests) in
    list_all_more is_name_byte is_word_byte name (word_byte-from is_name_byte refl refl) bytes

number-word : (n : List ℕ) → is_canonical n ≡ true → W n ≡ true
number-word n is = list_all_more is_ascii_digit is_word_byte n (word_byte-from is_ascii_digit refl refl) (canonical-digits n is)

kind-word : (k : Kind) → W (kind_word k) ≡ true
kind-word Fixed = refl
kind-word Growing = refl

op-word : (o : Op) → W (op_word o) ≡ true
op-word Equal = refl
op-word Less = refl
op-word Greater = refl
op-word Diamond = refl
op-word Cross = refl

shape-word : (s : Shape) → W (shape_word s) ≡ true
shape-word Chain = refl
shape-word Star = refl
shape-word Cycle = refl
shape-word StarChain = refl

class-word : (c : Option Class) → W (class_or_none c) ≡ true
class-word None = refl
class-word (Some Constant) = refl
class-word (Some Linear) = refl
class-word (Some Quadratic) = refl

format-word : (f : ℕ) → W (format_word f) ≡ true
format-word f = by (f == 2)
  where
    by : (two : Bool) → W (if two then codes "2" else codes "1") ≡ true
    by true = refl
    by false = refl

union-word : (ws : List (List WrittenSymbol)) → is_union ws ≡ true → W (union_word ws) ≡ true
union-word ws is = list_all_more is_expr_byte is_word_byte (union_word ws) (word_byte-from is_expr_byte refl refl) (union-bytes ws is)

expr-word : (star : Bool) (ws : List (List WrittenSymbol)) → is_union ws ≡ true → W (expr_word star ws) ≡ true
expr-word true ws is =
    and_true refl (list_all-append is_word_byte (union_word ws) (codes ")*") ∙ and_true (union-word ws is) refl)
expr-word false ws is = union-word ws is

pub three : (a b c : Bool) → (a && b && c) ≡ true → (a ≡ true) × (b ≡ true) × (c ≡ true)
three true true true is = (refl, refl, refl)
three true true false is = cc
three true false c is = cc
three false b c is = cc

pub line-words : (format : ℕ) (line : WorkLine) → is_line format line ≡ true → list_all W (line_words line) ≡ true
line-words format (FirstLine own) is = and_true refl (and_true (format-word own) refl)
line-words format (LabelLine name) is = and_true refl (and_true (name-word name is) refl)
line-words format (TypeLine name kind) is = and_true refl (and_true (name-word name is) (and_true (kind-word kind) refl))
line-words format (EdgeLine source label target op) is =
    let parts = three (is_canonical source) (is_canonical label) (is_canonical target) is in
    and_true refl (and_true (number-word source parts.0) (and_true (number-word label parts.1) (and_true (number-word target parts.2) (and_true (op-word op) refl))))
line-words format (QueryLine number asked) is =
    and_true refl (and_true (number-word number (and_parts _ _ is).0)
    (and_true (shape-word asked.shape) (and_true (class-word asked.class) (and_true (class-word asked.wide) refl))))
line-words format (RuleLine heads) is =
    and_true refl (list_all-map W is_canonical variable_word (λ n ok. and_true refl (number-word n ok)) heads (and_parts _ _ is).1)
line-words format (ConjunctLine src trg star words) is =
    let parts = three (is_canonical src) (is_canonical trg) (is_union words) is in
    and_true (and_true refl (number-word src parts.0)) (and_true (expr-word star words parts.2) (and_true (and_true refl (number-word trg parts.1)) refl))
line-words format EndLine is = refl

line-some : (line : WorkLine) → 0 < length (line_words line)
line-some (FirstLine own) = omega arith
line-some (LabelLine name) = omega arith
line-some (TypeLine name kind) = omega arith
line-some (EdgeLine source label target op) = omega arith
line-some (QueryLine number asked) = omega arith
line-some (RuleLine heads) = omega arith
line-some (ConjunctLine src trg star words) = omega arith
line-some EndLine = omega arith

pub words_of-line : (format : ℕ) (line : WorkLine) → is_line format line ≡ true → words_of (line_bytes line) ≡ line_words line
words_of-line format line is = split-join is_word_byte 32 refl (line_words line) (line-some line) (line-words format line is)

-- ---- the line of its words

kind-read : (k : Kind) → kind_of_word (kind_word k) ≡ Some k
kind-read Fixed = refl
kind-read Growing = refl

op-read : (o : Op) → op_of_word (op_word o) ≡ Some o
op-read Equal = refl
op-read Less = refl
op-read Greater = refl
op-read Diamond = refl
op-read Cross = refl

shape-read : (s : Shape) → shape_of_word (shape_word s) ≡ Some s
shape-read Chain = refl
shape-read Star = refl
shape-read Cycle = refl
shape-read StarChain = refl

class-read : (c : Option Class) → class_of_word (class_or_none c) ≡ Some c
class-read None = refl
class-read (Some Constant) = refl
class-read (Some Linear) = refl
class-read (Some Quadratic) = refl

one_or_two : (f : ℕ) → is_format f ≡ true → (f ≡ 1) ⊎ (f ≡ 2)
one_or_two f is = grind (arith, nat_tests)

format-read : (f : ℕ) → is_format f ≡ true → format_of_word (format_word f) ≡ Some f
format-read f is = elim (one_or_two f is) [ inl one ↦ rw one refl | inr two ↦ rw two refl ]

variable-is : (n : List ℕ) → is_canonical n ≡ true → is_variable (variable_word n) ≡ true
variable-is n is = is

line_of_words-line : (format : ℕ) (line : WorkLine) → is_line format line ≡ true → line_of_words format (line_words line) ≡ Some line
line_of_words-line format (FirstLine own) is = rw (format-read own is) refl
line_of_words-line format (LabelLine name) is = rw is refl
line_of_words-line format (TypeLine name kind) is = rw (is, kind-read kind) refl
line_of_words-line format (EdgeLine source label target op) is = rw (is, op-read op) refl
line_of_words-line format (QueryLine number asked) is =
    rw (shape-read asked.shape, class-read asked.class, class-read asked.wide) (rw is refl)
line_of_words-line format (RuleLine heads) is =
    let all : list_all is_variable (map variable_word heads) ≡ true = list_all-map is_variable is_canonical variable_word variable-is heads (and_parts _ _ is).1 in
    let two : has_heads_of format (length (map variable_word heads)) ≡ true = ap (has_heads_of format) (length-map heads variable_word) ∙ (and_parts _ _ is).0 in
    let back : map (drop 1) (map variable_word heads) ≡ heads = map-back is_canonical variable_word (drop 1) (λ n ok. refl) heads (and_parts _ _ is).1 in
    rw (two, all, back) refl
line_of_words-line format (ConjunctLine src trg star words) is =
    let parts = three (is_canonical src) (is_canonical trg) (is_union words) is in
    rw (expr-within star words parts.2, expr-starred star words parts.2, union_word-is words parts.2, union-read words parts.2, parts.0, parts.1) refl
line_of_words-line format EndLine is = refl

-- a line is read of its bytes
pub line_of-line : (format : ℕ) (line : WorkLine) → is_line format line ≡ true → line_of format (line_bytes line) ≡ Some line
line_of-line format line is = ap (line_of_words format) (words_of-line format line is) ∙ line_of_words-line format line is

-- ---- a line that is read has the words that it was read of

if-some : {A : Type 0} (P : A → Type 0) (b : Bool) (x y : Option A) → (b ≡ true → IfSome x P) → IfSome y P → IfSome (if b then x else y) P
if-some P true x y yields others = yields refl
if-some P false x y yields others = others

and_then-some : {A B : Type 0} (P : A → Type 0) (Q : B → Type 0) (f : A → Option B) (o : Option A) → IfSome o P → ((a : A) → P a → IfSome (f a) Q) → IfSome (option_and_then f o) Q
and_then-some P Q f None some each = tt
and_then-some P Q f (Some a) some each = each a some

map-is_some : {A B : Type 0} (P : A → Type 0) (Q : B → Type 0) (f : A → B) (o : Option A) → IfSome o P → ((a : A) → P a → Q (f a)) → IfSome (option_map f o) Q
map-is_some P Q f None some each = tt
map-is_some P Q f (Some a) some each = each a some

same_bytes : (a b : List ℕ) → bytes_eq a b ≡ true → a ≡ b
same_bytes a b is = (bytes_eq-Decides a b).0 is

-- the first words of the sorts
abbrev Begins : Sort → List ℕ → Type 0
Begins First w = w ≡ codes "gmark-workload"
Begins Label w = w ≡ codes "label"
Begins NodeType w = w ≡ codes "type"
Begins Edge w = w ≡ codes "edge"
Begins Query w = w ≡ codes "query"
Begins Rule w = w ≡ codes "rule"
Begins Conjunct w = ⊤
Begins End w = w ≡ codes "end"

sort-begins : (w : List ℕ) → IfSome (sort_of w) (λ sort. Begins sort w)
sort-begins w =
    let P : Sort → Type 0 = λ sort. Begins sort w in
    if-some P (bytes_eq w (codes "gmark-workload")) _ _ (same_bytes w (codes "gmark-workload"))
    (if-some P (bytes_eq w (codes "label")) _ _ (same_bytes w (codes "label"))
    (if-some P (bytes_eq w (codes "type")) _ _ (same_bytes w (codes "type"))
    (if-some P (bytes_eq w (codes "edge")) _ _ (same_bytes w (codes "edge"))
    (if-some P (bytes_eq w (codes "query")) _ _ (same_bytes w (codes "query"))
    (if-some P (bytes_eq w (codes "rule")) _ _ (same_bytes w (codes "rule"))
    (if-some P (bytes_eq w (codes "end")) _ _ (same_bytes w (codes "end"))
    (if-some P (begins_with_x w) (Some Conjunct) None (λ x. tt) tt)))))))

kind-of : (w : List ℕ) → IfSome (kind_of_word w) (λ k. w ≡ kind_word k)
kind-of w =
    let P : Kind → Type 0 = λ k. w ≡ kind_word k in
    if-some P (bytes_eq w (codes "fixed")) _ _ (same_bytes w (codes "fixed"))
    (if-some P (bytes_eq w (codes "growing")) _ _ (same_bytes w (codes "growing")) tt)

format-of : (w : List ℕ) → IfSome (format_of_word w) (λ f. (w ≡ format_word f) × (is_format f ≡ true))
format-of w =
    let P : ℕ → Type 0 = λ f. (w ≡ format_word f) × (is_format f ≡ true) in
    if-some P (bytes_eq w (codes "1")) (Some 1) _ (λ is. (same_bytes w (codes "1") is, refl))
    (if-some P (bytes_eq w (codes "2")) (Some 2) None (λ is. (same_bytes w (codes "2") is, refl)) tt)

op-of : (w : List ℕ) → IfSome (op_of_word w) (λ o. w ≡ op_word o)
op-of w =
    let P : Op → Type 0 = λ o. w ≡ op_word o in
    if-some P (bytes_eq w (codes "=")) _ _ (same_bytes w (codes "="))
    (if-some P (bytes_eq w (codes "<")) _ _ (same_bytes w (codes "<"))
    (if-some P (bytes_eq w (codes ">")) _ _ (same_bytes w (codes ">"))
    (if-some P (bytes_eq w (codes "<>")) _ _ (same_bytes w (codes "<>"))
    (if-some P (bytes_eq w (codes "x")) _ _ (same_bytes w (codes "x")) tt))))

shape-of : (w : List ℕ) → IfSome (shape_of_word w) (λ s. w ≡ shape_word s)
shape-of w =
    let P : Shape → Type 0 = λ s. w ≡ shape_word s in
    if-some P (bytes_eq w (codes "chain")) _ _ (same_bytes w (codes "chain"))
    (if-some P (bytes_eq w (codes "star")) _ _ (same_bytes w (codes "star"))
    (if-some P (bytes_eq w (codes "cycle")) _ _ (same_bytes w (codes "cycle"))
    (if-some P (bytes_eq w (codes "starchain")) _ _ (same_bytes w (codes "starchain")) tt)))

class-of : (w : List ℕ) → IfSome (class_of_word w) (λ c. w ≡ class_or_none c)
class-of w =
    let P : Option Class → Type 0 = λ c. w ≡ class_or_none c in
    if-some P (bytes_eq w (codes "constant")) _ _ (same_bytes w (codes "constant"))
    (if-some P (bytes_eq w (codes "linear")) _ _ (same_bytes w (codes "linear"))
    (if-some P (bytes_eq w (codes "quadratic")) _ _ (same_bytes w (codes "quadratic"))
    (if-some P (bytes_eq w (codes "none")) _ _ (same_bytes w (codes "none")) tt)))

one-of : (ws : List (List ℕ)) → IfSome (one_word ws) (λ a. ws ≡ a ∷ [])
one-of [] = tt
one-of (a ∷ []) = refl
one-of (a ∷ b ∷ ws) = tt

two-of : (ws : List (List ℕ)) → IfSome (two_words ws) (λ w. ws ≡ w.0 ∷ w.1 ∷ [])
two-of [] = tt
two-of (a ∷ []) = tt
two-of (a ∷ b ∷ []) = refl
two-of (a ∷ b ∷ c ∷ ws) = tt

four-of : (ws : List (List ℕ)) → IfSome (four_words ws) (λ w. ws ≡ w.0.0 ∷ w.0.1 ∷ w.1.0 ∷ w.1.1 ∷ [])
four-of [] = tt
four-of (a ∷ []) = tt
four-of (a ∷ b ∷ []) = tt
four-of (a ∷ b ∷ c ∷ []) = tt
four-of (a ∷ b ∷ c ∷ d ∷ []) = refl
four-of (a ∷ b ∷ c ∷ d ∷ e ∷ ws) = tt

-- ---- words of conjuncts

begins : (w : List ℕ) (b : ℕ) → (slice_index w 0 == b) ≡ true → 0 < b → w ≡ b ∷ drop 1 w
begins [] b is some = absurd (omega (arith, eqb-true 0 b is, some))
begins (x ∷ w) b is some = ap (λ y. y ∷ w) (eqb-true x b is)

variable-of : (w : List ℕ) → is_variable w ≡ true → w ≡ variable_word (drop 1 w)
variable-of w is = begins w 120 (and_parts _ _ is).0 (omega arith)

variable-number : (w : List ℕ) → is_variable w ≡ true → is_canonical (drop 1 w) ≡ true
variable-number w is = (and_parts (begins_with_x w) (is_canonical (drop 1 w)) is).1

and_three : (a b c : Bool) → a ≡ true → b ≡ true → c ≡ true → (a && b && c) ≡ true
and_three a b c p q r = rw (p, q, r) refl

symbol-of : (w : List ℕ) → symbol_word (read_symbol w) ≡ w
symbol-of w = by (is_against w) refl
  where
    by : (b : Bool) → is_against w ≡ b → symbol_word (read_symbol w) ≡ w
    by true is = rw is (sym (begins w 94 is (omega arith)))
    by false is = rw is refl

split-some : (b : ℕ) (w : List ℕ) → nat_lt 0 (length (slice_split (is_byte b) w)) ≡ true
split-some b w = grind (arith, nat_tests, length-slice_split (is_byte b) w)

path-of : (w : List ℕ) → is_path_word w ≡ true → path_word (read_path w) ≡ w
path-of w is =
    ap (join_with_byte 46) (map-back is_symbol_word read_symbol symbol_word (λ s ok. symbol-of s) (slice_split (is_byte 46) w) is)
    ∙ join_with_byte-slice_split 46 w

path-form : (w : List ℕ) → is_path_word w ≡ true → is_path (read_path w) ≡ true
path-form w is =
    and_true (ap (nat_lt 0) (length-map (slice_split (is_byte 46) w) read_symbol) ∙ split-some 46 w)
    (list_all-map is_symbol is_symbol_word read_symbol (λ s ok. ok) (slice_split (is_byte 46) w) is)

union-of : (w : List ℕ) → is_union_word w ≡ true → union_word (read_union w) ≡ w
union-of w is =
    ap (join_with_byte 43) (map-back is_path_word read_path path_word path-of (slice_split (is_byte 43) w) is)
    ∙ join_with_byte-slice_split 43 w

union-form : (w : List ℕ) → is_union_word w ≡ true → is_union (read_union w) ≡ true
union-form w is =
    and_true (ap (nat_lt 0) (length-map (slice_split (is_byte 43) w) read_path) ∙ split-some 43 w)
    (list_all-map is_path is_path_word read_path path-form (slice_split (is_byte 43) w) is)

-- what is starred is `(`, what stands within, and `)*`
record Starred (w : List ℕ) : Type 0 where
  long : 3 ≤ length w
  first : slice_index w 0 ≡ 40
  before : slice_index w (length w - 2) ≡ 41
  last : slice_index w (length w - 1) ≡ 42

is_starred-parts : (w : List ℕ) → is_starred_word w ≡ true → Starred w
is_starred-parts w is = record {
  long = grind (arith, nat_tests);
  first = grind (arith, nat_tests);
  before = grind (arith, nat_tests);
  last = grind (arith, nat_tests);
}

starred-parts : (w : List ℕ) → Starred w → 40 ∷ (between 1 (length w - 2) w ++ codes ")*") ≡ w
starred-parts [] is = absurd (omega (arith, is.long))
starred-parts (x ∷ u) is =
    let n : ℕ = length (x ∷ u) - 2 - 1 in
    let end : n + 2 ≡ length u = omega (arith, is.long) in
    let one : get_or u n 0 ≡ 41 = ap (λ k. slice_index (x ∷ u) k) {x = suc n} {y = length (x ∷ u) - 2} (omega (arith, is.long)) ∙ is.before in
    let two : get_or u (n + 1) 0 ≡ 42 = ap (λ k. slice_index (x ∷ u) k) {x = suc (n + 1)} {y = length (x ∷ u) - 1} (omega (arith, is.long)) ∙ is.last in
    let last : drop (n + 1) u ≡ 42 ∷ [] =
    drop_more u (n + 1) 0 (omega (arith, end)) ∙ (λ j. two j ∷ drop_all (n + 1 + 1) u (omega (arith, end)) j) in
    let rest : drop n u ≡ 41 ∷ 42 ∷ [] = drop_more u n 0 (omega (arith, end)) ∙ (λ i. one i ∷ last i) in
    (λ i. sym is.first i ∷ (ap (λ r. take n u ++ r) (sym rest) ∙ take-append-drop n u) i)

expr-of : (w : List ℕ) → is_union_word (within_star w) ≡ true → expr_word (is_starred_word w) (read_union (within_star w)) ≡ w
expr-of w is = by (is_starred_word w) refl
  where
    by : (b : Bool) → is_starred_word w ≡ b → expr_word (is_starred_word w) (read_union (within_star w)) ≡ w
    by true star =
        let inner : within_star w ≡ between 1 (length w - 2) w = rw star refl in
        ap (λ b. expr_word b (read_union (within_star w))) star
        ∙ (ap (λ u. 40 ∷ (u ++ codes ")*")) (union-of (within_star w) is ∙ inner) ∙ starred-parts w (is_starred-parts w star))
    by false plain =
        let inner : within_star w ≡ w = rw plain refl in
        ap (λ b. expr_word b (read_union (within_star w))) plain ∙ (union-of (within_star w) is ∙ inner)

-- ---- lines

-- a line in its form, with these words
abbrev HasWords : ℕ → List (List ℕ) → WorkLine → Type 0
HasWords format words line = (is_line format line ≡ true) × (words ≡ line_words line)

AsksFor : List ℕ → List ℕ → List ℕ → Asked → Type 0
AsksFor shape class wide asked = (shape ≡ shape_word asked.shape) × (class ≡ class_or_none asked.class) × (wide ≡ class_or_none asked.wide)

asked-of : (shape class wide : List ℕ) → IfSome (asked_of_words shape class wide) (λ a. AsksFor shape class wide a)
unfolding AsksFor
asked-of shape class wide =
    let Q : Asked → Type 0 = λ a. AsksFor shape class wide a in
    and_then-some (λ s. shape ≡ shape_word s) Q _ (shape_of_word shape) (shape-of shape) (λ s is_shape.
    and_then-some (λ c. class ≡ class_or_none c) Q _ (class_of_word class) (class-of class) (λ c is_class.
    map-is_some (λ w. wide ≡ class_or_none w) Q _ (class_of_word wide) (class-of wide) (λ w is_wide. (is_shape, is_class, is_wide))))

module _ (format : ℕ) (first : List ℕ) (rest : List (List ℕ)) where
  abbrev Q : WorkLine → Type 0
  Q line = HasWords format (first ∷ rest) line

  of-first : first ≡ codes "gmark-workload" → IfSome (line_of_sort format First first rest) Q
  of-first b = and_then-some (λ a. rest ≡ a ∷ []) Q _ (one_word rest) (one-of rest) (λ a is.
      map-is_some (λ f. (a ≡ format_word f) × (is_format f ≡ true)) Q FirstLine (format_of_word a) (format-of a) (λ f own.
      (own.1, λ i. b i ∷ (is ∙ ap (λ x. x ∷ []) own.0) i)))

  of-label : first ≡ codes "label" → IfSome (line_of_sort format Label first rest) Q
  of-label b = and_then-some (λ a. rest ≡ a ∷ []) Q label_line (one_word rest) (one-of rest) (λ a is.
      if-some Q (is_name a) (Some (LabelLine a)) None (λ ok. (ok, λ i. b i ∷ is i)) tt)

  of-type : first ≡ codes "type" → IfSome (line_of_sort format NodeType first rest) Q
  of-type b = and_then-some (λ w. rest ≡ w.0 ∷ w.1 ∷ []) Q (λ w. type_line w.0 w.1) (two_words rest) (two-of rest) (λ w is.
      if-some Q (is_name w.0) (option_map (TypeLine w.0) (kind_of_word w.1)) None (λ ok.
      map-is_some (λ k. w.1 ≡ kind_word k) Q (TypeLine w.0) (kind_of_word w.1) (kind-of w.1) (λ k own.
      (ok, λ i. b i ∷ (is ∙ ap (λ x. w.0 ∷ x ∷ []) own) i))) tt)

  of-edge : first ≡ codes "edge" → IfSome (line_of_sort format Edge first rest) Q
  of-edge b = and_then-some (λ w. rest ≡ w.0.0 ∷ w.0.1 ∷ w.1.0 ∷ w.1.1 ∷ []) Q (λ w. edge_line w.0.0 w.0.1 w.1.0 w.1.1) (four_words rest) (four-of rest) (λ w is.
      if-some Q (are_numbers w.0.0 w.0.1 w.1.0) (option_map (EdgeLine w.0.0 w.0.1 w.1.0) (op_of_word w.1.1)) None (λ ok.
      map-is_some (λ o. w.1.1 ≡ op_word o) Q (EdgeLine w.0.0 w.0.1 w.1.0) (op_of_word w.1.1) (op-of w.1.1) (λ o own.
      (ok, λ i. b i ∷ (is ∙ ap (λ x. w.0.0 ∷ w.0.1 ∷ w.1.0 ∷ x ∷ []) own) i))) tt)

  of-query : first ≡ codes "query" → IfSome (line_of_sort format Query first rest) Q
  unfolding AsksFor
  of-query b = and_then-some (λ w. rest ≡ w.0.0 ∷ w.0.1 ∷ w.1.0 ∷ w.1.1 ∷ []) Q (λ w. query_line format w.0.0 w.0.1 w.1.0 w.1.1) (four_words rest) (four-of rest) (λ w is.
      and_then-some (λ a. AsksFor w.0.1 w.1.0 w.1.1 a) Q (query_with format w.0.0) (asked_of_words w.0.1 w.1.0 w.1.1) (asked-of w.0.1 w.1.0 w.1.1) (λ a own.
      if-some Q (is_canonical w.0.0 && has_classes_of format a) (Some (QueryLine w.0.0 a)) None (λ ok.
      (ok, λ i. b i ∷ (is ∙ (λ j. w.0.0 ∷ own.0 j ∷ own.1 j ∷ own.2 j ∷ [])) i)) tt))

  of-rule : first ≡ codes "rule" → IfSome (line_of_sort format Rule first rest) Q
  of-rule b = if-some Q (has_heads_of format (length rest) && list_all is_variable rest) (Some (RuleLine (map (drop 1) rest))) None (λ ok.
      let all = (and_parts _ _ ok).1 in (
        and_true (ap (has_heads_of format) (length-map rest (drop 1)) ∙ (and_parts _ _ ok).0)
            (list_all-map is_canonical is_variable (drop 1) variable-number rest all),
        λ i. b i ∷ sym (map-back is_variable (drop 1) variable_word (λ w v. sym (variable-of w v)) rest all) i,
      )) tt

  of-conjunct : IfSome (line_of_sort format Conjunct first rest) Q
  of-conjunct = and_then-some (λ w. rest ≡ w.0 ∷ w.1 ∷ []) Q (λ w. conjunct_line first w.0 w.1) (two_words rest) (two-of rest) (λ w is.
      if-some Q (are_conjunct_words first w.0 w.1) _ None (λ ok.
      let parts = three (is_variable first) (is_variable w.1) (is_union_word (within_star w.0)) ok in (
        and_three _ _ _ (variable-number first parts.0) (variable-number w.1 parts.1) (union-form (within_star w.0) parts.2),
        λ i. variable-of first parts.0 i ∷ (is ∙ (λ j. sym (expr-of w.0 parts.2) j ∷ variable-of w.1 parts.1 j ∷ [])) i,
      )) tt)

of-end : (format : ℕ) (first : List ℕ) (rest : List (List ℕ)) → first ≡ codes "end" → IfSome (line_of_sort format End first rest) (HasWords format (first ∷ rest))
of-end format first [] b = (refl, λ i. b i ∷ [])
of-end format first (word ∷ rest) b = tt

of-sort : (format : ℕ) (sort : Sort) (first : List ℕ) (rest : List (List ℕ)) → Begins sort first → IfSome (line_of_sort format sort first rest) (HasWords format (first ∷ rest))
of-sort format First first rest b = of-first format first rest b
of-sort format Label first rest b = of-label format first rest b
of-sort format NodeType first rest b = of-type format first rest b
of-sort format Edge first rest b = of-edge format first rest b
of-sort format Query first rest b = of-query format first rest b
of-sort format Rule first rest b = of-rule format first rest b
of-sort format Conjunct first rest b = of-conjunct format first rest
of-sort format End first rest b = of-end format first rest b

of-words : (format : ℕ) (words : List (List ℕ)) → IfSome (line_of_words format words) (HasWords format words)
of-words format [] = tt
of-words format (first ∷ rest) =
    and_then-some (λ sort. Begins sort first) (HasWords format (first ∷ rest)) (λ sort. line_of_sort format sort first rest) (sort_of first) (sort-begins first)
    (λ sort b. of-sort format sort first rest b)

-- what is read of bytes is a line in its form that has these bytes
pub line_of-bytes : (format : ℕ) (bytes : List ℕ) → IfSome (line_of format bytes) (λ line. (is_line format line ≡ true) × (line_bytes line ≡ bytes))
line_of-bytes format bytes =
    IfSome_then (line_of format bytes) (of-words format (words_of bytes)) (λ line is. (is.0, ap (join_with_byte 32) (sym is.1) ∙ join_with_byte-slice_split 32 bytes))

from-some : {A : Type 0} (P : A → Type 0) (o : Option A) (a : A) → IfSome o P → o ≡ Some a → P a
from-some P o a is found = subst (λ p. IfSome p P) found is

pub lines-are-read : LinesAreRead
lines-are-read format bytes line = (
  from-some (λ l. (is_line format l ≡ true) × (line_bytes l ≡ bytes)) (line_of format bytes) line (line_of-bytes format bytes),
  λ is. ap (line_of format) (sym is.1) ∙ line_of-line format line is.0,
)

-- What a line of a text says, from its words.
--   first_word bytes            the word before the first space
--   sort_of word                the sort of line that a first word begins
--   kind_of_word .. class_of_word   the kind, operator, shape or class of a word
--   read_union bytes            the words of a conjunct
--   line_of format bytes        what a line with these bytes says, where it has the form of a line
--   LinesAreRead                a law: it says what the one line with these bytes says
use Rattle.std.specs.Prelude.{◌≡◌, ◌↔◌, ℕ, ◌==◌, ◌-◌, Bool, ◌&&◌, nat_le, if◌then◌else◌, List, [], ◌∷◌, length, map, drop, slice_index, codes, Option, Some, None, option_map, option_and_then, IsTrue}
use Rattle.std.specs.List.{list_all, slice_split, between}
use Rattle.std.specs.Str.{bytes_eq}
use Rattle.gm_text.specs.Name.{is_name}
use Rattle.gm_text.specs.Decimal.{is_canonical}
use Rattle.gm_text.specs.Lines.{is_byte, words_of}
use Rattle.sel_algebra.specs.declared.vocabulary.Op.{Op}
use Rattle.sel_algebra.specs.declared.vocabulary.Op.TheVariants.{Equal, Less, Greater, Diamond, Cross}
use Rattle.sel_algebra.specs.declared.vocabulary.Kind.{Kind}
use Rattle.sel_algebra.specs.declared.vocabulary.Kind.TheVariants.{Fixed, Growing}
use Rattle.sel_algebra.specs.declared.vocabulary.Class.{Class}
use Rattle.sel_algebra.specs.declared.vocabulary.Class.TheVariants.{Constant, Linear, Quadratic}
use Rattle.sel_algebra.specs.declared.vocabulary.Shape.{Shape}
use Rattle.sel_algebra.specs.declared.vocabulary.Shape.TheVariants.{Chain, Star, Cycle, StarChain}
use Rattle.workload_text.specs.declared.sorts.Sort.{Sort}
use Rattle.workload_text.specs.declared.sorts.Sort.TheVariants.{First, Label, NodeType, Edge, Query, Rule, Conjunct, End}
use Rattle.workload_text.specs.Lines.{WrittenSymbol, Asked, WorkLine, line_bytes, is_line, has_heads_of, has_classes_of}
use Rattle.workload_text.specs.Lines.WorkLine.{FirstLine, LabelLine, TypeLine, EdgeLine, QueryLine, RuleLine, ConjunctLine, EndLine}

-- ---- first words

-- the first of some words
abbrev pub first_of : List (List ℕ) → List ℕ
first_of [] = []
first_of (word ∷ words) = word

-- the word before the first space
abbrev pub first_word : List ℕ → List ℕ
first_word bytes = first_of (words_of bytes)

-- the first byte is `x`
abbrev pub begins_with_x : List ℕ → Bool
begins_with_x word = slice_index word 0 == 120

-- the sort of line that a first word begins
abbrev pub sort_of : List ℕ → Option Sort
sort_of word = if bytes_eq word (codes "gmark-workload") then Some First
    else (if bytes_eq word (codes "label") then Some Label
    else (if bytes_eq word (codes "type") then Some NodeType
    else (if bytes_eq word (codes "edge") then Some Edge
    else (if bytes_eq word (codes "query") then Some Query
    else (if bytes_eq word (codes "rule") then Some Rule
    else (if bytes_eq word (codes "end") then Some End
    else (if begins_with_x word then Some Conjunct
    else None)))))))

-- ---- fixed words

-- the format of a word
abbrev pub format_of_word : List ℕ → Option ℕ
format_of_word word = if bytes_eq word (codes "1") then Some 1 else (if bytes_eq word (codes "2") then Some 2 else None)

-- the kind of a word
abbrev pub kind_of_word : List ℕ → Option Kind
kind_of_word word = if bytes_eq word (codes "fixed") then Some Fixed
    else (if bytes_eq word (codes "growing") then Some Growing else None)

-- the operator of a word
abbrev pub op_of_word : List ℕ → Option Op
op_of_word word = if bytes_eq word (codes "=") then Some Equal
    else (if bytes_eq word (codes "<") then Some Less
    else (if bytes_eq word (codes ">") then Some Greater
    else (if bytes_eq word (codes "<>") then Some Diamond
    else (if bytes_eq word (codes "x") then Some Cross else None))))

-- the shape of a word
abbrev pub shape_of_word : List ℕ → Option Shape
shape_of_word word = if bytes_eq word (codes "chain") then Some Chain
    else (if bytes_eq word (codes "star") then Some Star
    else (if bytes_eq word (codes "cycle") then Some Cycle
    else (if bytes_eq word (codes "starchain") then Some StarChain else None)))

-- the class of a word, or none
abbrev pub class_of_word : List ℕ → Option (Option Class)
class_of_word word = if bytes_eq word (codes "constant") then Some (Some Constant)
    else (if bytes_eq word (codes "linear") then Some (Some Linear)
    else (if bytes_eq word (codes "quadratic") then Some (Some Quadratic)
    else (if bytes_eq word (codes "none") then Some None else None)))

-- ---- words of conjuncts

-- `x` and a canonical decimal
abbrev pub is_variable : List ℕ → Bool
is_variable word = begins_with_x word && is_canonical (drop 1 word)

-- the first byte is `^`
abbrev pub is_against : List ℕ → Bool
is_against word = slice_index word 0 == 94

-- what stands after `^`, or else the word
abbrev pub number_word : List ℕ → List ℕ
number_word word = if is_against word then drop 1 word else word

-- the symbol of a word: a number, after `^` where it is against its edge
abbrev pub read_symbol : List ℕ → WrittenSymbol
read_symbol word = record { back = is_against word; number = number_word word }

-- the symbols between the `.`
abbrev pub read_path : List ℕ → List WrittenSymbol
read_path word = map read_symbol (slice_split (is_byte 46) word)

-- the words between the `+`
abbrev pub read_union : List ℕ → List (List WrittenSymbol)
read_union word = map read_path (slice_split (is_byte 43) word)

-- the number of the symbol is a canonical decimal
abbrev pub is_symbol_word : List ℕ → Bool
is_symbol_word word = is_canonical (number_word word)

-- symbols joined by `.`
abbrev pub is_path_word : List ℕ → Bool
is_path_word word = list_all is_symbol_word (slice_split (is_byte 46) word)

-- such words joined by `+`
abbrev pub is_union_word : List ℕ → Bool
is_union_word word = list_all is_path_word (slice_split (is_byte 43) word)

-- the byte that stands so many places before the end
abbrev pub byte_before_end : ℕ → List ℕ → ℕ
byte_before_end n word = slice_index word (length word - n)

-- it begins with `(` and ends with `)*`
abbrev pub is_starred_word : List ℕ → Bool
is_starred_word word =
    nat_le 3 (length word) && (slice_index word 0 == 40) && (byte_before_end 2 word == 41) && (byte_before_end 1 word == 42)

-- what stands within `(` and `)*`, or else the word
abbrev pub within_star : List ℕ → List ℕ
within_star word = if is_starred_word word then between 1 (length word - 2) word else word

-- ---- lines

-- one word alone, two and four
abbrev pub one_word : List (List ℕ) → Option (List ℕ)
one_word (a ∷ []) = Some a
one_word words = None

abbrev pub two_words : List (List ℕ) → Option (List ℕ × List ℕ)
two_words (a ∷ b ∷ []) = Some (a, b)
two_words words = None

abbrev pub four_words : List (List ℕ) → Option ((List ℕ × List ℕ) × (List ℕ × List ℕ))
four_words (a ∷ b ∷ c ∷ d ∷ []) = Some ((a, b), (c, d))
four_words words = None

-- the line of a label
abbrev pub label_line : List ℕ → Option WorkLine
label_line name = if is_name name then Some (LabelLine name) else None

-- the line of a type
abbrev pub type_line : List ℕ → List ℕ → Option WorkLine
type_line name kind = if is_name name then option_map (TypeLine name) (kind_of_word kind) else None

-- three numbers
abbrev pub are_numbers : List ℕ → List ℕ → List ℕ → Bool
are_numbers a b c = is_canonical a && is_canonical b && is_canonical c

-- the line of an edge
abbrev pub edge_line : List ℕ → List ℕ → List ℕ → List ℕ → Option WorkLine
edge_line source label target op =
    if are_numbers source label target then option_map (EdgeLine source label target) (op_of_word op) else None

-- what a query asks for, by the words of its shape and its classes
abbrev pub asked_of_words : List ℕ → List ℕ → List ℕ → Option Asked
asked_of_words shape class wide = option_and_then (λ s. option_and_then (λ c. option_map (λ w.
    record { shape = s; class = c; wide = w }) (class_of_word wide)) (class_of_word class)) (shape_of_word shape)

-- the line of a query, where what it asks for can be asked in the format
abbrev pub query_with : ℕ → List ℕ → Asked → Option WorkLine
query_with format number asked = if is_canonical number && has_classes_of format asked then Some (QueryLine number asked) else None

-- the line of a query
abbrev pub query_line : ℕ → List ℕ → List ℕ → List ℕ → List ℕ → Option WorkLine
query_line format number shape class wide = option_and_then (query_with format number) (asked_of_words shape class wide)

-- the line of a rule
abbrev pub rule_line : ℕ → List (List ℕ) → Option WorkLine
rule_line format words =
    if has_heads_of format (length words) && list_all is_variable words then Some (RuleLine (map (drop 1) words)) else None

-- a variable, an expression and a variable
abbrev pub are_conjunct_words : List ℕ → List ℕ → List ℕ → Bool
are_conjunct_words src expr trg = is_variable src && is_variable trg && is_union_word (within_star expr)

-- the line of a conjunct
abbrev pub conjunct_line : List ℕ → List ℕ → List ℕ → Option WorkLine
conjunct_line src expr trg = if are_conjunct_words src expr trg
    then Some (ConjunctLine (drop 1 src) (drop 1 trg) (is_starred_word expr) (read_union (within_star expr))) else None

-- the line of the end
abbrev pub end_line : List (List ℕ) → Option WorkLine
end_line [] = Some EndLine
end_line words = None

-- what a line of a sort says, from its first word and the words after it
abbrev pub line_of_sort : ℕ → Sort → List ℕ → List (List ℕ) → Option WorkLine
line_of_sort format First word words = option_and_then (λ w. option_map FirstLine (format_of_word w)) (one_word words)
line_of_sort format Label word words = option_and_then label_line (one_word words)
line_of_sort format NodeType word words = option_and_then (λ w. type_line w.0 w.1) (two_words words)
line_of_sort format Edge word words = option_and_then (λ w. edge_line w.0.0 w.0.1 w.1.0 w.1.1) (four_words words)
line_of_sort format Query word words = option_and_then (λ w. query_line format w.0.0 w.0.1 w.1.0 w.1.1) (four_words words)
line_of_sort format Rule word words = rule_line format words
line_of_sort format Conjunct word words = option_and_then (λ w. conjunct_line word w.0 w.1) (two_words words)
line_of_sort format End word words = end_line words

-- the words after the first
abbrev pub rest_of : List (List ℕ) → List (List ℕ)
rest_of [] = []
rest_of (word ∷ words) = words

-- what a line with these words says
abbrev pub line_of_words : ℕ → List (List ℕ) → Option WorkLine
line_of_words format words =
    option_and_then (λ sort. line_of_sort format sort (first_of words) (rest_of words)) (sort_of (first_of words))

-- what a line with these bytes says
abbrev pub line_of : ℕ → List ℕ → Option WorkLine
line_of format bytes = line_of_words format (words_of bytes)

-- a line is what its bytes are read as, and no other
abbrev pub LinesAreRead : Type 0
LinesAreRead = (format : ℕ) (bytes : List ℕ) (line : WorkLine)
    → (line_of format bytes ≡ Some line) ↔ (IsTrue (is_line format line) × (line_bytes line ≡ bytes))

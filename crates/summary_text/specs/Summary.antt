-- Summaries, how they are counted, and their text.
--   SummaryValue             how many edges each constraint has, and how many queries each class
--   nothing_counted          no constraint and no query
--   with_constraint n s      the next constraint has n edges
--   with_class class s       one query more has a class
--   queries_in s class       the number of queries of a class
--   class_total s            the sum of these numbers
--   HasRoom s                one query more can be counted
--   class_word class         the word of a class
--   line_of words            a line of these words
--   constraint_line c n      the line of constraint c, which has n edges
--   constraint_lines c ns    the lines of constraints, from constraint c on
--   class_line class n       the line of a class, which n queries have
--   summary_text_of s        the text: the lines of the constraints, and then those of the classes
use Rattle.std.specs.Prelude.{ℕ, ◌+◌, ◌-◌, ◌^◌, ◌<◌, List, [], ◌∷◌, ◌++◌, codes, decimal}
use Rattle.std.specs.List.{join_with_byte}
use Rattle.sel_algebra.specs.declared.vocabulary.Class.{Class}
use Rattle.sel_algebra.specs.declared.vocabulary.Class.TheVariants.{Constant, Linear, Quadratic}

-- the number of edges of each constraint, and the number of queries of each class
pub record SummaryValue : Type 0 where
  pub edges : List ℕ
  pub constant : ℕ
  pub linear : ℕ
  pub quadratic : ℕ

-- no constraint and no query
abbrev pub nothing_counted : SummaryValue
nothing_counted = record { edges = []; constant = 0; linear = 0; quadratic = 0 }

-- the next constraint has n edges
abbrev pub with_constraint : ℕ → SummaryValue → SummaryValue
with_constraint n s = record s { edges = s.edges ++ n ∷ [] }

-- one query more has the class
abbrev pub with_class : Class → SummaryValue → SummaryValue
with_class Constant s = record s { constant = s.constant + 1 }
with_class Linear s = record s { linear = s.linear + 1 }
with_class Quadratic s = record s { quadratic = s.quadratic + 1 }

-- the number of queries of a class
abbrev pub queries_in : SummaryValue → Class → ℕ
queries_in s Constant = s.constant
queries_in s Linear = s.linear
queries_in s Quadratic = s.quadratic

-- the sum of these numbers
abbrev pub class_total : SummaryValue → ℕ
class_total s = s.constant + s.linear + s.quadratic

-- one query more can be counted: there are fewer than the greatest u64
abbrev pub HasRoom : SummaryValue → Type 0
HasRoom s = class_total s < 2 ^ 64 - 1

-- ---- the text

-- the word of a class
abbrev pub class_word : Class → List ℕ
class_word Constant = codes "constant"
class_word Linear = codes "linear"
class_word Quadratic = codes "quadratic"

-- words with one space (byte 32) between two of them, then LF (byte 10)
abbrev pub line_of : List (List ℕ) → List ℕ
line_of words = join_with_byte 32 words ++ 10 ∷ []

-- the line of constraint c, which has n edges
abbrev pub constraint_line : ℕ → ℕ → List ℕ
constraint_line c n = line_of (codes "constraint" ∷ decimal c ∷ decimal n ∷ [])

-- the lines of constraints, from constraint c on, with their numbers of edges
abbrev pub constraint_lines : ℕ → List ℕ → List ℕ
constraint_lines c [] = []
constraint_lines c (n ∷ ns) = constraint_line c n ++ constraint_lines (c + 1) ns

-- the line of a class, which n queries have
abbrev pub class_line : Class → ℕ → List ℕ
class_line class n = line_of (codes "class" ∷ class_word class ∷ decimal n ∷ [])

-- the text: a line for each constraint, and then one for each class
abbrev pub summary_text_of : SummaryValue → List ℕ
summary_text_of s =
    constraint_lines 0 s.edges
    ++ (class_line Constant s.constant ++ (class_line Linear s.linear ++ class_line Quadratic s.quadratic))

-- The text of a path.
--   name_of names label             the name of a label
--   in_parentheses needed text      the text, in parentheses where they are needed
--   path_text_of names tree         the text of a path, whose labels have these names
use Rattle.std.specs.Prelude.{ℕ, Bool, true, false, ◌||◌, List, [], ◌++◌, codes}
use Rattle.std.specs.List.{slice_index_or}
use Rattle.path_pairs.specs.Trees.{Tree}
use Rattle.path_pairs.specs.Trees.Tree.{Step, Seq, Alt, Star, Opt}

-- the name at the label's number, and past the last name no byte
abbrev pub name_of : List (List ℕ) → ℕ → List ℕ
name_of names label = slice_index_or names label []

-- the text, in parentheses where they are needed
abbrev pub in_parentheses : Bool → List ℕ → List ℕ
in_parentheses false text = text
in_parentheses true text = codes "(" ++ (text ++ codes ")")

-- the path is a choice of two
abbrev pub is_alt : Tree → Bool
is_alt (Alt left right) = true
is_alt tree = false

-- the path is two paths in sequence
abbrev pub is_seq : Tree → Bool
is_seq (Seq first second) = true
is_seq tree = false

-- a step is `:` and the name of its label, behind `^` where it goes back; sequences and choices are read from the left, and
-- a sequence binds closer than a choice
abbrev pub path_text_of : List (List ℕ) → Tree → List ℕ
path_text_of names (Step label false) = codes ":" ++ name_of names label
path_text_of names (Step label true) = codes "^:" ++ name_of names label
path_text_of names (Seq first second) =
    in_parentheses (is_alt first) (path_text_of names first) ++ (codes "/" ++ in_parentheses (is_alt second || is_seq second) (path_text_of names second))
path_text_of names (Alt left right) = path_text_of names left ++ (codes "|" ++ in_parentheses (is_alt right) (path_text_of names right))
path_text_of names (Star child) = codes "(" ++ (path_text_of names child ++ codes ")*")
path_text_of names (Opt child) = codes "(" ++ (path_text_of names child ++ codes ")?")

-- What is still to be written of a path's text, as a list of which the last is written first.
--   is_alt_at, is_seq_at terms id    the term with a number is a choice, or a sequence
--   nested needed id                 a term, in parentheses where they are needed
--   after byte needed id             a byte, and then such a term
--   signed id sign                   a term in parentheses, with a sign behind them
--   step_text names t                the text of a step, and of another term no byte
--   step_names names t               the label of a step has a name
--   parts terms t                    what the text of a term that is no step consists of
--   todo_text names trees todo       the text of the list
--   item_names names trees item      each label of its path has a name
--   item_fits terms item             its number is that of a term
--   todo_weight trees todo           how much there is to do
use Rattle.std.specs.Prelude.{ℕ, ◌+◌, Bool, true, false, ◌||◌, nat_lt, Option, Some, List, [], ◌∷◌, ◌++◌, slice_get}
use Rattle.path_pairs.specs.Trees.{Tree}
use Rattle.query_terms.specs.declared.terms.Term.{Term}
use Rattle.query_terms.specs.declared.terms.Term.TheVariants.{Step, Seq, Alt, Star, Opt}
use Rattle.query_terms.specs.Trees.{tree_in}
use Rattle.sparql_emit.specs.declared.paths.Todo.{Todo}
use Rattle.sparql_emit.specs.declared.paths.Todo.TheVariants as todo
use Rattle.sparql_emit.specs.PathText.{path_text_of}
use Rattle.sparql_emit.specs.Laws.{has_names}

abbrev pub is_alt_term : Option Term → Bool
is_alt_term (Some (Alt left right)) = true
is_alt_term term = false

abbrev pub is_seq_term : Option Term → Bool
is_seq_term (Some (Seq first second)) = true
is_seq_term term = false

-- the term with the number is a choice of two
abbrev pub is_alt_at : List Term → ℕ → Bool
is_alt_at terms id = is_alt_term (slice_get terms id)

-- the term with the number is two in sequence
abbrev pub is_seq_at : List Term → ℕ → Bool
is_seq_at terms id = is_seq_term (slice_get terms id)

-- a term, in parentheses where they are needed
abbrev pub nested : Bool → ℕ → List Todo
nested false id = todo.Path id ∷ []
nested true id = todo.Byte 41 ∷ todo.After 40 id ∷ []

-- a byte, and then a term, in parentheses where they are needed
abbrev pub after : ℕ → Bool → ℕ → List Todo
after byte false id = todo.After byte id ∷ []
after byte true id = nested true id ++ todo.Byte byte ∷ []

-- a term in parentheses, with a sign behind them
abbrev pub signed : ℕ → ℕ → List Todo
signed id sign = todo.Byte sign ∷ nested true id

-- the text of a step, which is written at once
abbrev pub step_text : List (List ℕ) → Term → List ℕ
step_text names (Step label back) = path_text_of names (Tree.Step label back)
step_text names (Seq first second) = []
step_text names (Alt left right) = []
step_text names (Star child) = []
step_text names (Opt child) = []

abbrev pub step_names : List (List ℕ) → Term → Bool
step_names names (Step label back) = has_names names (Tree.Step label back)
step_names names (Seq first second) = true
step_names names (Alt left right) = true
step_names names (Star child) = true
step_names names (Opt child) = true

-- what the text of another term consists of, from its end
abbrev pub parts : List Term → Term → List Todo
parts terms (Step label back) = []
parts terms (Seq first second) = after 47 (is_alt_at terms second || is_seq_at terms second) second ++ nested (is_alt_at terms first) first
parts terms (Alt left right) = after 124 (is_alt_at terms right) right ++ todo.Path left ∷ []
parts terms (Star child) = signed child 42
parts terms (Opt child) = signed child 63

abbrev pub item_text : List (List ℕ) → List Tree → Todo → List ℕ
item_text names trees (todo.Byte byte) = byte ∷ []
item_text names trees (todo.Path id) = path_text_of names (tree_in trees id)
item_text names trees (todo.After byte id) = byte ∷ path_text_of names (tree_in trees id)

-- the last is written first
abbrev pub todo_text : List (List ℕ) → List Tree → List Todo → List ℕ
todo_text names trees [] = []
todo_text names trees (item ∷ items) = todo_text names trees items ++ item_text names trees item

abbrev pub item_names : List (List ℕ) → List Tree → Todo → Bool
item_names names trees (todo.Byte byte) = true
item_names names trees (todo.Path id) = has_names names (tree_in trees id)
item_names names trees (todo.After byte id) = has_names names (tree_in trees id)

abbrev pub item_fits : ℕ → Todo → Bool
item_fits terms (todo.Byte byte) = true
item_fits terms (todo.Path id) = nat_lt id terms
item_fits terms (todo.After byte id) = nat_lt id terms

-- more than that of what a tree consists of
abbrev pub tree_weight : Tree → ℕ
tree_weight (Tree.Step label back) = 1
tree_weight (Tree.Seq first second) = 6 + (tree_weight first + tree_weight second)
tree_weight (Tree.Alt left right) = 4 + (tree_weight left + tree_weight right)
tree_weight (Tree.Star child) = 4 + tree_weight child
tree_weight (Tree.Opt child) = 4 + tree_weight child

abbrev pub item_weight : List Tree → Todo → ℕ
item_weight trees (todo.Byte byte) = 1
item_weight trees (todo.Path id) = tree_weight (tree_in trees id)
item_weight trees (todo.After byte id) = 1 + tree_weight (tree_in trees id)

-- how much there is to do
abbrev pub todo_weight : List Tree → List Todo → ℕ
todo_weight trees [] = 0
todo_weight trees (item ∷ items) = item_weight trees item + todo_weight trees items

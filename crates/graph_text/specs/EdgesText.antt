-- The text of a list of triples: a line for each of them, in order.
--   node_most               the greatest number of a node
--   label_most              the greatest number of a label
--   line_most               the most bytes of a line
--   IsInRange triple        its numbers are at most those
--   edge_words triple       the words of its line
--   edge_bytes triple       the bytes of its line, without the LF that ends it
--   edge_line triple        its line
--   edges_text triples      the lines of these triples
--   IsReading text triples  the text is that of these triples, which are in range
--   IsLineOf line triple    a line of a text is that of a triple in range
--   IsEdgeLine line         a line of a text is that of some triple in range
--   IsFirstBadLine text n   line n of a text, counted from 1, is the first that isn't
--   AppendsPart old new text   a part of a text, from its start on, has been appended
--   ReadingIsUnique         a law: no text is that of two lists
use Rattle.std.specs.Prelude.{◌≡◌, ℕ, ◌-◌, ◌<◌, ◌≤◌, Bool, true, List, [], ◌∷◌, ◌++◌, take, slice_get, decimal, All, IsSomeAnd}
use Rattle.std.specs.List.{join_with_byte}
use Rattle.gm_text.specs.Lines.{lines_of}
use Rattle.graph_text.specs.declared.graphs.Triple.{Triple}

-- the greatest number of a node
abbrev pub node_most : ℕ
node_most = 999999

-- the greatest number of a label
abbrev pub label_most : ℕ
label_most = 63

-- the most bytes of a line: two nodes of six digits, a label of two, and three bytes more
abbrev pub line_most : ℕ
line_most = 17

-- both nodes and the label are at most those
pub record IsInRange (triple : Triple) : Type 0 where
  pub src : triple.src ≤ node_most
  pub label : triple.label ≤ label_most
  pub trg : triple.trg ≤ node_most

-- the decimals of its source, its label and its target
abbrev pub edge_words : Triple → List (List ℕ)
edge_words triple = decimal triple.src ∷ decimal triple.label ∷ decimal triple.trg ∷ []

-- its words, with one space (byte 32) between two of them
abbrev pub edge_bytes : Triple → List ℕ
edge_bytes triple = join_with_byte 32 (edge_words triple)

-- those bytes, then LF (byte 10)
abbrev pub edge_line : Triple → List ℕ
edge_line triple = edge_bytes triple ++ 10 ∷ []

-- the line of each triple, one after another
abbrev pub edges_text : List Triple → List ℕ
edges_text [] = []
edges_text (triple ∷ triples) = edge_line triple ++ edges_text triples

-- all numbers are in range, and the bytes are the lines of the triples
abbrev pub IsReading : List ℕ → List Triple → Type 0
IsReading text triples = All IsInRange triples × (edges_text triples ≡ text)

-- the triple is in range, and the line has its bytes and is ended
abbrev pub IsLineOf : List ℕ × Bool → Triple → Type 0
IsLineOf line triple = IsInRange triple × (line ≡ (edge_bytes triple, true))

-- some triple has this line
abbrev pub IsEdgeLine : List ℕ × Bool → Type 0
IsEdgeLine line = (triple : Triple) × IsLineOf line triple

-- each line before this one is a triple's, and this one is not
pub record IsFirstBadLine (text : List ℕ) (number : ℕ) : Type 0 where
  pub counted : 0 < number
  pub earlier : All IsEdgeLine (take (number - 1) (lines_of text))
  pub bad : IsSomeAnd (slice_get (lines_of text) (number - 1)) (λ line. ¬ IsEdgeLine line)

-- the new bytes are the old ones, then a number of bytes from the start of the text
abbrev pub AppendsPart : List ℕ → List ℕ → List ℕ → Type 0
AppendsPart old new text = (kept : ℕ) × (new ≡ old ++ take kept text)

-- triples in range with the same text are the same
abbrev pub ReadingIsUnique : Type 0
ReadingIsUnique = (text : List ℕ) (xs ys : List Triple) → IsReading text xs → IsReading text ys → xs ≡ ys

-- The pieces of a printed text, each part with the pieces behind it.
use Rattle.std.proofs.Common.{ℕ, zero, suc, Bool, true, false, ◌||◌, List, [], ◌∷◌, codes}
use Rattle.path_pairs.specs.Trees.{Tree}
use Rattle.path_pairs.specs.Trees.Tree.{Step, Seq, Alt, Star, Opt}
use Rattle.query_terms.specs.Values.{ConjunctValue, RuleValue, QueryValue, arity_of}
use Rattle.query_terms.specs.Laws.{tree_of_conjunct}
use Rattle.token_text.specs.Spelled.{Gap, Lexeme}
use Rattle.sparql_read.specs.Tokens.{Word, Mark, IriRef, Predicate, Variable, LeftBrace, RightBrace, Open, Close, Dot, Slash, Bar, Caret, Asterisk, Question}
use Rattle.sparql_read.specs.Tokens.{Prefix, Select, Distinct, Ask, Where, Union}
use Rattle.sparql_emit.specs.PathText.{name_of, is_alt, is_seq}
use Rattle.sparql_emit.specs.QueryText.{variable_of, head_names}
use Rattle.sparql_emit.proofs.Spelling.{Pieces}

abbrev pub nested_pieces : Bool → (Pieces → Pieces) → Pieces → Pieces
nested_pieces false part rest = part rest
nested_pieces true part rest = Lexeme Open ∷ part (Lexeme Close ∷ rest)

abbrev pub path_pieces : List (List ℕ) → Tree → Pieces → Pieces
path_pieces names (Step label false) rest = Lexeme (Predicate [] (name_of names label)) ∷ rest
path_pieces names (Step label true) rest = Lexeme Caret ∷ Lexeme (Predicate [] (name_of names label)) ∷ rest
path_pieces names (Seq a b) rest =
    nested_pieces (is_alt a) (path_pieces names a) (Lexeme Slash ∷ nested_pieces (is_alt b || is_seq b) (path_pieces names b) rest)
path_pieces names (Alt a b) rest = path_pieces names a (Lexeme Bar ∷ nested_pieces (is_alt b) (path_pieces names b) rest)
path_pieces names (Star a) rest = Lexeme Open ∷ path_pieces names a (Lexeme Close ∷ Lexeme Asterisk ∷ rest)
path_pieces names (Opt a) rest = Lexeme Open ∷ path_pieces names a (Lexeme Close ∷ Lexeme Question ∷ rest)

abbrev pub variable_pieces : List ℕ → Pieces → Pieces
variable_pieces name rest = Gap 32 ∷ Lexeme (Variable name) ∷ rest

abbrev pub conjunct_pieces : List (List ℕ) → List ℕ → List ℕ → ConjunctValue → Pieces → Pieces
conjunct_pieces names labels heads c rest =
    variable_pieces (variable_of heads c.src)
    (Gap 32 ∷ path_pieces names (tree_of_conjunct labels c) (variable_pieces (variable_of heads c.trg) (Gap 32 ∷ Lexeme Dot ∷ rest)))

abbrev pub conjuncts_pieces : List (List ℕ) → List ℕ → List ℕ → List ConjunctValue → Pieces → Pieces
conjuncts_pieces names labels heads [] rest = rest
conjuncts_pieces names labels heads (c ∷ cs) rest = conjunct_pieces names labels heads c (conjuncts_pieces names labels heads cs rest)

abbrev pub rule_pieces : List (List ℕ) → List ℕ → RuleValue → Pieces → Pieces
rule_pieces names labels r rest =
    Lexeme LeftBrace ∷ conjuncts_pieces names labels r.heads r.conjuncts (Gap 32 ∷ Lexeme RightBrace ∷ Gap 10 ∷ rest)

-- each rule behind a line UNION
abbrev pub more_pieces : List (List ℕ) → List ℕ → List RuleValue → Pieces → Pieces
more_pieces names labels [] rest = rest
more_pieces names labels (r ∷ rs) rest = Lexeme (Word Union) ∷ Gap 10 ∷ rule_pieces names labels r (more_pieces names labels rs rest)

abbrev pub rules_pieces : List (List ℕ) → List ℕ → List RuleValue → Pieces → Pieces
rules_pieces names labels [] rest = rest
rules_pieces names labels (r ∷ rs) rest = rule_pieces names labels r (more_pieces names labels rs rest)

abbrev pub variables_pieces : List (List ℕ) → Pieces → Pieces
variables_pieces [] rest = rest
variables_pieces (x ∷ xs) rest = variable_pieces x (variables_pieces xs rest)

-- ` WHERE {` and the end of the line
abbrev pub where_pieces : Pieces → Pieces
where_pieces rest = Gap 32 ∷ Lexeme (Word Where) ∷ Gap 32 ∷ Lexeme LeftBrace ∷ Gap 10 ∷ rest

abbrev pub heads_pieces : ℕ → Pieces → Pieces
heads_pieces zero rest = Lexeme (Word Ask) ∷ where_pieces rest
heads_pieces (suc n) rest =
    Lexeme (Word Select) ∷ Gap 32 ∷ Lexeme (Word Distinct) ∷ variables_pieces (head_names (suc n)) (where_pieces rest)

-- the last line
abbrev pub end_pieces : Pieces
end_pieces = Lexeme RightBrace ∷ Gap 10 ∷ []

abbrev pub text_pieces : List (List ℕ) → QueryValue → Pieces
text_pieces names q =
    Lexeme (Word Prefix) ∷ Gap 32 ∷ Lexeme (Mark []) ∷ Gap 32 ∷ Lexeme (IriRef (codes "http://gmark.example/")) ∷ Gap 10
    ∷ heads_pieces (arity_of q.rules) (rules_pieces names q.labels q.rules end_pieces)

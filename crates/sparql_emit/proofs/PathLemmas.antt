-- The text of a path is spelled of its pieces, whose tokens are read as the path.
use Rattle.std.proofs.Common.{◌≡◌, ℕ, Bool, true, false, ◌||◌, List, ◌∷◌, ◌++◌, codes, refl, ap, ◌∙◌}
use Rattle.std.proofs.lemmas.List.{append_assoc}
use Rattle.path_pairs.specs.Trees.{Tree}
use Rattle.path_pairs.specs.Trees.Tree.{Step, Seq, Alt, Star, Opt}
use Rattle.token_text.specs.Spelled.{spelled, lexemes, Lexeme}
use Rattle.sparql_read.specs.Tokens.{Token, Open, Close, Slash, Bar, Asterisk, Question}
use Rattle.sparql_read.specs.Grammar.{Path, IsPath, IsSeq, IsElt, one_seq, more_alt, one_elt, more_seq, plain, inverse, bare, star, opt, predicate, nested}
use Rattle.sparql_emit.specs.PathText.{in_parentheses, is_alt, is_seq, path_text_of}
use Rattle.sparql_emit.specs.Printed.{path_of}
use Rattle.sparql_emit.proofs.Spelling.{spell, Pieces}
use Rattle.sparql_emit.proofs.Pieces.{nested_pieces, path_pieces}

abbrev pub text : Pieces → List ℕ
text ps = spelled spell ps

spells_nested : (b : Bool) (w : List ℕ) (part : Pieces → Pieces) → ((rest : Pieces) → w ++ text rest ≡ text (part rest)) → (rest : Pieces)
    → in_parentheses b w ++ text rest ≡ text (nested_pieces b part rest)
spells_nested false w part spells rest = spells rest
spells_nested true w part spells rest = ap (λ (bs : List ℕ). 40 ∷ bs) (append_assoc w (codes ")") (text rest) ∙ spells (Lexeme Close ∷ rest))

pub spells_path : (names : List (List ℕ)) (t : Tree) (rest : Pieces) → path_text_of names t ++ text rest ≡ text (path_pieces names t rest)
spells_path names (Step label false) rest = refl
spells_path names (Step label true) rest = refl
spells_path names (Seq a b) rest =
    let second = in_parentheses (is_alt b || is_seq b) (path_text_of names b) in
    let behind = nested_pieces (is_alt b || is_seq b) (path_pieces names b) rest in
    append_assoc (in_parentheses (is_alt a) (path_text_of names a)) (47 ∷ second) (text rest)
    ∙ (ap (λ (bs : List ℕ). in_parentheses (is_alt a) (path_text_of names a) ++ (47 ∷ bs))
    (spells_nested (is_alt b || is_seq b) (path_text_of names b) (path_pieces names b) (spells_path names b) rest)
    ∙ spells_nested (is_alt a) (path_text_of names a) (path_pieces names a) (spells_path names a) (Lexeme Slash ∷ behind))
spells_path names (Alt a b) rest =
    let second = in_parentheses (is_alt b) (path_text_of names b) in
    append_assoc (path_text_of names a) (124 ∷ second) (text rest)
    ∙ (ap (λ (bs : List ℕ). path_text_of names a ++ (124 ∷ bs)) (spells_nested (is_alt b) (path_text_of names b) (path_pieces names b) (spells_path names b) rest)
    ∙ spells_path names a (Lexeme Bar ∷ nested_pieces (is_alt b) (path_pieces names b) rest))
spells_path names (Star a) rest =
    ap (λ (bs : List ℕ). 40 ∷ bs) (append_assoc (path_text_of names a) (codes ")*") (text rest) ∙ spells_path names a (Lexeme Close ∷ Lexeme Asterisk ∷ rest))
spells_path names (Opt a) rest =
    ap (λ (bs : List ℕ). 40 ∷ bs) (append_assoc (path_text_of names a) (codes ")?") (text rest) ∙ spells_path names a (Lexeme Close ∷ Lexeme Question ∷ rest))

-- how closely a tree binds: a choice is read as a path, a sequence as a sequence, and each other tree as an element
abbrev IsReadAs : Tree → List Token → Path → List Token → Type 0
IsReadAs (Alt a b) ts p rest = IsPath ts p rest
IsReadAs (Seq a b) ts p rest = IsSeq ts p rest
IsReadAs t ts p rest = IsElt ts p rest

as_path : (t : Tree) {ts : List Token} {p : Path} {rest : List Token} → IsReadAs t ts p rest → IsPath ts p rest
as_path (Alt a b) r = r
as_path (Seq a b) r = one_seq r
as_path (Step label back) r = one_seq (one_elt r)
as_path (Star a) r = one_seq (one_elt r)
as_path (Opt a) r = one_seq (one_elt r)

-- the tree's own pieces are read as it
abbrev IsRead : List (List ℕ) → Tree → Type 0
IsRead names t = (rest : Pieces) → IsReadAs t (lexemes (path_pieces names t rest)) (path_of names t) (lexemes rest)

-- in parentheses each tree is an element
nested_elt : (names : List (List ℕ)) (t : Tree) → IsRead names t → (rest : Pieces)
    → IsElt (Open ∷ lexemes (path_pieces names t (Lexeme Close ∷ rest))) (path_of names t) (lexemes rest)
nested_elt names t reads rest = plain (bare (nested (as_path t (reads (Lexeme Close ∷ rest)))))

as_seq : (names : List (List ℕ)) (t : Tree) → IsRead names t → (rest : Pieces)
    → IsSeq (lexemes (nested_pieces (is_alt t) (path_pieces names t) rest)) (path_of names t) (lexemes rest)
as_seq names (Alt a b) reads rest = one_elt (nested_elt names (Alt a b) reads rest)
as_seq names (Seq a b) reads rest = reads rest
as_seq names (Step label back) reads rest = one_elt (reads rest)
as_seq names (Star a) reads rest = one_elt (reads rest)
as_seq names (Opt a) reads rest = one_elt (reads rest)

as_elt : (names : List (List ℕ)) (t : Tree) → IsRead names t → (rest : Pieces)
    → IsElt (lexemes (nested_pieces (is_alt t || is_seq t) (path_pieces names t) rest)) (path_of names t) (lexemes rest)
as_elt names (Alt a b) reads rest = nested_elt names (Alt a b) reads rest
as_elt names (Seq a b) reads rest = nested_elt names (Seq a b) reads rest
as_elt names (Step label back) reads rest = reads rest
as_elt names (Star a) reads rest = reads rest
as_elt names (Opt a) reads rest = reads rest

is_read : (names : List (List ℕ)) (t : Tree) → IsRead names t
is_read names (Step label false) rest = plain (bare predicate)
is_read names (Step label true) rest = inverse (bare predicate)
is_read names (Seq a b) rest =
    more_seq (as_seq names a (is_read names a) (Lexeme Slash ∷ nested_pieces (is_alt b || is_seq b) (path_pieces names b) rest))
    (as_elt names b (is_read names b) rest)
is_read names (Alt a b) rest =
    more_alt (as_path a (is_read names a (Lexeme Bar ∷ nested_pieces (is_alt b) (path_pieces names b) rest))) (as_seq names b (is_read names b) rest)
is_read names (Star a) rest = plain (star (nested (as_path a (is_read names a (Lexeme Close ∷ Lexeme Asterisk ∷ rest)))))
is_read names (Opt a) rest = plain (opt (nested (as_path a (is_read names a (Lexeme Close ∷ Lexeme Question ∷ rest)))))

-- the tokens of a path's pieces are read as the path
pub reads_path : (names : List (List ℕ)) (t : Tree) (rest : Pieces) → IsPath (lexemes (path_pieces names t rest)) (path_of names t) (lexemes rest)
reads_path names t rest = as_path t (is_read names t rest)

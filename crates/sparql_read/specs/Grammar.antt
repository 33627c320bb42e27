-- The grammar of SPARQL texts over their tokens. Each relation says that tokens begin with a part, and what is behind
-- it.
--   IsPath ts p rest       with the path p
--   IsTriples ts ps rest   with triples, whose patterns are ps
--   IsBody ts gs rest      with triples or groups, whose patterns are gs
--   IsText ts mark asked   the tokens are a text that declares a mark and asks this
use Rattle.std.specs.Prelude.{◌≡◌, ℕ, Bool, true, false, List, [], ◌∷◌}
use Rattle.sparql_read.specs.Tokens.{Token, Word, Mark, IriRef, Predicate, Variable, LeftBrace, RightBrace, Open, Close, Dot, Slash, Bar, Caret, Asterisk, PlusSign, Question}
use Rattle.sparql_read.specs.Tokens.{Prefix, Select, Distinct, Ask, Where, Union}

-- a property path; a predicate is its local name
pub data Path : Type 0 where
  Iri : (name : List ℕ) → Path
  Inverse : Path → Path
  Seq : Path → Path → Path
  Alt : Path → Path → Path
  Star : Path → Path
  Plus : Path → Path
  Opt : Path → Path

mutual
  -- Path = Seq { "|" Seq }, from the left
  pub data IsPath : List Token → Path → List Token → Type 0 where
    one_seq : {ts : List Token} {p : Path} {rest : List Token} → IsSeq ts p rest → IsPath ts p rest
    more_alt : {ts : List Token} {p : Path} {mid : List Token} {q : Path} {rest : List Token}
        → IsPath ts p (Bar ∷ mid) → IsSeq mid q rest → IsPath ts (Alt p q) rest

  -- Seq = Elt { "/" Elt }, from the left
  pub data IsSeq : List Token → Path → List Token → Type 0 where
    one_elt : {ts : List Token} {p : Path} {rest : List Token} → IsElt ts p rest → IsSeq ts p rest
    more_seq : {ts : List Token} {p : Path} {mid : List Token} {q : Path} {rest : List Token}
        → IsSeq ts p (Slash ∷ mid) → IsElt mid q rest → IsSeq ts (Seq p q) rest

  -- Elt = ["^"] Prim ["*" | "+" | "?"]
  pub data IsElt : List Token → Path → List Token → Type 0 where
    plain : {ts : List Token} {p : Path} {rest : List Token} → IsSigned ts p rest → IsElt ts p rest
    inverse : {ts : List Token} {p : Path} {rest : List Token} → IsSigned ts p rest
        → IsElt (Caret ∷ ts) (Inverse p) rest

  -- Prim ["*" | "+" | "?"]
  pub data IsSigned : List Token → Path → List Token → Type 0 where
    bare : {ts : List Token} {p : Path} {rest : List Token} → IsPrim ts p rest → IsSigned ts p rest
    star : {ts : List Token} {p : Path} {rest : List Token} → IsPrim ts p (Asterisk ∷ rest) → IsSigned ts (Star p) rest
    plus : {ts : List Token} {p : Path} {rest : List Token} → IsPrim ts p (PlusSign ∷ rest) → IsSigned ts (Plus p) rest
    opt : {ts : List Token} {p : Path} {rest : List Token} → IsPrim ts p (Question ∷ rest) → IsSigned ts (Opt p) rest

  -- Prim = Predicate | "(" Path ")"
  pub data IsPrim : List Token → Path → List Token → Type 0 where
    predicate : {mark name : List ℕ} {rest : List Token} → IsPrim (Predicate mark name ∷ rest) (Iri name) rest
    nested : {ts : List Token} {p : Path} {rest : List Token} → IsPath ts p (Close ∷ rest) → IsPrim (Open ∷ ts) p rest

-- a path between two variables
pub record Pattern : Type 0 where
  pub subject : List ℕ
  pub path : Path
  pub object : List ℕ

-- Triple = Var Path Var
pub data IsTriple : List Token → Pattern → List Token → Type 0 where
  triple : {s o : List ℕ} {p : Path} {ts rest : List Token} → IsPath ts p (Variable o ∷ rest)
      → IsTriple (Variable s ∷ ts) (record { subject = s; path = p; object = o }) rest

-- Triples = Triple { "." Triple } ["."]
pub data IsTriples : List Token → List Pattern → List Token → Type 0 where
  one_triple : {ts rest : List Token} {p : Pattern} → IsTriple ts p rest → IsTriples ts (p ∷ []) rest
  dotted : {ts rest : List Token} {p : Pattern} → IsTriple ts p (Dot ∷ rest) → IsTriples ts (p ∷ []) rest
  more_triples : {ts mid rest : List Token} {p : Pattern} {ps : List Pattern} → IsTriple ts p (Dot ∷ mid)
      → IsTriples mid ps rest
      → IsTriples ts (p ∷ ps) rest

-- Group = "{" Triples "}"
pub data IsGroup : List Token → List Pattern → List Token → Type 0 where
  group : {ts rest : List Token} {ps : List Pattern} → IsTriples ts ps (RightBrace ∷ rest)
      → IsGroup (LeftBrace ∷ ts) ps rest

-- Group { UNION Group }
pub data IsGroups : List Token → List (List Pattern) → List Token → Type 0 where
  one_group : {ts rest : List Token} {ps : List Pattern} → IsGroup ts ps rest → IsGroups ts (ps ∷ []) rest
  more_groups : {ts mid rest : List Token} {ps : List Pattern} {gs : List (List Pattern)}
      → IsGroup ts ps (Word Union ∷ mid) → IsGroups mid gs rest
      → IsGroups ts (ps ∷ gs) rest

-- Body = Triples | Group { UNION Group }
pub data IsBody : List Token → List (List Pattern) → List Token → Type 0 where
  triples : {ts rest : List Token} {ps : List Pattern} → IsTriples ts ps rest → IsBody ts (ps ∷ []) rest
  groups : {ts rest : List Token} {gs : List (List Pattern)} → IsGroups ts gs rest → IsBody ts gs rest

-- what a text asks: the selected variables, none for ASK, and groups of patterns
pub record Asked : Type 0 where
  pub heads : List (List ℕ)
  pub groups : List (List Pattern)

-- { Var }
abbrev pub variables_then : List (List ℕ) → List Token → List Token
variables_then [] rest = rest
variables_then (x ∷ xs) rest = Variable x ∷ variables_then xs rest

-- SELECT DISTINCT Var { Var } | ASK
abbrev pub heads_then : List (List ℕ) → List Token → List Token
heads_then [] rest = Word Ask ∷ rest
heads_then (x ∷ xs) rest = Word Select ∷ Word Distinct ∷ Variable x ∷ variables_then xs rest

-- [WHERE] "{"
abbrev pub brace_then : Bool → List Token → List Token
brace_then false rest = LeftBrace ∷ rest
brace_then true rest = Word Where ∷ LeftBrace ∷ rest

-- Text = PREFIX Mark IRI ( SELECT DISTINCT Var { Var } | ASK ) [WHERE] "{" Body "}"
pub record IsText (ts : List Token) (mark : List ℕ) (asked : Asked) : Type 0 where
  pub iri : List ℕ
  pub has_where : Bool
  pub body : List Token
  pub is : ts ≡ Word Prefix ∷ Mark mark ∷ IriRef iri ∷ heads_then asked.heads (brace_then has_where body)
  pub body_is : IsBody body asked.groups (RightBrace ∷ [])

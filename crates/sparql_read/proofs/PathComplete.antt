-- What the grammar reads as a path the machine reads.
use Rattle.std.proofs.Common.{◌≡◌, true, false, Option, Some, None, List, [], ◌∷◌, refl, ◌∙◌}
use Rattle.sparql_read.specs.Tokens.{Token, Variable, Slash, Asterisk, PlusSign, Question}
use Rattle.sparql_read.specs.Grammar.{Path, Inverse, Seq, Alt, IsPath, one_seq, more_alt, IsSeq, one_elt, more_seq, IsElt, plain, inverse, IsSigned, bare, star, plus, opt, IsPrim, predicate, nested}
use Rattle.sparql_read.specs.PathMachine.{Frame, frame, empty, Want, Have, Done, run, reading}

-- the tokens begin with a variable
abbrev pub Stops : List Token → Type 0
Stops [] = ⊥
Stops (Variable name ∷ rest) = Unit {0}
Stops (_ ∷ rest) = ⊥

-- no sign of an element stands first
abbrev pub NoSign : List Token → Type 0
NoSign (Asterisk ∷ rest) = ⊥
NoSign (PlusSign ∷ rest) = ⊥
NoSign (Question ∷ rest) = ⊥
NoSign _ = Unit {0}

-- no sign of an element and no slash stands first
abbrev pub NoMore : List Token → Type 0
NoMore (Slash ∷ rest) = ⊥
NoMore ts = NoSign ts

no_sign : (rest : List Token) → NoMore rest → NoSign rest
no_sign [] p = p
no_sign (Slash ∷ rest) p = tt
no_sign (_ ∷ rest) p = p

unsigned : (rest : List Token) → NoSign rest → (t : Path) (fs : List Frame) (f : Frame)
    → run rest (Have t) fs f ≡ run rest (Done t) fs f
unsigned [] p t fs f = refl
unsigned (Asterisk ∷ rest) p t fs f = absurd p
unsigned (PlusSign ∷ rest) p t fs f = absurd p
unsigned (Question ∷ rest) p t fs f = absurd p
unsigned (_ ∷ rest) p t fs f = refl

inverted : (rest : List Token) (t : Path) (fs : List Frame) (alt seq : Option Path)
    → run rest (Done t) fs (frame alt seq true) ≡ run rest (Done (Inverse t)) fs (frame alt seq false)
inverted [] t fs alt seq = refl
inverted (_ ∷ rest) t fs alt seq = refl

sequenced : (rest : List Token) (a b : Path) (fs : List Frame) (alt : Option Path)
    → run rest (Done b) fs (frame alt (Some a) false) ≡ run rest (Done (Seq a b)) fs (frame alt None false)
sequenced [] a b fs alt = refl
sequenced (_ ∷ rest) a b fs alt = refl

joined : (rest : List Token) → NoMore rest → (a b : Path) (fs : List Frame)
    → run rest (Done b) fs (frame (Some a) None false) ≡ run rest (Done (Alt a b)) fs (frame None None false)
joined [] p a b fs = refl
joined (Slash ∷ rest) p a b fs = absurd p
joined (_ ∷ rest) p a b fs = refl

mutual
  path_runs : {ts : List Token} {t : Path} {rest : List Token} → IsPath ts t rest → NoMore rest → (fs : List Frame)
      → run ts Want fs empty ≡ run rest (Done t) fs empty
  path_runs (one_seq {rest = rest} s) p fs = seq_runs s (no_sign rest p) fs None
  path_runs (more_alt {p = a} {q = b} {rest = rest} s q) p fs = path_runs s tt fs ∙ (seq_runs q (no_sign rest p) fs (Some a) ∙ joined rest p a b fs)

  seq_runs : {ts : List Token} {t : Path} {rest : List Token} → IsSeq ts t rest → NoSign rest → (fs : List Frame) (alt : Option Path)
      → run ts Want fs (frame alt None false) ≡ run rest (Done t) fs (frame alt None false)
  seq_runs (one_elt e) p fs alt = elt_runs e p fs alt None
  seq_runs (more_seq {p = a} {q = b} {rest = rest} s e) p fs alt = seq_runs s tt fs alt ∙ (elt_runs e p fs alt (Some a) ∙ sequenced rest a b fs alt)

  elt_runs : {ts : List Token} {t : Path} {rest : List Token} → IsElt ts t rest → NoSign rest → (fs : List Frame) (alt seq : Option Path)
      → run ts Want fs (frame alt seq false) ≡ run rest (Done t) fs (frame alt seq false)
  elt_runs (plain s) p fs alt seq = signed_runs s p fs (frame alt seq false)
  elt_runs (inverse {p = t} {rest = rest} s) p fs alt seq = signed_runs s p fs (frame alt seq true) ∙ inverted rest t fs alt seq

  signed_runs : {ts : List Token} {t : Path} {rest : List Token} → IsSigned ts t rest → NoSign rest → (fs : List Frame) (f : Frame)
      → run ts Want fs f ≡ run rest (Done t) fs f
  signed_runs (bare {p = t} {rest = rest} s) p fs f = prim_runs s fs f ∙ unsigned rest p t fs f
  signed_runs (star s) p fs f = prim_runs s fs f
  signed_runs (plus s) p fs f = prim_runs s fs f
  signed_runs (opt s) p fs f = prim_runs s fs f

  prim_runs : {ts : List Token} {t : Path} {rest : List Token} → IsPrim ts t rest → (fs : List Frame) (f : Frame)
      → run ts Want fs f ≡ run rest (Have t) fs f
  prim_runs predicate fs f = refl
  prim_runs (nested s) fs f = path_runs s tt (f ∷ fs)

stops : (rest : List Token) → Stops rest → NoMore rest
stops [] p = absurd p
stops (Variable name ∷ rest) p = tt
stops (_ ∷ rest) p = absurd p

ends : (rest : List Token) → Stops rest → (t : Path) → run rest (Done t) [] empty ≡ Some (t, rest)
ends [] p t = absurd p
ends (Variable name ∷ rest) p t = refl
ends (_ ∷ rest) p t = absurd p

pub reads : (ts : List Token) (t : Path) (rest : List Token) → Stops rest → IsPath ts t rest → reading ts ≡ Some (t, rest)
reads ts t rest p path = path_runs path (stops rest p) [] ∙ ends rest p t

-- What the machine reads as a path the grammar reads.
use Rattle.std.proofs.Common.{◌≡◌, ℕ, Bool, true, false, Option, Some, None, List, [], ◌∷◌, refl, sym, subst}
use Rattle.sparql_read.specs.Tokens.{Token, Predicate, Variable, Open, Close, Slash, Bar, Caret, Asterisk, PlusSign, Question}
use Rattle.sparql_read.specs.Grammar.{Path, Inverse, IsPath, one_seq, more_alt, IsSeq, one_elt, more_seq, IsElt, plain, inverse, IsSigned, bare, star, plus, opt, IsPrim, predicate, nested}
use Rattle.sparql_read.specs.PathMachine.{Frame, frame, empty, Mode, Want, Have, Done, Next, Go, Stop, Fail, with_caret, with_seq, with_alt, seq_of, path_of, closed, stopped, want, done, have, step, go_on, run, Reading, reading}
use Rattle.sparql_read.proofs.PathComplete.{Stops}

abbrev pub AltTo : Option Path → List Token → List Token → Type 0
AltTo None start here = here ≡ start
AltTo (Some a) start here = IsPath start a (Bar ∷ here)

abbrev pub SeqTo : Option Path → List Token → List Token → Type 0
SeqTo None start here = here ≡ start
SeqTo (Some a) start here = IsSeq start a (Slash ∷ here)

abbrev pub CaretTo : Bool → List Token → List Token → Type 0
CaretTo false start here = here ≡ start
CaretTo true start here = (Caret ∷ here) ≡ start

-- from the start of a level to here these parts were read
pub record Level (f : Frame) (start here : List Token) : Type 0 where
  pub seq_start : List Token
  pub elt_start : List Token
  pub alts : AltTo (elim f [ frame alt seq caret ↦ alt ]) start seq_start
  pub seqs : SeqTo (elim f [ frame alt seq caret ↦ seq ]) seq_start elt_start
  pub carets : CaretTo (elim f [ frame alt seq caret ↦ caret ]) elt_start here

abbrev pub Below : List Token → List Frame → List Token → Type 0
Below all [] start = all ≡ start
Below all (f ∷ fs) start = (outer : List Token) × Below all fs outer × Level f outer (Open ∷ start)

pub record At (all : List Token) (fs : List Frame) (f : Frame) (here : List Token) : Type 0 where
  pub start : List Token
  pub below : Below all fs start
  pub level : Level f start here

abbrev pub Holds : List Token → Mode → List Frame → Frame → List Token → Type 0
Holds all Want fs f here = At all fs f here
Holds all (Have t) fs f here = (from : List Token) × At all fs f from × IsPrim from t here
Holds all (Done t) fs f here = (from : List Token) × At all fs f from × IsSigned from t here

abbrev pub Good : List Token → Next → Token → List Token → Type 0
Good all (Go m fs f) tk ts = Holds all m fs f ts
Good all (Stop t) tk ts = Stops (tk ∷ ts) × IsPath all t (tk ∷ ts)
Good all Fail tk ts = Unit {0}

abbrev pub GoodReading : List Token → Reading → Type 0
GoodReading all None = Unit {0}
GoodReading all (Some found) = Stops found.1 × IsPath all found.0 found.1

elt_read : (caret : Bool) (t : Path) (start here rest : List Token) → CaretTo caret start here → IsSigned here t rest
    → IsElt start (with_caret caret t) rest
elt_read false t start here rest e s = subst (λ x. IsElt x t rest) e (plain s)
elt_read true t start here rest e s = subst (λ x. IsElt x (Inverse t) rest) e (inverse s)

seq_read : (seq : Option Path) (t : Path) (start here rest : List Token) → SeqTo seq start here → IsElt here t rest
    → IsSeq start (with_seq seq t) rest
seq_read None t start here rest e s = subst (λ x. IsSeq x t rest) e (one_elt s)
seq_read (Some a) t start here rest e s = more_seq e s

path_read : (alt : Option Path) (t : Path) (start here rest : List Token) → AltTo alt start here → IsSeq here t rest
    → IsPath start (with_alt alt t) rest
path_read None t start here rest e s = subst (λ x. IsPath x t rest) e (one_seq s)
path_read (Some a) t start here rest e s = more_alt e s

seq_level : (alt seq : Option Path) (caret : Bool) (t : Path) (start from here : List Token) (l : Level (frame alt seq caret) start from)
    → IsSigned from t here → IsSeq l.seq_start (seq_of seq caret t) here
seq_level alt seq caret t start from here l s =
    seq_read seq _ _ _ here l.seqs (elt_read caret t _ _ here l.carets s)

path_level : (f : Frame) (t : Path) (start from here : List Token) (l : Level f start from)
    → IsSigned from t here → IsPath start (path_of f t) here
path_level (frame alt seq caret) t start from here l s =
    path_read alt _ _ _ here l.alts (seq_level alt seq caret t start from here l s)

close_good : (all : List Token) (fs : List Frame) (t : Path) (start ts : List Token) → Below all fs start → IsPath start t (Close ∷ ts)
    → Good all (closed fs t) Close ts
close_good all [] t start ts b p = tt
close_good all (f ∷ fs) t start ts b p = (Open ∷ start, record { start = b.0; below = b.1; level = b.2 }, nested p)

stop_good : (all : List Token) (fs : List Frame) (t : Path) (start : List Token) (name : List ℕ) (ts : List Token) → Below all fs start
    → IsPath start t (Variable name ∷ ts) → Good all (stopped fs t) (Variable name) ts
stop_good all [] t start name ts b p = (tt, subst (λ x. IsPath x t (Variable name ∷ ts)) (sym b) p)
stop_good all (f ∷ fs) t start name ts b p = tt

done_good : (all : List Token) (t : Path) (fs : List Frame) (f : Frame) (tk : Token) (ts from : List Token) (a : At all fs f from)
    → IsSigned from t (tk ∷ ts) → Good all (done t fs f tk) tk ts
done_good all t fs (frame alt seq caret) Slash ts from a s = record {
  start = a.start;
  below = a.below;
  level = record { seq_start = a.level.seq_start; elt_start = ts; alts = a.level.alts; seqs = seq_level alt seq caret t _ _ _ a.level s; carets = refl };
}
done_good all t fs f Bar ts from a s = record {
  start = a.start;
  below = a.below;
  level = record { seq_start = ts; elt_start = ts; alts = path_level f t _ _ _ a.level s; seqs = refl; carets = refl };
}
done_good all t fs f Close ts from a s = close_good all fs _ _ ts a.below (path_level f t _ _ _ a.level s)
done_good all t fs f (Variable name) ts from a s = stop_good all fs _ _ name ts a.below (path_level f t _ _ _ a.level s)
done_good all t fs f _ ts from a s = tt

have_good : (all : List Token) (t : Path) (fs : List Frame) (f : Frame) (tk : Token) (ts from : List Token) (a : At all fs f from)
    → IsPrim from t (tk ∷ ts) → Good all (have t fs f tk) tk ts
have_good all t fs f Asterisk ts from a s = (from, a, star s)
have_good all t fs f PlusSign ts from a s = (from, a, plus s)
have_good all t fs f Question ts from a s = (from, a, opt s)
have_good all t fs f tk ts from a s = done_good all t fs f tk ts from a (bare s)

want_good : (all : List Token) (fs : List Frame) (f : Frame) (tk : Token) (ts : List Token) (a : At all fs f (tk ∷ ts))
    → Good all (want fs f tk) tk ts
want_good all fs f (Predicate mark name) ts a = (Predicate mark name ∷ ts, a, predicate)
want_good all fs f Open ts a = record {
  start = ts;
  below = (a.start, a.below, a.level);
  level = record { seq_start = ts; elt_start = ts; alts = refl; seqs = refl; carets = refl };
}
want_good all fs (frame alt seq false) Caret ts a = record {
  start = a.start;
  below = a.below;
  level = record { seq_start = a.level.seq_start; elt_start = a.level.elt_start; alts = a.level.alts; seqs = a.level.seqs; carets = a.level.carets };
}
want_good all fs f _ ts a = tt

step_good : (all : List Token) (m : Mode) (fs : List Frame) (f : Frame) (tk : Token) (ts : List Token) → Holds all m fs f (tk ∷ ts)
    → Good all (step m fs f tk) tk ts
step_good all Want fs f tk ts a = want_good all fs f tk ts a
step_good all (Have t) fs f tk ts h = have_good all t fs f tk ts h.0 h.1 h.2
step_good all (Done t) fs f tk ts h = done_good all t fs f tk ts h.0 h.1 h.2

next_good : (all : List Token) (n : Next) (tk : Token) (ts : List Token) → Good all n tk ts
    → ((m : Mode) (fs : List Frame) (f : Frame) → Holds all m fs f ts → GoodReading all (run ts m fs f))
    → GoodReading all (go_on n (run ts) (tk ∷ ts))
next_good all (Go m fs f) tk ts g more = more m fs f g
next_good all (Stop t) tk ts g more = g
next_good all Fail tk ts g more = tt

run_good : (all ts : List Token) (m : Mode) (fs : List Frame) (f : Frame) → Holds all m fs f ts → GoodReading all (run ts m fs f)
run_good all [] m fs f h = tt
run_good all (tk ∷ ts) m fs f h = next_good all (step m fs f tk) tk ts (step_good all m fs f tk ts h) (run_good all ts)

pub reading_good : (ts : List Token) → GoodReading ts (reading ts)
reading_good ts = run_good ts ts Want [] empty record {
  start = ts;
  below = refl;
  level = record { seq_start = ts; elt_start = ts; alts = refl; seqs = refl; carets = refl };
}

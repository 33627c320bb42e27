-- A machine that reads a path token by token, with a stack of its own.
use Rattle.std.specs.Prelude.{Bool, true, false, Option, Some, None, List, [], ◌∷◌}
use Rattle.sparql_read.specs.Tokens.{Token, Predicate, Variable, Open, Close, Slash, Bar, Caret, Asterisk, PlusSign, Question}
use Rattle.sparql_read.specs.Grammar.{Path, Iri, Inverse, Seq, Alt, Star, Plus, Opt}

-- what was read at one level of parentheses: the alternatives before the last `|`, the sequence before the last `/`,
-- and a `^`
pub data Frame : Type 0 where
  frame : (alt seq : Option Path) (caret : Bool) → Frame

-- a level at which nothing was read
abbrev pub empty : Frame
empty = frame None None false

-- what comes next: an element; a sign behind a primary; what follows an element
pub data Mode : Type 0 where
  Want : Mode
  Have : Path → Mode
  Done : Path → Mode

-- the machine goes on, or the path ended before this token, or there is none
pub data Next : Type 0 where
  Go : Mode → List Frame → Frame → Next
  Stop : Path → Next
  Fail : Next

-- a path behind `^`, if there is one
abbrev pub with_caret : Bool → Path → Path
with_caret false p = p
with_caret true p = Inverse p

-- a path behind a sequence and `/`, if there are such
abbrev pub with_seq : Option Path → Path → Path
with_seq None p = p
with_seq (Some a) p = Seq a p

-- a path behind alternatives and `|`, if there are such
abbrev pub with_alt : Option Path → Path → Path
with_alt None p = p
with_alt (Some a) p = Alt a p

-- a sequence that ends with an element
abbrev pub seq_of : Option Path → Bool → Path → Path
seq_of seq caret p = with_seq seq (with_caret caret p)

-- a level that ends with an element
abbrev pub path_of : Frame → Path → Path
path_of (frame alt seq caret) p = with_alt alt (seq_of seq caret p)

-- a path that ends at `)`
abbrev pub closed : List Frame → Path → Next
closed [] p = Fail
closed (f ∷ fs) p = Go (Have p) fs f

-- a path that ends before a variable
abbrev pub stopped : List Frame → Path → Next
stopped [] p = Stop p
stopped (f ∷ fs) p = Fail

-- where a token leads that begins an element
abbrev pub want : List Frame → Frame → Token → Next
want fs f (Predicate mark name) = Go (Have (Iri name)) fs f
want fs f Open = Go Want (f ∷ fs) empty
want fs (frame alt seq false) Caret = Go Want fs (frame alt seq true)
want fs f _ = Fail

-- where a token leads that stands behind an element
abbrev pub done : Path → List Frame → Frame → Token → Next
done p fs (frame alt seq caret) Slash = Go Want fs (frame alt (Some (seq_of seq caret p)) false)
done p fs f Bar = Go Want fs (frame (Some (path_of f p)) None false)
done p fs f Close = closed fs (path_of f p)
done p fs f (Variable name) = stopped fs (path_of f p)
done p fs f _ = Fail

-- where a token leads that stands behind a primary
abbrev pub have : Path → List Frame → Frame → Token → Next
have p fs f Asterisk = Go (Done (Star p)) fs f
have p fs f PlusSign = Go (Done (Plus p)) fs f
have p fs f Question = Go (Done (Opt p)) fs f
have p fs f t = done p fs f t

-- where a token leads
abbrev pub step : Mode → List Frame → Frame → Token → Next
step Want fs f t = want fs f t
step (Have p) fs f t = have p fs f t
step (Done p) fs f t = done p fs f t

-- a path and the tokens from its end on
abbrev pub Reading : Type 0
Reading = Option (Path × List Token)

-- the reading from where a token led on
abbrev pub go_on : Next → (Mode → List Frame → Frame → Reading) → List Token → Reading
go_on (Go m fs f) run ts = run m fs f
go_on (Stop p) run ts = Some (p, ts)
go_on Fail run ts = None

-- the path that the machine reads from a place on
abbrev pub run : List Token → Mode → List Frame → Frame → Reading
run [] m fs f = None
run (t ∷ ts) m fs f = go_on (step m fs f t) (run ts) (t ∷ ts)

-- the path that the tokens begin with
abbrev pub reading : List Token → Reading
reading ts = run ts Want [] empty

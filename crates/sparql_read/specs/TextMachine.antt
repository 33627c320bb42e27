-- A machine that reads a text token by token, from behind its declaration of a mark on.
use Rattle.std.specs.Prelude.{ℕ, Bool, true, false, Option, Some, None, List, [], ◌∷◌, ◌++◌, length, nat_lt, if◌then◌else◌}
use Rattle.sparql_read.specs.Tokens.{Token, Word, Variable, LeftBrace, RightBrace, Dot}
use Rattle.sparql_read.specs.Tokens.{Select, Distinct, Ask, Where, Union}
use Rattle.sparql_read.specs.Grammar.{Path, Pattern, Asked}
use Rattle.sparql_read.specs.PathMachine as path
use Rattle.sparql_read.specs.PathMachine.{Mode, Frame}
use Rattle.sparql_read.specs.Text.{has_mark, heads_most}

-- what was read up to within a group: the selected variables, the groups before, the group's patterns, and whether it
-- has braces of its own
pub record Part : Type 0 where
  pub heads : List (List ℕ)
  pub groups : List (List Pattern)
  pub patterns : List Pattern
  pub braced : Bool

-- what comes next, and what was read before
pub data Place : Type 0 where
  AtForm : Place
  AtDistinct : Place
  AtHead : Place
  AtHeads : (heads : List (List ℕ)) → Place
  AtWhere : Place
  AtBrace : (heads : List (List ℕ)) → Place
  AtBody : (heads : List (List ℕ)) → Place
  AtSubject : Part → Place
  InPath : Part → (subject : List ℕ) → Mode → List Frame → Frame → Place
  BehindTriple : Part → Place
  BehindDot : Part → Place
  BehindGroup : (heads : List (List ℕ)) → (groups : List (List Pattern)) → Place
  AtGroup : (heads : List (List ℕ)) → (groups : List (List Pattern)) → Place
  AtEnd : (heads : List (List ℕ)) → (groups : List (List Pattern)) → Place

-- at the beginning of a group
abbrev pub part : List (List ℕ) → List (List Pattern) → Bool → Part
part heads groups braced = record { heads = heads; groups = groups; patterns = []; braced = braced }

-- a group with more patterns behind its own
abbrev pub with_patterns : Part → List Pattern → Part
with_patterns o ps = record { heads = o.heads; groups = o.groups; patterns = o.patterns ++ ps; braced = o.braced }

-- a path between two variables
abbrev pub pattern : List ℕ → Path → List ℕ → Pattern
pattern s p o = record { subject = s; path = p; object = o }

-- behind the brace that ends a group's triples
abbrev pub closed : Part → Place
closed o =
    if o.braced then BehindGroup o.heads (o.groups ++ o.patterns ∷ []) else AtEnd o.heads (o.groups ++ o.patterns ∷ [])

-- where a token leads that stands behind the declaration of the prefix
abbrev pub at_form : Token → Option Place
at_form (Word Ask) = Some AtWhere
at_form (Word Select) = Some AtDistinct
at_form _ = None

-- behind SELECT
abbrev pub at_distinct : Token → Option Place
at_distinct (Word Distinct) = Some AtHead
at_distinct _ = None

-- behind SELECT DISTINCT
abbrev pub at_head : Token → Option Place
at_head (Variable x) = Some (AtHeads (x ∷ []))
at_head _ = None

-- behind these selected variables
abbrev pub at_heads : List (List ℕ) → Token → Option Place
at_heads heads (Variable x) = if nat_lt (length heads) heads_most then Some (AtHeads (heads ++ x ∷ [])) else None
at_heads heads (Word Where) = Some (AtBrace heads)
at_heads heads LeftBrace = Some (AtBody heads)
at_heads heads _ = None

-- behind ASK
abbrev pub at_where : Token → Option Place
at_where (Word Where) = Some (AtBrace [])
at_where LeftBrace = Some (AtBody [])
at_where _ = None

-- behind WHERE
abbrev pub at_brace : List (List ℕ) → Token → Option Place
at_brace heads LeftBrace = Some (AtBody heads)
at_brace heads _ = None

-- behind the brace that begins the body
abbrev pub at_body : List (List ℕ) → Token → Option Place
at_body heads (Variable x) = Some (InPath (part heads [] false) x path.Want [] path.empty)
at_body heads LeftBrace = Some (AtSubject (part heads [] true))
at_body heads _ = None

-- behind the brace that begins a group
abbrev pub at_subject : Part → Token → Option Place
at_subject o (Variable x) = Some (InPath o x path.Want [] path.empty)
at_subject o _ = None

-- a path that ended before a token ends a triple there
abbrev pub at_object : Part → List ℕ → Path → Token → Option Place
at_object o s p (Variable x) = Some (BehindTriple (with_patterns o (pattern s p x ∷ [])))
at_object o s p _ = None

-- within a path, whose machine goes on so
abbrev pub in_path : Part → List ℕ → path.Next → Token → Option Place
in_path o s (path.Go m fs f) t = Some (InPath o s m fs f)
in_path o s (path.Stop p) t = at_object o s p t
in_path o s path.Fail t = None

-- behind a triple
abbrev pub behind_triple : Part → Token → Option Place
behind_triple o Dot = Some (BehindDot o)
behind_triple o RightBrace = Some (closed o)
behind_triple o _ = None

-- behind a triple and `.`
abbrev pub behind_dot : Part → Token → Option Place
behind_dot o (Variable x) = Some (InPath o x path.Want [] path.empty)
behind_dot o RightBrace = Some (closed o)
behind_dot o _ = None

-- behind a group's last brace
abbrev pub behind_group : List (List ℕ) → List (List Pattern) → Token → Option Place
behind_group heads groups (Word Union) = Some (AtGroup heads groups)
behind_group heads groups RightBrace = Some (AtEnd heads groups)
behind_group heads groups _ = None

-- behind UNION
abbrev pub at_group : List (List ℕ) → List (List Pattern) → Token → Option Place
at_group heads groups LeftBrace = Some (AtSubject (part heads groups true))
at_group heads groups _ = None

-- where a token leads from a place
abbrev pub step : Place → Token → Option Place
step AtForm t = at_form t
step AtDistinct t = at_distinct t
step AtHead t = at_head t
step (AtHeads heads) t = at_heads heads t
step AtWhere t = at_where t
step (AtBrace heads) t = at_brace heads t
step (AtBody heads) t = at_body heads t
step (AtSubject o) t = at_subject o t
step (InPath o s m fs f) t = in_path o s (path.step m fs f t) t
step (BehindTriple o) t = behind_triple o t
step (BehindDot o) t = behind_dot o t
step (BehindGroup heads groups) t = behind_group heads groups t
step (AtGroup heads groups) t = at_group heads groups t
step (AtEnd heads groups) t = None

-- what is asked by a text that ends at a place
abbrev pub finish : Place → Option Asked
finish (AtEnd heads groups) = Some (record { heads = heads; groups = groups })
finish _ = None

-- the text goes on from the place that a token led to
abbrev pub go_on : Option Place → (Place → Option Asked) → Option Asked
go_on None run = None
go_on (Some place) run = run place

-- what is asked by a text that has these tokens from a place on
abbrev pub run : List Token → Place → Option Asked
run [] place = finish place
run (t ∷ ts) place = go_on (step place t) (run ts)

-- the same, where each predicate has the mark
abbrev pub checked : List ℕ → List Token → Place → Option Asked
checked mark [] place = finish place
checked mark (t ∷ ts) place = if has_mark mark t then go_on (step place t) (checked mark ts) else None

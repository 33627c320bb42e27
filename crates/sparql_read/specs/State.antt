-- What the reader's lists and levels stand for, while a text is read.
use Rattle.std.specs.Prelude.{◌≡◌, ℕ, Option, Some, None, List, [], ◌∷◌, ◌++◌, length}
use Rattle.sparql_read.specs.Tokens.{Token}
use Rattle.sparql_read.specs.Grammar.{Path}
use Rattle.sparql_read.specs.Layout.{Node, number, nodes}
use Rattle.sparql_read.specs.PathMachine as path
use Rattle.sparql_read.specs.Query.{node_view, nodes_view}
use Rattle.sparql_read.specs.declared.paths.PathId.{PathId}
use Rattle.sparql_read.specs.declared.paths.Path as code
use Rattle.sparql_read.specs.declared.paths.Frame.{Frame}
use Rattle.sparql_read.specs.declared.levels.Levels.{Levels}
use Rattle.sparql_read.specs.declared.levels.Mode.{Mode}
use Rattle.sparql_read.specs.declared.levels.Mode.TheVariants as modes
use Rattle.sparql_read.specs.declared.levels.Next.{Next}
use Rattle.sparql_read.specs.declared.levels.Next.TheVariants as nexts

-- the paths in a list
abbrev pub stored : List code.Path → List Node
stored ps = nodes_view ps

-- a path was added behind all others, with this number
pub record Pushed (old new : List code.Path) (added : code.Path) (id : ℕ) : Type 0 where
  pub items : new ≡ old ++ added ∷ []
  pub numbered : id ≡ length old

-- behind the paths below stand those of p, and p has this number
pub record Placed (below above : List Node) (p : Path) (id : ℕ) : Type 0 where
  pub paths : above ≡ below ++ nodes (length below) p
  pub numbered : id ≡ number (length below) p

-- a path that may be missing
abbrev pub OptionIs : List Node → List Node → Option PathId → Option Path → Type 0
OptionIs below above None p = (p ≡ None) × (above ≡ below)
OptionIs below above (Some id) p = (q : Path) × (p ≡ Some q) × Placed below above q id.0

-- the parts of a level
pub record FrameIs (below above : List Node) (g : Frame) (f : path.Frame) : Type 0 where
  pub alt : Option Path
  pub seq : Option Path
  pub is : f ≡ path.frame alt seq g.caret
  pub mid : List Node
  pub alts : OptionIs below mid g.alt alt
  pub seqs : OptionIs mid above g.seq seq

-- the levels, the innermost first, which stands last in the reader's list
abbrev pub StackIs : List Node → List Node → List Frame → List path.Frame → Type 0
StackIs below above gs [] = (gs ≡ []) × (above ≡ below)
StackIs below above gs (f ∷ fs) =
    (mid : List Node) × (hs : List Frame) × (h : Frame) × (gs ≡ hs ++ h ∷ []) × StackIs below mid hs fs × FrameIs mid above h f

-- what comes next stands for this
abbrev pub ModeIs : List Node → List Node → Mode → path.Mode → Type 0
ModeIs below above modes.Want m = (m ≡ path.Want) × (above ≡ below)
ModeIs below above (modes.Have id) m = (p : Path) × (m ≡ path.Have p) × Placed below above p id.0
ModeIs below above (modes.Done id) m = (p : Path) × (m ≡ path.Done p) × Placed below above p id.0

-- within a path
pub record PathIs (below all : List Node) (gs : List Frame) (g : Frame) (n : Mode) (fs : List path.Frame) (f : path.Frame) (m : path.Mode) : Type 0 where
  pub outer : List Node
  pub inner : List Node
  pub stack : StackIs below outer gs fs
  pub level : FrameIs outer inner g f
  pub mode : ModeIs inner all n m

-- a token led to this
abbrev pub NextIs : List Node → List Node → List Frame → Frame → Next → path.Next → Type 0
NextIs below all gs g (nexts.Go n) x =
    (m : path.Mode) × (fs : List path.Frame) × (f : path.Frame) × (x ≡ path.Go m fs f) × PathIs below all gs g n fs f m
NextIs below all gs g (nexts.Stop id) x = (p : Path) × (x ≡ path.Stop p) × Placed below all p id.0 × (gs ≡ [])
NextIs below all gs g nexts.Fail x = x ≡ path.Fail

-- no sign of an element
abbrev pub NotSigned : Token → Type 0
NotSigned t = (p : Path) (fs : List path.Frame) (f : path.Frame) → path.have p fs f t ≡ path.done p fs f t

-- the sign makes such a path of the path with this number
abbrev pub SignedIs : ℕ → code.Path → Token → Type 0
SignedIs id node t =
    (below all : List Node) (p : Path) → Placed below all p id
    → (q : Path) × ((fs : List path.Frame) (f : path.Frame) → path.have p fs f t ≡ path.Go (path.Done q) fs f) × Placed below (all ++ node_view node ∷ []) q (length all)

-- a token of a path does what the machine does
abbrev pub LeadsTo : List code.Path → List code.Path → Levels → Levels → Mode → Token → Next → Type 0
LeadsTo a b l k n t next =
    (below : List Node) (fs : List path.Frame) (f : path.Frame) (m : path.Mode) → PathIs below (stored a) l.outer.items l.inner n fs f m
    → NextIs below (stored b) k.outer.items k.inner next (path.step m fs f t)

-- an element is made of its part
abbrev pub MakesElt : List code.Path → List code.Path → Frame → PathId → PathId → Type 0
MakesElt a b g id made = (below : List Node) (p : Path) → Placed below (stored a) p id.0 → Placed below (stored b) (path.with_caret g.caret p) made.0

-- a sequence is made of its last element's part
abbrev pub MakesSeq : List code.Path → List code.Path → Frame → PathId → PathId → Type 0
MakesSeq a b g id made =
    (mid above : List Node) (seq : Option Path) (p : Path) → OptionIs mid above g.seq seq → Placed above (stored a) p id.0
    → Placed mid (stored b) (path.seq_of seq g.caret p) made.0

-- the path of a level is made of its last element's part
abbrev pub MakesPath : List code.Path → List code.Path → Frame → PathId → PathId → Type 0
MakesPath a b g id made =
    (below mid above : List Node) (alt seq : Option Path) (p : Path) → OptionIs below mid g.alt alt → OptionIs mid above g.seq seq
    → Placed above (stored a) p id.0 → Placed below (stored b) (path.with_alt alt (path.seq_of seq g.caret p)) made.0

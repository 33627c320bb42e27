-- What the reader's lists stand for at a place of a text.
use Rattle.std.specs.Prelude.{◌≡◌, ◌<◌, ◌≤◌, ◌+◌, ◌^◌, ℕ, true, false, Option, Some, None, List, [], ◌++◌, length}
use Rattle.std.specs.List.{list_all}
use Rattle.sparql_read.specs.Tokens.{Token}
use Rattle.sparql_read.specs.Grammar.{Path, Pattern}
use Rattle.sparql_read.specs.Text.{has_all}
use Rattle.sparql_read.specs.Layout.{Node, flat, spans, entries, all_nodes}
use Rattle.sparql_read.specs.Query.{texts, entries_view, nodes_view}
use Rattle.sparql_read.specs.State.{PathIs}
use Rattle.sparql_read.specs.PathMachine as path
use Rattle.sparql_read.specs.TextMachine as spots
use Rattle.sparql_read.specs.TextMachine.{Part, part}
use Rattle.sparql_read.specs.declared.paths.Frame.{Frame}
use Rattle.sparql_read.specs.declared.places.Parts.{Parts}
use Rattle.sparql_read.specs.declared.places.Place.{Place}
use Rattle.sparql_read.specs.declared.places.Place.TheVariants as places

-- one token more can be read
pub record HasRoom (l : Parts) : Type 0 where
  pub paths : length l.paths.items + 3 < 2 ^ 32
  pub patterns : length l.patterns.items + 1 < 2 ^ 32
  pub first : l.first ≤ length l.patterns.items

-- one token was read
pub record HasGrown (old new : Parts) : Type 0 where
  pub paths : length new.paths.items ≤ length old.paths.items + 3
  pub patterns : length new.patterns.items ≤ length old.patterns.items + 1
  pub groups : length new.groups.items ≤ length old.groups.items + 1
  pub first : old.first ≤ length old.patterns.items → new.first ≤ length new.patterns.items

-- the lists hold what was read up to within a group; these are the paths of its patterns and of those before
pub record PartIs (l : Parts) (paths : List Node) (o : Part) : Type 0 where
  pub heads : texts l.heads.items ≡ o.heads
  pub groups : l.groups.items ≡ spans 0 o.groups
  pub first : l.first ≡ length (flat o.groups)
  pub braced : l.braced ≡ o.braced
  pub all_occur : l.all_occur ≡ list_all (has_all o.heads) o.groups
  pub patterns : entries_view l.patterns.items ≡ entries 0 (flat o.groups ++ o.patterns)
  pub nodes : paths ≡ all_nodes 0 (flat o.groups ++ o.patterns)

-- a level at which nothing was read
abbrev pub nothing : Frame
nothing = record { alt = None; seq = None; caret = false }

-- outside of a path
pub record RestIs (l : Parts) (o : Part) : Type 0 where
  pub is : PartIs l (nodes_view l.paths.items) o
  pub outer : l.levels.outer.items ≡ []
  pub inner : l.levels.inner ≡ nothing

-- at a place
abbrev pub IsAt : Parts → Place → spots.Place → Type 0
IsAt l places.AtForm s = (s ≡ spots.AtForm) × RestIs l (part [] [] l.braced)
IsAt l places.AtDistinct s = (s ≡ spots.AtDistinct) × RestIs l (part [] [] l.braced)
IsAt l places.AtHead s = (s ≡ spots.AtHead) × RestIs l (part [] [] l.braced)
IsAt l places.AtHeads s = (heads : List (List ℕ)) × (s ≡ spots.AtHeads heads) × RestIs l (part heads [] l.braced)
IsAt l places.AtWhere s = (s ≡ spots.AtWhere) × RestIs l (part [] [] l.braced)
IsAt l places.AtBrace s = (heads : List (List ℕ)) × (s ≡ spots.AtBrace heads) × RestIs l (part heads [] l.braced)
IsAt l places.AtBody s = (heads : List (List ℕ)) × (s ≡ spots.AtBody heads) × RestIs l (part heads [] l.braced)
IsAt l places.AtSubject s = (o : Part) × (s ≡ spots.AtSubject o) × RestIs l o
IsAt l (places.InPath x n) s =
    (o : Part) × (m : path.Mode) × (fs : List path.Frame) × (f : path.Frame) × (base : List Node) × (s ≡ spots.InPath o x.now m fs f)
    × PartIs l base o × PathIs base (nodes_view l.paths.items) l.levels.outer.items l.levels.inner n fs f m
IsAt l places.BehindTriple s = (o : Part) × (s ≡ spots.BehindTriple o) × RestIs l o
IsAt l places.BehindDot s = (o : Part) × (s ≡ spots.BehindDot o) × RestIs l o
IsAt l places.BehindGroup s =
    (heads : List (List ℕ)) × (gs : List (List Pattern)) × (s ≡ spots.BehindGroup heads gs) × RestIs l (part heads gs true)
IsAt l places.AtGroup s = (heads : List (List ℕ)) × (gs : List (List Pattern)) × (s ≡ spots.AtGroup heads gs) × RestIs l (part heads gs true)
IsAt l places.AtEnd s = (heads : List (List ℕ)) × (gs : List (List Pattern)) × (s ≡ spots.AtEnd heads gs) × RestIs l (part heads gs l.braced)

-- a token led to this
abbrev pub StepIs : Parts → Option Place → Option spots.Place → Type 0
StepIs l None s = s ≡ None
StepIs l (Some place) s = (spot : spots.Place) × (s ≡ Some spot) × IsAt l place spot

-- no path ends before this token
abbrev pub NotVariable : Token → Type 0
NotVariable t = (o : Part) (s : List ℕ) (p : Path) → spots.at_object o s p t ≡ None

-- a token of a text does what the machine does
abbrev pub Steps : Parts → Parts → Place → Token → Option Place → Type 0
Steps l k place t next = (spot : spots.Place) → IsAt l place spot → StepIs k next (spots.step spot t)

-- the same, where no list changes
abbrev pub StepsAlone : Place → Token → Option Place → Type 0
StepsAlone place t next = (l : Parts) → Steps l l place t next

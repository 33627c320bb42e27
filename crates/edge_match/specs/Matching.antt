-- The edges that join the stubs of two sides by rank.
--   edge_between label nodes             the edge from one node to another
--   edges_between label sources targets  the edges that join the nodes at equal places of two lists
--   IsMatching outs ins label edges      the edges that join the stubs of two sides by rank
use Rattle.std.specs.Prelude.{◌≡◌, ℕ, ◌<◌, List, length, map, min, Some, slice_get, slice_index}
use Rattle.std.specs.List.{zip}
use Rattle.graph_text.specs.declared.graphs.Triple.{Triple}
use Rattle.edge_match.specs.Stubs.{Stubs, HasRank}

-- the edge from one node to another
abbrev pub edge_between : ℕ → ℕ × ℕ → Triple
edge_between label (source, target) = record { src = source; label = label; trg = target }

-- the edges that join the nodes at equal places, up to the end of the shorter list
abbrev pub edges_between : ℕ → List ℕ → List ℕ → List Triple
edges_between label sources targets = map (edge_between label) (zip sources targets)

-- edge r joins the out stub of rank r to the in stub of rank r, for each r below the smaller number of stubs
pub record IsMatching (outs ins : Stubs) (label : ℕ) (edges : List Triple) : Type 0 where
  pub count : length edges ≡ min (length outs.nodes) (length ins.nodes)
  pub ranked : (r : ℕ) → r < length edges → (s : ℕ) × (t : ℕ) × HasRank outs s r × HasRank ins t r
  pub joins : (r s t : ℕ) → r < length edges → HasRank outs s r → HasRank ins t r
      → slice_get edges r ≡ Some (record { src = slice_index outs.nodes s; label = label; trg = slice_index ins.nodes t })

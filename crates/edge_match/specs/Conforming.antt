-- Edges that keep to the degrees of the nodes at both their ends.
--   NodeDegrees                     the nodes of a side, and their degrees
--   edges_at end edges node         how many edges have a node at one of their ends
--   KeepsDegrees end side edges     no node of a side has more edges than its degree
--   MeetsDegrees end side edges     each node of a side has as many edges as its degree
--   Conforms outs ins label edges   edges keep to the degrees of two sides, and use up the smaller side
use Rattle.std.specs.Prelude.{◌≡◌, ℕ, ◌+◌, ◌<◌, ◌≤◌, ◌==◌, List, length, min, sum, slice_index, All, count_by}
use Rattle.graph_text.specs.declared.graphs.Triple.{Triple}

-- nodes from the first one on, each with its degree
pub record NodeDegrees : Type 0 where
  pub first : ℕ
  pub degrees : List ℕ

-- how many edges have a node at one of their ends
abbrev pub edges_at : (Triple → ℕ) → List Triple → ℕ → ℕ
edges_at end edges node = count_by (λ edge. end edge == node) edges

-- a node is one of a side
abbrev pub IsNodeOf : NodeDegrees → ℕ → Type 0
IsNodeOf side node = (side.first ≤ node) × (node < side.first + length side.degrees)

-- at one of their ends, edges have nodes of a side, and no node has more of them than its degree
pub record KeepsDegrees (end : Triple → ℕ) (side : NodeDegrees) (edges : List Triple) : Type 0 where
  pub nodes : All (λ edge. IsNodeOf side (end edge)) edges
  pub within : (place : ℕ) → place < length side.degrees
      → edges_at end edges (side.first + place) ≤ slice_index side.degrees place

-- at one of their ends, each node of a side has as many edges as its degree
abbrev pub MeetsDegrees : (Triple → ℕ) → NodeDegrees → List Triple → Type 0
MeetsDegrees end side edges = (place : ℕ) → place < length side.degrees
    → edges_at end edges (side.first + place) ≡ slice_index side.degrees place

-- edges of one label keep to the degrees of both sides, and are as many as the smaller sum of degrees,
-- so that the nodes of that side meet theirs
pub record Conforms (outs ins : NodeDegrees) (label : ℕ) (edges : List Triple) : Type 0 where
  pub labels : All (λ edge. edge.label ≡ label) edges
  pub number : length edges ≡ min (sum outs.degrees) (sum ins.degrees)
  pub sources : KeepsDegrees (λ edge. edge.src) outs edges
  pub targets : KeepsDegrees (λ edge. edge.trg) ins edges
  pub sources_met : sum outs.degrees ≤ sum ins.degrees → MeetsDegrees (λ edge. edge.src) outs edges
  pub targets_met : sum ins.degrees ≤ sum outs.degrees → MeetsDegrees (λ edge. edge.trg) ins edges

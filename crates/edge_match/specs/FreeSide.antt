-- Degrees that are counted from picks: each stub of a free side picks its node.
use Rattle.std.specs.Prelude.{ℕ, ◌==◌, List, map, count_by}
use Rattle.std.specs.List.{range_with_len}
use Rattle.seeded_draw.specs.Draw.{word, pick_of}

-- how many of so many stubs pick the node at a place, among so many nodes
abbrev pub picked_degree : (seed stream nodes stubs : ℕ) → ℕ → ℕ
picked_degree seed stream nodes stubs place =
    count_by (λ s. pick_of (word seed stream s) nodes == place) (range_with_len 0 stubs)

-- the degree of each node: how many stubs pick it
abbrev pub picked_degrees : (seed stream nodes stubs : ℕ) → List ℕ
picked_degrees seed stream nodes stubs = map (picked_degree seed stream nodes stubs) (range_with_len 0 nodes)

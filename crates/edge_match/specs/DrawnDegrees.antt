-- The drawn degrees of the nodes at a side of a constraint of a configuration.
--   degree_tag, key_tag, pick_tag side  the tags of the side's streams: of degrees, of keys, of picks
--   degree_by table w                   the degree that a word picks from a table
--   degrees_by table seed stream count  the degrees that as many words pick
--   side_table config c side            the table of the specification of a side that is not free
--   table_degrees config seed c side    the degrees of the nodes of a side that is not free
--   table_total config seed c side      their sum
--   side_degrees config seed c side     the degrees of the nodes of any side
--   side_total config seed c side       the number of stubs of any side
--   smaller_total config seed c         the smaller of the two totals of a constraint
--   node_degrees config seed c side     the nodes of a side, and their degrees
--   side_stubs config seed c side       the stubs of a side
use Rattle.std.specs.Prelude.{ℕ, ◌==◌, List, map, min, sum, if◌then◌else◌}
use Rattle.std.specs.List.{range_with_len}
use Rattle.seeded_draw.specs.Draw.{word, stream_of, pick_of}
use Rattle.degree_table.specs.DegreeTable.{WeightedDegrees, table_of, degree_of}
use Rattle.gm_config.specs.Config.{ConfigValue}
use Rattle.edge_match.specs.declared.config_sides.Side.{Side}
use Rattle.edge_match.specs.declared.config_sides.Side.TheVariants.{Out, In}
use Rattle.edge_match.specs.ConfigSides.{opposite, side_spec, is_free, side_first, side_count}
use Rattle.edge_match.specs.FreeSide.{picked_degrees}
use Rattle.edge_match.specs.Stubs.{Stubs, stub_nodes}
use Rattle.edge_match.specs.Conforming.{NodeDegrees}

-- the tag of the streams that degrees are drawn from
abbrev pub degree_tag : Side → ℕ
degree_tag Out = 1
degree_tag In = 2

-- the tag of the streams that the keys of stubs are drawn from
abbrev pub key_tag : Side → ℕ
key_tag Out = 3
key_tag In = 4

-- the tag of the streams from which the stubs of a free side pick their nodes
abbrev pub pick_tag : Side → ℕ
pick_tag Out = 5
pick_tag In = 6

-- the degree that a word picks from a table
abbrev pub degree_by : WeightedDegrees → ℕ → ℕ
degree_by table w = degree_of table (pick_of w (sum table.weights))

-- the degrees that as many words of a stream pick from a table
unfoldable pub degrees_by : WeightedDegrees → (seed stream count : ℕ) → List ℕ
degrees_by table seed stream count = map (λ i. degree_by table (word seed stream i)) (range_with_len 0 count)

-- the table of the specification of a side that is not free
abbrev pub side_table : ConfigValue → ℕ → Side → WeightedDegrees
side_table config c side = table_of (side_spec config c side) (side_count config c (opposite side))

-- the degrees of the nodes of a side that is not free: word i picks that of the node at place i, from the table
-- of the side's specification
unfoldable pub table_degrees : ConfigValue → (seed c : ℕ) → Side → List ℕ
table_degrees config seed c side = degrees_by (side_table config c side) seed (stream_of (degree_tag side) c 0) (side_count config c side)

-- the number of stubs of a side that is not free
abbrev pub table_total : ConfigValue → (seed c : ℕ) → Side → ℕ
table_total config seed c side = sum (table_degrees config seed c side)

-- the degrees of the nodes of a side: on a free side each stub picks its node, and there are as many stubs as
-- on the other side
abbrev pub side_degrees : ConfigValue → (seed c : ℕ) → Side → List ℕ
side_degrees config seed c side = if is_free config c side
    then picked_degrees seed (stream_of (pick_tag side) c 0) (side_count config c side) (table_total config seed c (opposite side))
    else table_degrees config seed c side

-- the number of stubs of a side: a free side has as many as the other side, or none where it has no node
abbrev pub side_total : ConfigValue → (seed c : ℕ) → Side → ℕ
side_total config seed c side = if is_free config c side
    then (if side_count config c side == 0 then 0 else table_total config seed c (opposite side))
    else table_total config seed c side

-- the smaller of the two totals of a constraint
abbrev pub smaller_total : ConfigValue → (seed c : ℕ) → ℕ
smaller_total config seed c = min (side_total config seed c Out) (side_total config seed c In)

-- the nodes of a side, and their degrees
abbrev pub node_degrees : ConfigValue → (seed c : ℕ) → Side → NodeDegrees
node_degrees config seed c side = record { first = side_first config c side; degrees = side_degrees config seed c side }

-- the stubs of a side: the nodes in order, each as often as its degree, with keys from the side's stream
abbrev pub side_stubs : ConfigValue → (seed c : ℕ) → Side → Stubs
side_stubs config seed c side = record { key = word seed (stream_of (key_tag side) c 0); nodes = stub_nodes (side_first config c side) (side_degrees config seed c side) }

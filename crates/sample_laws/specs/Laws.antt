-- What is true of the sample with 1000 times k nodes asked for, and of every seed.
--   SampleQueriesCanBeDrawn   the query of each number can be drawn
--   sample_total_most         the most stubs of a side of the sample: 2,500,000
--   SampleTotalsAreSmall      no side of a constraint has more
--   SampleIsWithinLimit       so no side has more than the limit
use Rattle.std.specs.Prelude.{ℕ, ◌<◌, ◌≤◌, IsTrue, length}
use Rattle.gm_config.specs.Sample.{sample_of}
use Rattle.edge_match.specs.declared.config_sides.Side.{Side}
use Rattle.edge_match.specs.DrawnDegrees.{side_total}
use Rattle.edge_match.specs.Limit.{IsWithinLimit}
use Rattle.query_draw.specs.Query.{has_query}

-- whatever shape and class are drawn for it, the query of each number can be drawn
abbrev pub SampleQueriesCanBeDrawn : Type 0
SampleQueriesCanBeDrawn = (k seed number : ℕ) → IsTrue (has_query (sample_of k) seed number)

-- the most stubs of a side of the sample: 50 for each of 50,000 researchers
abbrev pub sample_total_most : ℕ
sample_total_most = 2500000

-- no side of a constraint has more stubs
abbrev pub SampleTotalsAreSmall : Type 0
SampleTotalsAreSmall = (k seed c : ℕ) (side : Side) → k ≤ 100 → c < length (sample_of k).constraints
    → side_total (sample_of k) seed c side ≤ sample_total_most

-- no side has more stubs than a side may have
abbrev pub SampleIsWithinLimit : Type 0
SampleIsWithinLimit = (k seed : ℕ) → k ≤ 100 → IsWithinLimit (sample_of k) seed

-- The degrees that a specification allows, with the weight of each.
--   weight_of spec d              the weight of the degree d
--   least_of spec                 the least degree
--   end_of spec opposite          the number after the greatest degree
--   table_of spec opposite        the degrees in ascending order, with their weights
--   weight_in table d             the weight that a table has at the degree d, 0 where it has none
--   cumulative weights            the sums of the first weight, of the first two, and so on to all
--   degree_of table t             the first degree whose cumulative weight exceeds t
--   HoldsPick table t d           t lies between the sums of the weights before the degree d and through it
--   IsGreatest table d            d is the greatest degree with a positive weight
use Rattle.std.specs.Prelude.{◌≡◌, ℕ, ◌+◌, ◌-◌, ◌/◌, ◌^◌, ◌<◌, ◌≤◌, min, max, nat_lt, sum, List, map, take, length, slice_index, if◌then◌else◌, Option, unwrap_or}
use Rattle.std.specs.Int.{abs_diff}
use Rattle.std.specs.List.{range_with_len, position_or_len}
use Rattle.gm_config.specs.Limits.{degree_most}
use Rattle.gm_config.specs.declared.degree_specs.DegreeSpec.{DegreeSpec}
use Rattle.gm_config.specs.declared.degree_specs.DegreeSpec.TheVariants.{Uniform, Bell, Zipf, Table, Free}

-- the weight of the degree 1 of a `zipf`, of which each other degree has a part
abbrev pub zipf_scale : ℕ
zipf_scale = 1000000000

-- the weight of a degree
abbrev pub weight_of : DegreeSpec → ℕ → ℕ
weight_of (Uniform _ _) d = 1
weight_of (Bell center width) d = (width + 1 - abs_diff d center) ^ 2
weight_of (Zipf exponent _) d = zipf_scale / d ^ exponent
weight_of (Table weights) d = slice_index weights d
weight_of Free d = 0

-- the greatest degree of a `zipf`: where none is given the number of nodes at the other side, at least 1 and at most the greatest degree
abbrev pub zipf_most : Option ℕ → ℕ → ℕ
zipf_most given opposite = unwrap_or given (max 1 (min opposite degree_most))

-- the least degree
abbrev pub least_of : DegreeSpec → ℕ
least_of (Uniform least _) = least
least_of (Bell center width) = center - width
least_of (Zipf _ _) = 1
least_of (Table _) = 0
least_of Free = 0

-- the number after the greatest degree
abbrev pub end_of : DegreeSpec → ℕ → ℕ
end_of (Uniform _ most) opposite = most + 1
end_of (Bell center width) opposite = center + width + 1
end_of (Zipf _ given) opposite = zipf_most given opposite + 1
end_of (Table weights) opposite = length weights
end_of Free opposite = 0

-- degrees in a row, from the least on, with the weight of each
pub record WeightedDegrees : Type 0 where
  pub least : ℕ
  pub weights : List ℕ

-- the weights of all the degrees
abbrev pub weights_of : DegreeSpec → ℕ → List ℕ
weights_of spec opposite = map (weight_of spec) (range_with_len (least_of spec) (end_of spec opposite - least_of spec))

-- the degrees with their weights
abbrev pub table_of : DegreeSpec → ℕ → WeightedDegrees
table_of spec opposite = record { least = least_of spec; weights = weights_of spec opposite }

-- the weight at a degree, 0 where there is none
abbrev pub weight_in : WeightedDegrees → ℕ → ℕ
weight_in table d = if nat_lt d table.least then 0 else slice_index table.weights (d - table.least)

-- the sum of the weights up to the place i
abbrev pub sum_through : List ℕ → ℕ → ℕ
sum_through weights i = sum (take (i + 1) weights)

-- the sums of the first weight, of the first two, and so on to all
abbrev pub cumulative : List ℕ → List ℕ
cumulative weights = map (sum_through weights) (range_with_len 0 (length weights))

-- the first degree whose cumulative weight exceeds t
abbrev pub degree_of : WeightedDegrees → ℕ → ℕ
degree_of table t = table.least + position_or_len (nat_lt t) (cumulative table.weights)

-- t lies in the weight of the degree d, where the weights lie one after another from 0
pub record HoldsPick (table : WeightedDegrees) (t d : ℕ) : Type 0 where
  pub positive : 0 < weight_in table d
  pub before : sum (take (d - table.least) table.weights) ≤ t
  pub through : t < sum (take (d - table.least + 1) table.weights)

-- the greatest degree with a positive weight
pub record IsGreatest (table : WeightedDegrees) (d : ℕ) : Type 0 where
  pub positive : 0 < weight_in table d
  pub above : (e : ℕ) → d < e → weight_in table e ≡ 0

-- few degrees, not all of weight 0, with their cumulative weights
pub record IsTable (least : ℕ) (weights sums : List ℕ) : Type 0 where
  pub few : least + length weights ≤ degree_most + 1
  pub positive : 0 < sum weights
  pub added : sums ≡ cumulative weights

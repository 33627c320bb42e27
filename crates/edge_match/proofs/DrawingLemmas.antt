-- Degrees that words pick from a table, one more and all of them.
use Rattle.std.proofs.Common.{◌≡◌, ℕ, ◌+◌, List, [], ◌∷◌, ◌++◌, length, refl, sym, ◌∙◌, arith}
use Rattle.std.specs.List.{range_with_len}
use Rattle.std.proofs.lemmas.List.{length-map}
use Rattle.std.proofs.lemmas.List.FromFn.{length-range_with_len, map-range_with_len_more}
use Rattle.seeded_draw.specs.Draw.{word}
use Rattle.degree_table.specs.DegreeTable.{WeightedDegrees}
use Rattle.edge_match.specs.DrawnDegrees.{degree_by, degrees_by}

pub degrees_by-none : (table : WeightedDegrees) (seed stream : ℕ) → degrees_by table seed stream 0 ≡ []
unfolding degrees_by
degrees_by-none table seed stream = refl

-- one word more picks one degree more
pub degrees_by-push : (table : WeightedDegrees) (seed stream n d : ℕ) (before : List ℕ) → before ≡ degrees_by table seed stream n
    → d ≡ degree_by table (word seed stream n) → before ++ d ∷ [] ≡ degrees_by table seed stream (n + 1)
unfolding degrees_by
degrees_by-push table seed stream n d before same picked =
    let more = map-range_with_len_more (λ i. degree_by table (word seed stream i)) 0 n n (omega arith) in
    rw (same, picked) (sym more)

pub length-degrees_by : (table : WeightedDegrees) (seed stream n : ℕ) → length (degrees_by table seed stream n) ≡ n
unfolding degrees_by
length-degrees_by table seed stream n = length-map (range_with_len 0 n) (λ i. degree_by table (word seed stream i)) ∙ length-range_with_len 0 n

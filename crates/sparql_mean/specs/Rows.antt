-- The rows of what a SPARQL text asks.
--   IsSolution names graph p m         the mapping of a pattern's variables to a pair of its path
--   IsGroupSolution names graph ps m   a join of a mapping of each pattern
--   IsSparqlRow names asked graph row  the selected numbers of a solution of some group
-- `names` are the names of the labels, by their numbers.
use Rattle.std.specs.Prelude.{◌≡◌, ℕ, List, [], ◌∷◌, Contains}
use Rattle.graph_text.specs.declared.graphs.Triple.{Triple}
use Rattle.sparql_read.specs.Grammar.{Pattern, Asked}
use Rattle.sparql_mean.specs.PathRows.{PathPairs}
use Rattle.sparql_mean.specs.Mappings.{Mapping, AreCompatible, IsJoin, AreValues}

-- the path's ends as the numbers of the two variables, which are equal where both are one variable
pub record IsSolution (names : List (List ℕ)) (graph : List Triple) (p : Pattern) (m : Mapping) : Type 0 where
  pub first : ℕ
  pub second : ℕ
  pub pair : PathPairs names p.path graph first second
  pub same : p.subject ≡ p.object → first ≡ second
  pub entries : m ≡ (p.subject, first) ∷ (p.object, second) ∷ []

-- the join of a solution of the first pattern and one of the others; without patterns, the mapping of no variable
abbrev pub IsGroupSolution : List (List ℕ) → List Triple → List Pattern → Mapping → Type 0
IsGroupSolution names graph [] r = r ≡ []
IsGroupSolution names graph (p ∷ ps) r =
    (m : Mapping) × (k : Mapping) × IsSolution names graph p m × IsGroupSolution names graph ps k × AreCompatible m k × IsJoin m k r

-- a solution of some group has these numbers for the selected variables; where none is selected the row has no number
abbrev pub IsSparqlRow : List (List ℕ) → Asked → List Triple → List ℕ → Type 0
IsSparqlRow names asked graph row =
    (group : List Pattern) × Contains asked.groups group × (m : Mapping) × IsGroupSolution names graph group m × AreValues m asked.heads row

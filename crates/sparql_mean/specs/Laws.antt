-- Laws of solutions.
--   SolutionsAreMappings    a solution of a group gives no variable two numbers
--   PathsLeadBetweenNodes   a path leads from nodes to nodes
use Rattle.std.specs.Prelude.{ℕ, List}
use Rattle.graph_text.specs.declared.graphs.Triple.{Triple}
use Rattle.graph_text.specs.Graph.{IsNode}
use Rattle.sparql_read.specs.Grammar.{Path, Pattern}
use Rattle.sparql_mean.specs.PathRows.{PathPairs}
use Rattle.sparql_mean.specs.Mappings.{Mapping, IsMapping}
use Rattle.sparql_mean.specs.Rows.{IsGroupSolution}

-- no variable has two numbers
abbrev pub SolutionsAreMappings : Type 0
SolutionsAreMappings = (names : List (List ℕ)) (graph : List Triple) (ps : List Pattern) (m : Mapping) → IsGroupSolution names graph ps m → IsMapping m

-- the numbers of a pair are ends of triples
abbrev pub PathsLeadBetweenNodes : Type 0
PathsLeadBetweenNodes = (names : List (List ℕ)) (path : Path) (graph : List Triple) (a b : ℕ) → PathPairs names path graph a b → IsNode graph a × IsNode graph b

-- The names of the files that hold one query each.
use Rattle.std.specs.Prelude.{ℕ, List, ◌++◌, codes, decimal}
use Rattle.gm_files.specs.declared.texts.QueryFile.{QueryFile}
use Rattle.gm_files.specs.declared.texts.QueryFile.TheVariants.{Sparql, Sql}

-- what a name ends with
abbrev pub ending_of : QueryFile → List ℕ
ending_of Sparql = codes ".sparql"
ending_of Sql = codes ".sql"

-- `query-`, the number, and the ending
abbrev pub query_name_of : ℕ → QueryFile → List ℕ
query_name_of number kind = codes "query-" ++ (decimal number ++ ending_of kind)

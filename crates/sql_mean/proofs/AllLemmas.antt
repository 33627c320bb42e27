-- All tables of a text, one after the other.
use Rattle.std.proofs.Common.{◌≡◌, ◌↔◌, ℕ, zero, suc, Bool, true, false, if◌then◌else◌, bytes_eq, MatchBool, codes, Some, unwrap_or, List, [], ◌∷◌, map, take, slice_get, refl, sym, ap, subst}
use Rattle.std.specs.List.{Contains}
use Rattle.graph_text.specs.declared.graphs.Triple.{Triple}
use Rattle.graph_text.proofs.MemberLemmas.{Contains-none, Contains-map, Contains-from_map}
use Rattle.sql_read.specs.Grammar.{Table}
use Rattle.sql_read.specs.Conditions.{Header, edge_header, header_of, headers_after}
use Rattle.sql_mean.specs.Tables.{With, IsTableRow, After}
use Rattle.sql_mean.specs.Rows.{edge_row, IsEdgeRow, AtFirst}
use Rattle.sql_mean.specs.Evaluation.{KnownValue, KnownAs, so_far, IsTableList}
use Rattle.sql_mean.proofs.KnownLemmas.{known_more, table_are}

-- the table of the edges
abbrev pub edge_known : List (List ℕ) → KnownValue
edge_known rows = record { name = codes "edge"; columns = codes "src" ∷ codes "label" ∷ codes "trg" ∷ []; rows = rows }

pub known_first : (graph : List Triple) → KnownAs (edge_known (map edge_row graph) ∷ []) (edge_header ∷ []) (AtFirst graph)
known_first graph =
    record { columns = refl; rows = λ name row. go name row (bytes_eq (codes "edge") name) }
  where
    go : (name row : List ℕ) (b : Bool) → Contains (if b then map edge_row graph else []) row ↔ MatchBool b (IsEdgeRow graph row) ⊥
    go name row true = (
      λ has. let found = Contains-from_map edge_row graph row has in (found.0, found.1, sym found.2),
      λ is. subst (Contains (map edge_row graph)) (sym is.2) (Contains-map edge_row graph is.0 is.1),
    )
    go name row false = (λ none. Contains-none row none, λ none. absurd none)

-- one table more
pub known_next : (tables : List Table) (i : ℕ) (t : Table) (headers : List Header) (Has : List ℕ → List ℕ → Type 0) (known : List KnownValue) (rows : List (List ℕ))
    → slice_get tables i ≡ Some t → KnownAs known (headers_after headers (take i tables)) (After headers Has (take i tables)) → IsTableList known t rows
    → KnownAs (so_far t rows ∷ known) (headers_after headers (take (suc i) tables)) (After headers Has (take (suc i) tables))
known_next [] i t headers Has known rows at are list = cc
known_next (u ∷ tables) zero t headers Has known rows at are list =
    let same : u ≡ t = ap (λ o. unwrap_or o u) at in
    subst (λ v. KnownAs (so_far t rows ∷ known) (header_of v ∷ headers) (With Has v.name (IsTableRow headers Has v))) (sym same)
    (known_more known headers Has are t rows (IsTableRow headers Has t) (table_are known headers Has are t rows list))
known_next (u ∷ tables) (suc i) t headers Has known rows at are list =
    known_next tables i t (header_of u ∷ headers) (With Has u.name (IsTableRow headers Has u)) known rows at are list

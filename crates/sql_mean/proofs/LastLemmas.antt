-- The rows of the last union, which have one width.
use Rattle.std.proofs.Common.{◌≡◌, ◌↔◌, ◌≤◌, ◌&&◌, ℕ, true, nat_le, List, [], ◌∷◌, length, sym, subst, ◌∙◌, arith}
use Rattle.std.specs.List.{Contains, list_all}
use Rattle.std.proofs.lemmas.Bool.{and_parts, eqb-true}
use Rattle.std.proofs.lemmas.Bool.Decides.{nat_tests}
use Rattle.graph_text.specs.declared.graphs.Triple.{Triple}
use Rattle.graph_text.proofs.MemberLemmas.{Contains-first, Contains-later, list_all-member}
use Rattle.sql_read.specs.Grammar.{Query, Reading}
use Rattle.sql_read.specs.Conditions.{edge_header, headers_after, query_holds, tables_hold, last_hold, last_most, has_width, width_of as query_width, holds}
use Rattle.sql_read.specs.Kept.{AllFit}
use Rattle.sql_mean.specs.Rows.{headers_of, Has, IsSqlRow}
use Rattle.sql_mean.specs.Evaluation.{KnownValue, KnownAs, AreLevel, headers_in, rows_under, union_list}
use Rattle.sql_mean.proofs.EvaluationLemmas.{union-from}
use Rattle.sql_mean.proofs.KnownLemmas.{select-long, union_are}

all_fit : {X : Type 0} (Fits : X → Type 0) (xs : List X) → ((x : X) → Contains xs x → Fits x) → AllFit Fits xs
all_fit Fits [] each = tt
all_fit Fits (x ∷ xs) each = (each x (Contains-first x xs), all_fit Fits xs (λ y has. each y (Contains-later x y xs has)))

are_level : (rows : List (List ℕ)) (width : ℕ) → width ≤ 4 → ((row : List ℕ) → Contains rows row → length row ≡ width) → AreLevel rows
are_level [] width few wide = record { few = omega arith; all = tt }
are_level (first ∷ rows) width few wide =
    let own : length first ≡ width = wide first (Contains-first first rows) in
    record { few = omega (arith, own, few); all = all_fit (λ row. length row ≡ length first) (first ∷ rows) (λ row has. wide row has ∙ sym own) }

-- each row is as wide as the selects
union_wide : (known : List KnownValue) (queries : List Query) (width : ℕ) → list_all (has_width width) queries ≡ true → (row : List ℕ) → Contains (union_list known queries) row → length row ≡ width
union_wide known queries width wide row has =
    let u = union-from known queries row has in
    select-long (headers_in known) (λ name r. Contains (rows_under known name) r) u.0 row u.2
    ∙ eqb-true (length u.0.columns) width (list_all-member (has_width width) queries wide u.0 u.1)

last_level : (known : List KnownValue) (queries : List Query) → (nat_le (query_width queries) last_most ≡ true) → list_all (has_width (query_width queries)) queries ≡ true
    → AreLevel (union_list known queries)
last_level known queries few wide =
    are_level (union_list known queries) (query_width queries) (grind (arith, nat_tests, few)) (union_wide known queries (query_width queries) wide)

module _ (known : List KnownValue) (reading : Reading) where
  pub level : holds reading ≡ true → AreLevel (union_list known reading.last)
  level holds =
      let headers = headers_after (edge_header ∷ []) reading.tables in
      let last = (and_parts (tables_hold (edge_header ∷ []) reading.tables) (last_hold headers reading.last) holds).1 in
      let widths =
      (and_parts (nat_le (query_width reading.last) last_most && list_all (has_width (query_width reading.last)) reading.last) (list_all (query_holds headers) reading.last) last).0 in
      let parts = and_parts (nat_le (query_width reading.last) last_most) (list_all (has_width (query_width reading.last)) reading.last) widths in
      last_level known reading.last parts.0 parts.1

  -- a list with the rows of the union's list
  pub rows_are : (graph : List Triple) → KnownAs known (headers_of reading) (Has reading graph) → (values rows : List (List ℕ)) → values ≡ union_list known reading.last → (row : List ℕ)
      → (Contains rows row ↔ Contains values row) → Contains rows row ↔ IsSqlRow reading graph row
  rows_are graph are values rows made row same =
      let union = union_are known (headers_of reading) (Has reading graph) are reading.last row in
      (λ has. union.0 (subst (λ xs. Contains xs row) made (same.0 has)), λ is. same.1 (subst (λ xs. Contains xs row) (sym made) (union.1 is)))

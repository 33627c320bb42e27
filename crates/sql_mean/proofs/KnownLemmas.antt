-- The lists over known tables have exactly the rows, and so many rows at most.
use Rattle.std.proofs.Common.{◌≡◌, ◌↔◌, ◌≤◌, inl, inr, ℕ, zero, suc, ◌-◌, Bool, true, false, if◌then◌else◌, bytes_eq, MatchBool, Option, Some, None, List, [], ◌∷◌, map, length, take, drop, sym, ap, subst, ◌∙◌, arith}
use Rattle.std.specs.List.{Contains, IsDistinct, flat_map}
use Rattle.std.proofs.lemmas.Bool.{MatchBool-at_true, MatchBool-at_false, cases_Bool}
use Rattle.std.proofs.lemmas.Cmp.{nat_list_eq_equiv}
use Rattle.std.proofs.lemmas.List.{length-map}
use Rattle.std.proofs.lemmas.Map.Made.{length-le_from_is_member, is_member-Decides}
use Rattle.std.proofs.lemmas.Slice.Eq.{bytes_eq-Decides}
use Rattle.graph_text.proofs.MemberLemmas.{Contains-first, Contains-later, Contains-cases, Contains-none, Contains-flat_map, Contains-from_flat_map, Contains-map, Contains-from_map}
use Rattle.sql_read.specs.Grammar.{Col, Source, Query, Table}
use Rattle.sql_read.specs.Conditions.{Header, header_of, columns_of}
use Rattle.sql_mean.specs.Selects.{IsProduct, value_in, value_under, value_of, IsSelectRow, IsUnionRow}
use Rattle.sql_mean.specs.Tables.{With, takes_itself, base, last_select, InRound, AddsNothing, IsStableRow, IsTableRow}
use Rattle.sql_mean.specs.Evaluation.{KnownValue, headers_in, rows_under, KnownAs, union_list, joined, so_far, round_list, IsStableList, IsTableList}
use Rattle.sql_mean.proofs.SelectLemmas.{plain_row, from_plain, round_row, from_rounds}
use Rattle.sql_mean.proofs.EvaluationLemmas.{joined-cases, joined-keeps, joined-has, joined-distinct, union-from, union-has, union-more, stable_has_all}

-- ---- one table more

pub known_more : (known : List KnownValue) (headers : List Header) (Has : List ℕ → List ℕ → Type 0) → KnownAs known headers Has → (t : Table) (rows : List (List ℕ))
    → (IsRow : List ℕ → Type 0)
    → ((row : List ℕ) → Contains rows row ↔ IsRow row) → KnownAs (so_far t rows ∷ known) (header_of t ∷ headers) (With Has t.name IsRow)
known_more known headers Has are t rows IsRow rows_are =
    record { columns = ap (λ hs. header_of t ∷ hs) are.columns; rows = λ name row. go name row (bytes_eq t.name name) }
  where
    go : (name row : List ℕ) (b : Bool) → Contains (if b then rows else rows_under known name) row ↔ MatchBool b (IsRow row) (Has name row)
    go name row true = rows_are row
    go name row false = are.rows name row

-- ---- the rows of rounds and of tables

module _ (known : List KnownValue) (headers : List Header) (Has : List ℕ → List ℕ → Type 0) (are : KnownAs known headers Has) where
  pub union_are : (queries : List Query) (row : List ℕ) → Contains (union_list known queries) row ↔ IsUnionRow headers Has queries row
  union_are queries row = (
    λ has. subst (λ hs. IsUnionRow hs Has queries row) are.columns
        (union-more (headers_in known) (λ name r. Contains (rows_under known name) r) Has (λ name r. (are.rows name r).0) queries row (union-from known queries row has)),
    λ is. union-has known queries row
        (union-more (headers_in known) Has (λ name r. Contains (rows_under known name) r) (λ name r. (are.rows name r).1) queries row
        (subst (λ hs. IsUnionRow hs Has queries row) (sym are.columns) is)),
  )

  -- rows that are kept once
  joined_are : (queries : List Query) (row : List ℕ) → Contains (joined [] (union_list known queries)) row ↔ IsUnionRow headers Has queries row
  joined_are queries row = (
    λ has. elim (joined-cases (union_list known queries) [] row has) [ inl none ↦ absurd (Contains-none row none) | inr is ↦ (union_are queries row).0 is ],
    λ is. joined-has (union_list known queries) [] row ((union_are queries row).1 is),
  )

module _ (known : List KnownValue) (headers : List Header) (Has : List ℕ → List ℕ → Type 0) (are : KnownAs known headers Has) (t : Table) where
  pub round_are : (k : ℕ) (row : List ℕ) → Contains (round_list known t k) row ↔ InRound headers Has t k row
  unfolding round_list
  round_are zero row = joined_are known headers Has are (base t) row
  round_are (suc k) row =
      let rows : List (List ℕ) = round_list known t k in
      let more = union_are (so_far t rows ∷ known) (header_of t ∷ headers) (With Has t.name (InRound headers Has t k))
      (known_more known headers Has are t rows (InRound headers Has t k) (round_are k)) (last_select t) row in
      let new : List (List ℕ) = union_list (so_far t rows ∷ known) (last_select t) in (
        λ has. elim (joined-cases new rows row has) [ inl before ↦ inl ((round_are k row).0 before) | inr later ↦ inr (more.0 later) ],
        λ is. elim is [ inl before ↦ joined-keeps new rows row ((round_are k row).1 before) | inr later ↦ joined-has new rows row (more.1 later) ],
      )

  stable_are : (rows : List (List ℕ)) → IsStableList known t rows → (row : List ℕ) → Contains rows row ↔ IsStableRow headers Has t row
  stable_are rows s row =
      let stable : AddsNothing headers Has t s.round =
      λ r is. (round_are s.round r).0 (subst (λ xs. Contains xs r) s.stable ((round_are (suc s.round) r).1 is)) in (
        λ has. record { round = s.round; stable = stable; is_row = (round_are s.round row).0 (subst (λ xs. Contains xs row) s.rows_are has) },
        λ is. subst (λ xs. Contains xs row) (sym s.rows_are) ((round_are s.round row).1 (stable_has_all headers Has t s.round stable is.round row is.is_row)),
      )

  pub table_are : (rows : List (List ℕ)) → IsTableList known t rows → (row : List ℕ) → Contains rows row ↔ IsTableRow headers Has t row
  table_are rows list row =
      elim (cases_Bool (takes_itself t)) [
        | inl takes ↦ let s = stable_are rows (MatchBool-at_true (IsStableList known t rows) (rows ≡ joined [] (union_list known t.body)) takes list) row in
            (λ has. round_row headers Has t row takes (s.0 has), λ is. s.1 (from_rounds headers Has t row takes is))
        | inr plain ↦ let same = MatchBool-at_false (IsStableList known t rows) (rows ≡ joined [] (union_list known t.body)) plain list in
            let u = joined_are known headers Has are t.body row in (
              λ has. plain_row headers Has t row plain (u.0 (subst (λ xs. Contains xs row) same has)),
              λ is. subst (λ xs. Contains xs row) (sym same) (u.1 (from_plain headers Has t row plain is)),
            )
      ]

-- ---- the numbers of rows

-- each number of the list passes
Within : (ℕ → Type 0) → List ℕ → Type 0
Within P row = (n : ℕ) → Contains row n → P n

module _ (P : ℕ → Type 0) (none : P 0) where
  value_in-within : (columns : List (List ℕ)) (row name : List ℕ) → Within P row → P (value_in columns row name)
  unfolding Within
  value_in-within [] row name within = none
  value_in-within (c ∷ columns) [] name within = none
  value_in-within (c ∷ columns) (n ∷ row) name within =
      go (bytes_eq c name) (within n (Contains-first n row)) (value_in-within columns row name (λ m has. within m (Contains-later n m row has)))
    where
      go : (b : Bool) → P n → P (value_in columns row name) → P (if b then n else value_in columns row name)
      go true here later = here
      go false here later = later

  value_under-within : (columns : Option (List (List ℕ))) (row name : List ℕ) → Within P row → P (value_under columns row name)
  value_under-within None row name within = none
  value_under-within (Some columns) row name within = value_in-within columns row name within

  module _ (headers : List Header) (Has : List ℕ → List ℕ → Type 0) (rows : (name row : List ℕ) → Has name row → Within P row) where
    value_of-within : (sources : List Source) (product : List (List ℕ)) (c : Col) → IsProduct Has sources product → P (value_of headers sources product c)
    value_of-within [] product c picked = none
    value_of-within (s ∷ sources) [] c picked = none
    value_of-within (s ∷ sources) (row ∷ product) c picked =
        go (bytes_eq s.alias c.alias) (value_under-within (columns_of headers s.table) row c.column (rows s.table row picked.0)) (value_of-within sources product c picked.1)
      where
        go : (b : Bool) → P (value_under (columns_of headers s.table) row c.column) → P (value_of headers sources product c)
            → P (if b then value_under (columns_of headers s.table) row c.column else value_of headers sources product c)
        go true here later = here
        go false here later = later

    select-within : (q : Query) (row : List ℕ) → IsSelectRow headers Has q row → Within P row
    unfolding Within
    select-within q row is n has =
        let found = Contains-from_map (value_of headers q.sources is.product) q.columns n (subst (λ r. Contains r n) is.row_is has) in
        subst P found.2 (value_of-within q.sources is.product found.0 is.picked)

pub select-long : (headers : List Header) (Has : List ℕ → List ℕ → Type 0) (q : Query) (row : List ℕ) → IsSelectRow headers Has q row → length row ≡ length q.columns
select-long headers Has q row is = ap length is.row_is ∙ length-map q.columns (value_of headers q.sources is.product)

-- ---- as many rows as there can be

-- the rows of so many of these numbers
tuples : List ℕ → ℕ → List (List ℕ)
tuples numbers zero = [] ∷ []
tuples numbers (suc w) = flat_map (λ n. map (λ row. n ∷ row) (tuples numbers w)) numbers

tuples-has : (numbers row : List ℕ) (w : ℕ) → length row ≡ w → Within (Contains numbers) row → Contains (tuples numbers w) row
unfolding tuples Within
tuples-has numbers [] zero long within = Contains-first [] []
tuples-has numbers [] (suc w) long within = absurd (omega (arith, long))
tuples-has numbers (n ∷ row) zero long within = absurd (omega (arith, long))
tuples-has numbers (n ∷ row) (suc w) long within =
    Contains-flat_map (λ n. map (λ row. n ∷ row) (tuples numbers w)) numbers n (n ∷ row) (within n (Contains-first n row))
    (Contains-map (λ row. n ∷ row) (tuples numbers w) row (tuples-has numbers row w (omega (arith, long)) (λ m has. within m (Contains-later n m row has))))

numbers_of : KnownValue → List ℕ
numbers_of k = flat_map (λ row. row) k.rows

-- 0 and the numbers of all rows
numbers_in : List KnownValue → List ℕ
numbers_in known = 0 ∷ flat_map numbers_of known

-- all rows that a table can have
pub candidates : List KnownValue → Table → List (List ℕ)
candidates known t = flat_map (λ q. tuples (numbers_in known) (length q.columns)) t.body

numbers_in-has : (known : List KnownValue) (name row : List ℕ) → Contains (rows_under known name) row → Within (Contains (numbers_in known)) row
unfolding Within numbers_in numbers_of
numbers_in-has known name row has n among = Contains-later 0 n (flat_map numbers_of known) (listed known has)
  where
    listed : (known : List KnownValue) → Contains (rows_under known name) row → Contains (flat_map numbers_of known) n
    listed [] has = absurd (Contains-none row has)
    listed (k ∷ known) has =
        elim (cases_Bool (bytes_eq k.name name)) [
          | inl here ↦ Contains-flat_map numbers_of (k ∷ known) k n (Contains-first k known)
              (Contains-flat_map (λ row. row) k.rows row n (subst (λ b. Contains (if b then k.rows else rows_under known name) row) here has) among)
          | inr other ↦ let found = Contains-from_flat_map numbers_of known n (listed known (subst (λ b. Contains (if b then k.rows else rows_under known name) row) other has)) in
              Contains-flat_map numbers_of (k ∷ known) found.0 n (Contains-later k found.0 known found.1) found.2
        ]

Contains-take : {X : Type 0} (n : ℕ) (xs : List X) (x : X) → Contains (take n xs) x → Contains xs x
Contains-take zero xs x has = absurd (Contains-none x has)
Contains-take (suc n) [] x has = absurd (Contains-none x has)
Contains-take (suc n) (y ∷ xs) x has =
    elim (Contains-cases y x (take n xs) has) [ inl same ↦ subst (Contains (y ∷ xs)) same (Contains-first y xs) | inr later ↦ Contains-later y x xs (Contains-take n xs x later) ]

Contains-drop : {X : Type 0} (n : ℕ) (xs : List X) (x : X) → Contains (drop n xs) x → Contains xs x
Contains-drop zero xs x has = has
Contains-drop (suc n) [] x has = absurd (Contains-none x has)
Contains-drop (suc n) (y ∷ xs) x has = Contains-later y x xs (Contains-drop n xs x has)

module _ (known : List KnownValue) (t : Table) where
  abbrev numbers : List ℕ
  numbers = numbers_in known

  record IsCandidate (row : List ℕ) : Type 0 where
    query : Query
    among : Contains t.body query
    long : length row ≡ length query.columns
    within : Within (Contains numbers) row

  zero_there : Contains numbers 0
  unfolding numbers_in
  zero_there = Contains-first 0 (flat_map numbers_of known)

  -- the rows of selects of the table, over tables with these numbers
  select_candidate : (tables : List KnownValue) → ((name row : List ℕ) → Contains (rows_under tables name) row → Within (Contains numbers) row) → (queries : List Query)
      → ((q : Query) → Contains queries q → Contains t.body q) → (row : List ℕ) → Contains (union_list tables queries) row → IsCandidate row
  select_candidate tables rows queries inside row has =
      let u = union-from tables queries row has in
      let HasListed : List ℕ → List ℕ → Type 0 = λ name r. Contains (rows_under tables name) r in
      record {
        query = u.0;
        among = inside u.0 u.1;
        long = select-long (headers_in tables) HasListed u.0 row u.2;
        within = select-within (Contains numbers) zero_there (headers_in tables) HasListed rows u.0 row u.2;
      }

  round_candidates : (k : ℕ) (row : List ℕ) → Contains (round_list known t k) row → IsCandidate row
  unfolding round_list
  round_candidates zero row has =
      elim (joined-cases (union_list known (base t)) [] row has) [
        | inl none ↦ absurd (Contains-none row none)
        | inr is ↦ select_candidate known (numbers_in-has known) (base t) (λ q among. Contains-take (length t.body - 1) t.body q among) row is
      ]
  round_candidates (suc k) row has =
      let rows : List (List ℕ) = round_list known t k in
      elim (joined-cases (union_list (so_far t rows ∷ known) (last_select t)) rows row has) [
        | inl before ↦ round_candidates k row before
        | inr is ↦ select_candidate (so_far t rows ∷ known)
            (λ name r. go name r (bytes_eq t.name name) (λ h. (round_candidates k r h).within)) (last_select t)
            (λ q among. Contains-drop (length t.body - 1) t.body q among) row is
      ]
    where
      go : (name r : List ℕ) (b : Bool) → (Contains (round_list known t k) r → Within (Contains numbers) r)
          → Contains (if b then round_list known t k else rows_under known name) r → Within (Contains numbers) r
      go name r true own has = own has
      go name r false own has = numbers_in-has known name r has

  round_distinct : (k : ℕ) → IsDistinct bytes_eq (round_list known t k)
  unfolding round_list IsDistinct
  round_distinct zero = joined-distinct (union_list known (base t)) [] tt
  round_distinct (suc k) = joined-distinct (union_list (so_far t (round_list known t k) ∷ known) (last_select t)) (round_list known t k) (round_distinct k)

  pub round_few : (k : ℕ) → length (round_list known t k) ≤ length (candidates known t)
  unfolding candidates
  round_few k =
      length-le_from_is_member nat_list_eq_equiv (round_list known t k) (candidates known t) (round_distinct k)
      (λ row is. let c = round_candidates k row ((is_member-Decides bytes_eq-Decides (round_list known t k) row).0 is) in
      (is_member-Decides bytes_eq-Decides (candidates known t) row).1
      (Contains-flat_map (λ q. tuples (numbers_in known) (length q.columns)) t.body c.query row c.among (tuples-has (numbers_in known) row (length c.query.columns) c.long c.within)))

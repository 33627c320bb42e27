-- The lists have exactly the rows of selects and of tables.
use Rattle.std.proofs.Common.{◌≡◌, ◌≤◌, ◌⊎◌, inl, inr, ℕ, zero, suc, Bool, true, false, if◌then◌else◌, bytes_eq, MatchBool, List, [], ◌∷◌, ◌++◌, fold, length, refl, sym, ap, subst, ◌∙◌, arith}
use Rattle.std.specs.List.{Contains, AllByRecursion, IsDistinct, list_all, list_any}
use Rattle.std.proofs.lemmas.Bool.{and_parts, and_from, eqb-true, eq-eqb}
use Rattle.std.proofs.lemmas.Cmp.{nat_list_eq_equiv}
use Rattle.std.proofs.lemmas.List.{length-append, append-nil, append_assoc}
use Rattle.std.proofs.lemmas.Map.Keys.{IsDistinct-push}
use Rattle.graph_text.proofs.MemberLemmas.{Contains-first, Contains-later, Contains-cases, Contains-none, Contains-append_left, Contains-append_right, Contains-append_cases, Contains-flat_map, Contains-from_flat_map, Contains-list_any, Contains-map, Contains-from_map}
use Rattle.sql_read.specs.Grammar.{Source, Equation, Query, Table}
use Rattle.sql_read.specs.Conditions.{Header, header_of}
use Rattle.sql_mean.specs.Selects.{IsProduct, Meets, projected, IsSelectRow, IsUnionRow}
use Rattle.sql_mean.specs.Tables.{With, last_select, InRound, AddsNothing}
use Rattle.sql_mean.specs.Evaluation.{KnownValue, headers_in, rows_under, with_row, with_each, grow, products, is_met, if_met, select_list, union_list, join_row, joined}
use Rattle.sql_mean.proofs.NameLemmas.{names_are}

-- ---- rows that are kept once

join_row-cases : (kept : List (List ℕ)) (row r : List ℕ) → Contains (join_row kept row) r → Contains kept r ⊎ (row ≡ r)
join_row-cases kept row r has =
    go (list_any (bytes_eq row) kept) has
  where
    go : (b : Bool) → Contains (if b then kept else kept ++ row ∷ []) r → Contains kept r ⊎ (row ≡ r)
    go true has = inl has
    go false has =
        elim (Contains-append_cases kept (row ∷ []) r has) [
          | inl before ↦ inl before
          | inr last ↦ elim (Contains-cases row r [] last) [ inl same ↦ inr same | inr none ↦ absurd (Contains-none r none) ]
        ]

join_row-keeps : (kept : List (List ℕ)) (row r : List ℕ) → Contains kept r → Contains (join_row kept row) r
join_row-keeps kept row r has =
    go (list_any (bytes_eq row) kept)
  where
    go : (b : Bool) → Contains (if b then kept else kept ++ row ∷ []) r
    go true = has
    go false = Contains-append_left kept (row ∷ []) r has

join_row-has : (kept : List (List ℕ)) (row : List ℕ) → Contains (join_row kept row) row
join_row-has kept row =
    go (list_any (bytes_eq row) kept) refl
  where
    go : (b : Bool) → list_any (bytes_eq row) kept ≡ b → Contains (if b then kept else kept ++ row ∷ []) row
    go true is = let found = Contains-list_any (bytes_eq row) kept is in subst (Contains kept) (sym (names_are row found.0 found.2)) found.1
    go false is = Contains-append_right kept (row ∷ []) row (Contains-first row [])

pub joined-cases : (rows kept : List (List ℕ)) (r : List ℕ) → Contains (joined kept rows) r → Contains kept r ⊎ Contains rows r
joined-cases [] kept r has = inl has
joined-cases (row ∷ rows) kept r has =
    elim (joined-cases rows (join_row kept row) r has) [
      | inl begun ↦ elim (join_row-cases kept row r begun) [
        | inl before ↦ inl before
        | inr same ↦ inr (subst (Contains (row ∷ rows)) same (Contains-first row rows))
      ]
      | inr later ↦ inr (Contains-later row r rows later)
    ]

pub joined-keeps : (rows kept : List (List ℕ)) (r : List ℕ) → Contains kept r → Contains (joined kept rows) r
joined-keeps [] kept r has = has
joined-keeps (row ∷ rows) kept r has = joined-keeps rows (join_row kept row) r (join_row-keeps kept row r has)

pub joined-has : (rows kept : List (List ℕ)) (r : List ℕ) → Contains rows r → Contains (joined kept rows) r
joined-has [] kept r has = absurd (Contains-none r has)
joined-has (row ∷ rows) kept r has =
    elim (Contains-cases row r rows has) [
      | inl same ↦ joined-keeps rows (join_row kept row) r (subst (Contains (join_row kept row)) same (join_row-has kept row))
      | inr later ↦ joined-has rows (join_row kept row) r later
    ]

-- a list to which rows are joined is its beginning, so it is the same where it is as long
record Grown (kept all : List (List ℕ)) : Type 0 where
  more : List (List ℕ)
  is : all ≡ kept ++ more

join_row-grown : (kept : List (List ℕ)) (row : List ℕ) → Grown kept (join_row kept row)
join_row-grown kept row =
    go (list_any (bytes_eq row) kept)
  where
    go : (b : Bool) → Grown kept (if b then kept else kept ++ row ∷ [])
    go true = record { more = []; is = sym (append-nil kept) }
    go false = record { more = row ∷ []; is = refl }

joined-grown : (rows kept : List (List ℕ)) → Grown kept (joined kept rows)
joined-grown [] kept = record { more = []; is = sym (append-nil kept) }
joined-grown (row ∷ rows) kept =
    let one = join_row-grown kept row in
    let later = joined-grown rows (join_row kept row) in
    record { more = one.more ++ later.more; is = later.is ∙ ap (λ xs. xs ++ later.more) one.is ∙ append_assoc kept one.more later.more }

no_more : (kept more : List (List ℕ)) → length (kept ++ more) ≡ length kept → kept ++ more ≡ kept
no_more kept [] same = append-nil kept
no_more kept (x ∷ more) same = absurd (omega (arith, same, length-append kept (x ∷ more)))

pub joined-same : (rows kept : List (List ℕ)) → length (joined kept rows) ≡ length kept → joined kept rows ≡ kept
joined-same rows kept same =
    let g = joined-grown rows kept in
    g.is ∙ no_more kept g.more (sym (ap length g.is) ∙ same)

pub joined-long : (rows kept : List (List ℕ)) → length kept ≤ length (joined kept rows)
joined-long rows kept = let g = joined-grown rows kept in omega (arith, ap length g.is, length-append kept g.more)

join_row-distinct : (kept : List (List ℕ)) (row : List ℕ) → IsDistinct bytes_eq kept → IsDistinct bytes_eq (join_row kept row)
join_row-distinct kept row distinct =
    go (list_any (bytes_eq row) kept) refl
  where
    go : (b : Bool) → list_any (bytes_eq row) kept ≡ b → IsDistinct bytes_eq (if b then kept else kept ++ row ∷ [])
    go true is = distinct
    go false is = IsDistinct-push nat_list_eq_equiv kept row distinct is

pub joined-distinct : (rows kept : List (List ℕ)) → IsDistinct bytes_eq kept → IsDistinct bytes_eq (joined kept rows)
joined-distinct [] kept distinct = distinct
joined-distinct (row ∷ rows) kept distinct = joined-distinct rows (join_row kept row) (join_row-distinct kept row distinct)

-- ---- products

module _ (known : List KnownValue) where
  -- the rows of the lists
  abbrev HasListed : List ℕ → List ℕ → Type 0
  HasListed name row = Contains (rows_under known name) row

  record IsGrown (begun : List (List (List ℕ))) (sources : List Source) (product : List (List ℕ)) : Type 0 where
    from : List (List ℕ)
    among : Contains begun from
    rest : List (List ℕ)
    picked : IsProduct HasListed sources rest
    is : from ++ rest ≡ product

  products-from : (sources : List Source) (begun : List (List (List ℕ))) (product : List (List ℕ)) → Contains (fold (grow known) begun sources) product → IsGrown begun sources product
  products-from [] begun product has = record { from = product; among = has; rest = []; picked = tt; is = append-nil product }
  products-from (s ∷ sources) begun product has =
      let later = products-from sources (grow known begun s) product has in
      let one = Contains-from_flat_map (with_each (rows_under known s.table)) begun later.from later.among in
      let row = Contains-from_map (with_row one.0) (rows_under known s.table) later.from one.2 in
      record {
        from = one.0;
        among = one.1;
        rest = row.0 ∷ later.rest;
        picked = (row.1, later.picked);
        is = sym (append_assoc one.0 (row.0 ∷ []) later.rest) ∙ ap (λ xs. xs ++ later.rest) row.2 ∙ later.is;
      }

  products-has : (sources : List Source) (begun : List (List (List ℕ))) (from rest : List (List ℕ)) → Contains begun from → IsProduct HasListed sources rest
      → Contains (fold (grow known) begun sources) (from ++ rest)
  products-has [] begun from [] among picked = subst (Contains begun) (sym (append-nil from)) among
  products-has [] begun from (row ∷ rest) among picked = absurd picked
  products-has (s ∷ sources) begun from [] among picked = absurd picked
  products-has (s ∷ sources) begun from (row ∷ rest) among picked =
      subst (Contains (fold (grow known) (grow known begun s) sources)) (append_assoc from (row ∷ []) rest)
      (products-has sources (grow known begun s) (from ++ row ∷ []) rest
      (Contains-flat_map (with_each (rows_under known s.table)) begun from (from ++ row ∷ []) among (Contains-map (with_row from) (rows_under known s.table) row picked.0)) picked.1)

  product-from : (sources : List Source) (product : List (List ℕ)) → Contains (products known sources) product → IsProduct HasListed sources product
  product-from sources product has =
      let g = products-from sources ([] ∷ []) product has in
      elim (Contains-cases [] g.from [] g.among) [
        | inl same ↦ subst (IsProduct HasListed sources) (ap (λ xs. xs ++ g.rest) same ∙ g.is) g.picked
        | inr none ↦ absurd (Contains-none g.from none)
      ]

  -- ---- selects

  abbrev headers : List Header
  headers = headers_in known

  module _ (sources : List Source) (product : List (List ℕ)) where
    met-from : (equations : List Equation) → list_all (is_met headers sources product) equations ≡ true → AllByRecursion (Meets headers sources product) equations
    met-from [] all = tt
    met-from (e ∷ equations) all =
        let parts = and_parts (is_met headers sources product e) (list_all (is_met headers sources product) equations) all in
        (eqb-true _ _ parts.0, met-from equations parts.1)

    met-has : (equations : List Equation) → AllByRecursion (Meets headers sources product) equations → list_all (is_met headers sources product) equations ≡ true
    met-has [] all = refl
    met-has (e ∷ equations) all = and_from (is_met headers sources product e) (list_all (is_met headers sources product) equations) (eq-eqb _ _ all.0) (met-has equations all.1)

  select-from : (q : Query) (row : List ℕ) → Contains (select_list known q) row → IsSelectRow headers HasListed q row
  select-from q row has =
      let found = Contains-from_flat_map (if_met headers q) (products known q.sources) row has in
      go found.0 found.1 (list_all (is_met headers q.sources found.0) q.equations) refl found.2
    where
      go : (product : List (List ℕ)) → Contains (products known q.sources) product → (b : Bool) → list_all (is_met headers q.sources product) q.equations ≡ b
          → Contains (if b then projected headers q product ∷ [] else []) row → IsSelectRow headers HasListed q row
      go product among true is has =
          record {
            product = product;
            picked = product-from q.sources product among;
            meets = met-from q.sources product q.equations is;
            row_is = elim (Contains-cases (projected headers q product) row [] has) [ inl same ↦ sym same | inr none ↦ absurd (Contains-none row none) ];
          }
      go product among false is has = absurd (Contains-none row has)

  select-has : (q : Query) (row : List ℕ) → IsSelectRow headers HasListed q row → Contains (select_list known q) row
  select-has q row is =
      Contains-flat_map (if_met headers q) (products known q.sources) is.product row (products-has q.sources ([] ∷ []) [] is.product (Contains-first [] []) is.picked)
      (go (list_all (is_met headers q.sources is.product) q.equations) (met-has q.sources is.product q.equations is.meets))
    where
      go : (b : Bool) → b ≡ true → Contains (if b then projected headers q is.product ∷ [] else []) row
      go true met = subst (Contains (projected headers q is.product ∷ [])) (sym is.row_is) (Contains-first (projected headers q is.product) [])
      go false met = cc

  pub union-from : (queries : List Query) (row : List ℕ) → Contains (union_list known queries) row → IsUnionRow headers HasListed queries row
  union-from queries row has =
      let found = Contains-from_flat_map (select_list known) queries row has in
      (found.0, found.1, select-from found.0 row found.2)

  pub union-has : (queries : List Query) (row : List ℕ) → IsUnionRow headers HasListed queries row → Contains (union_list known queries) row
  union-has queries row is = Contains-flat_map (select_list known) queries is.0 row is.1 (select-has is.0 row is.2)

-- ---- more rows of tables give more rows of selects

module _ (headers : List Header) (Has More : List ℕ → List ℕ → Type 0) (more : (name row : List ℕ) → Has name row → More name row) where
  product-more : (sources : List Source) (product : List (List ℕ)) → IsProduct Has sources product → IsProduct More sources product
  product-more [] [] picked = tt
  product-more [] (row ∷ product) picked = absurd picked
  product-more (s ∷ sources) [] picked = absurd picked
  product-more (s ∷ sources) (row ∷ product) picked = (more s.table row picked.0, product-more sources product picked.1)

  pub union-more : (queries : List Query) (row : List ℕ) → IsUnionRow headers Has queries row → IsUnionRow headers More queries row
  union-more queries row is = (
    is.0,
    is.1,
    record { product = is.2.product; picked = product-more is.0.sources is.2.product is.2.picked; meets = is.2.meets; row_is = is.2.row_is },
  )

with-more : (Has More : List ℕ → List ℕ → Type 0) (name : List ℕ) (IsRow OrMore : List ℕ → Type 0) → ((other row : List ℕ) → Has other row → More other row)
    → ((row : List ℕ) → IsRow row → OrMore row) → (other row : List ℕ) → With Has name IsRow other row → With More name OrMore other row
with-more Has More name IsRow OrMore more rows other row is =
    go (bytes_eq name other) is
  where
    go : (b : Bool) → MatchBool b (IsRow row) (Has other row) → MatchBool b (OrMore row) (More other row)
    go true is = rows row is
    go false is = more other row is

-- ---- any two rounds after which nothing is added agree

module _ (headers : List Header) (Has : List ℕ → List ℕ → Type 0) (t : Table) where
  begun : (k : ℕ) (row : List ℕ) → InRound headers Has t zero row → InRound headers Has t k row
  begun zero row is = is
  begun (suc k) row is = inl (begun k row is)

  pub stable_has_all : (k : ℕ) → AddsNothing headers Has t k → (j : ℕ) (row : List ℕ) → InRound headers Has t j row → InRound headers Has t k row
  stable_has_all k stable zero row is = begun k row is
  stable_has_all k stable (suc j) row is =
      elim is [
        | inl before ↦ stable_has_all k stable j row before
        | inr more ↦ stable row (inr (union-more (header_of t ∷ headers) (With Has t.name (InRound headers Has t j)) (With Has t.name (InRound headers Has t k))
            (with-more Has Has t.name (InRound headers Has t j) (InRound headers Has t k) (λ other r has. has) (λ r has. stable_has_all k stable j r has)) (last_select t) row more))
      ]

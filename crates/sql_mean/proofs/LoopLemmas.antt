-- Lists that loops make, one item more.
use Rattle.std.proofs.Common.{◌≡◌, ◌<◌, ◌≤◌, ◌-◌, map, drop, ℕ, zero, suc, ◌+◌, Some, List, [], ◌∷◌, ◌++◌, length, take, slice_get, unwrap_or, refl, sym, ap, subst, ◌∙◌, arith}
use Rattle.std.specs.List.{flat_map, slice_index_or}
use Rattle.std.proofs.lemmas.Option.{slice_get_read}
use Rattle.sql_read.specs.Grammar.{Query}
use Rattle.sql_read.specs.Kept.{Kept, AllFit, cut, query_in, table_in}
use Rattle.sql_read.specs.declared.query.Select.{Select}
use Rattle.sql_read.specs.declared.query.Table.{Table}
use Rattle.sql_mean.specs.Tables.{base, last_select}
use Rattle.sql_mean.specs.Evaluation.{KnownValue, select_list, union_list}
use Rattle.std.proofs.lemmas.List.{append_assoc, append-nil, take_all, take-map, drop-map, length-map}
use Rattle.std.proofs.lemmas.List.Folds.{flat_map-map}

flat_map_next : {X Y : Type 0} (f : X → List Y) (xs : List X) (k : ℕ) (x : X) → slice_get xs k ≡ Some x → flat_map f (take (suc k) xs) ≡ flat_map f (take k xs) ++ f x
flat_map_next f [] k x at = cc
flat_map_next f (y ∷ xs) zero x at = append-nil (f y) ∙ ap (λ o. f (unwrap_or o y)) at
flat_map_next f (y ∷ xs) (suc k) x at = ap (λ ys. f y ++ ys) (flat_map_next f xs k x at) ∙ sym (append_assoc (f y) (flat_map f (take k xs)) (f x))

-- what one item more adds
pub grown_by : {X Y : Type 0} (f : X → List Y) (xs : List X) (k : ℕ) (x y : X) (begun now next : List Y) → slice_get xs k ≡ Some x → y ≡ x → now ≡ begun ++ flat_map f (take k xs)
    → next ≡ now ++ f y → next ≡ begun ++ flat_map f (take (k + 1) xs)
grown_by f xs k x y begun now next at same is more =
    let count : suc k ≡ k + 1 = omega arith in
    more
    ∙ ap (λ z. now ++ f z) same
    ∙ ap (λ ys. ys ++ f x) is
    ∙ append_assoc begun (flat_map f (take k xs)) (f x)
    ∙ ap (λ ys. begun ++ ys) (sym (flat_map_next f xs k x at) ∙ ap (λ n. flat_map f (take n xs)) count)

-- each item of a list fits
pub fit_at : {X : Type 0} (Fits : X → Type 0) (xs : List X) (k : ℕ) (x : X) → AllFit Fits xs → slice_get xs k ≡ Some x → Fits x
fit_at Fits [] k x fit at = cc
fit_at Fits (y ∷ xs) zero x fit at = subst Fits (ap (λ o. unwrap_or o y) at) fit.0
fit_at Fits (y ∷ xs) (suc k) x fit at = fit_at Fits xs k x fit.1 at

-- the item that a loop reads
pub item_at : {X : Type 0} (xs : List X) (k : ℕ) (x : X) → k < length xs → x ≡ slice_index_or xs k x → slice_get xs k ≡ Some x
item_at xs k x within is = slice_get_read xs (length xs) k x refl within is

module _ (known : List KnownValue) (kept : Kept) where
  abbrev view : Select → Query
  view s = query_in s kept

  pub whole_union : (selects : List Select) (k : ℕ) (rows : List (List ℕ)) → length selects ≤ k → rows ≡ flat_map (λ s. select_list known (query_in s kept)) (take k selects)
      → rows ≡ union_list known (map (λ s. query_in s kept) selects)
  whole_union selects k rows past is =
      is ∙ ap (λ xs. flat_map (λ s. select_list known (query_in s kept)) xs) (take_all k selects past) ∙ sym (flat_map-map (select_list known) view selects)

-- the parts of a list fit
pub fit_take : {X : Type 0} (Fits : X → Type 0) (n : ℕ) (xs : List X) → AllFit Fits xs → AllFit Fits (take n xs)
fit_take Fits zero xs fit = tt
fit_take Fits (suc n) [] fit = tt
fit_take Fits (suc n) (x ∷ xs) fit = (fit.0, fit_take Fits n xs fit.1)

pub fit_drop : {X : Type 0} (Fits : X → Type 0) (n : ℕ) (xs : List X) → AllFit Fits xs → AllFit Fits (drop n xs)
fit_drop Fits zero xs fit = fit
fit_drop Fits (suc n) [] fit = tt
fit_drop Fits (suc n) (x ∷ xs) fit = fit_drop Fits n xs fit.1

module _ (kept : Kept) (t : Table) (n : ℕ) (count : n ≡ length (cut kept.selects t.body) - 1) where
  abbrev selects : List Select
  selects = cut kept.selects t.body

  same_count : n ≡ length (table_in t kept).body - 1
  same_count = omega (arith, count, length-map selects (λ s. query_in s kept))

  pub base_is : base (table_in t kept) ≡ map (λ s. query_in s kept) (take n selects)
  base_is = ap (λ k. take k (table_in t kept).body) (sym same_count) ∙ take-map (λ s. query_in s kept) n selects

  pub last_is : last_select (table_in t kept) ≡ map (λ s. query_in s kept) (drop n selects)
  last_is = ap (λ k. drop k (table_in t kept).body) (sym same_count) ∙ drop-map (λ s. query_in s kept) n selects

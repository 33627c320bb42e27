-- The loops of the code make the lists of the definitions.
use Rattle.std.proofs.Common.{◌≡◌, ◌<◌, ◌≤◌, ◌+◌, ℕ, zero, suc, Bool, true, false, if◌then◌else◌, Option, Some, None, List, [], ◌∷◌, ◌++◌, length, take, drop, get_or, slice_get, unwrap_or, bytes_eq, IfSome, refl, sym, ap, subst, ◌∙◌, arith}
use Rattle.std.specs.List.{flat_map, list_all}
use Rattle.std.proofs.lemmas.List.{take_more, take_all, drop_more, drop_all, get_or-drop, length-drop, append-nil}
use Rattle.std.proofs.lemmas.Grind.{flat_map-append}
use Rattle.std.proofs.lemmas.List.Sums.{fold_push}
use Rattle.std.proofs.lemmas.List.Folds.{list_all-map}
use Rattle.std.proofs.lemmas.Option.{slice_get_within, get_or_from_slice_get, slice_get-get_or}
use Rattle.gm_text.specs.declared.lists.Span.{Span}
use Rattle.graph_text.specs.declared.graphs.Triple.{Triple}
use Rattle.node_tables.specs.Tables.{table_in}
use Rattle.sparql_read.specs.Layout.{Node, Entry}
use Rattle.sparql_mean.specs.Mappings.{Mapping}
use Rattle.sparql_mean.specs.Tables.{table_of, with_table, tables_of}
use Rattle.sparql_mean.specs.Joins.{entry_of, mapping_of, agrees, fits, value, before, values, grown, grow, mappings, row_of, patterns_of, group_rows}
use denote.Ref.{Bor}

some_same : {X : Type 0} (x y : X) → Some x ≡ Some y → x ≡ y
some_same x y same = ap (λ o. unwrap_or o x) same

before_none : (o : Option ℕ) → before o None ≡ None
before_none None = refl
before_none (Some n) = refl

-- one item more
taken : {X : Type 0} (xs : List X) (i : ℕ) (x : X) → slice_get xs i ≡ Some x → take (i + 1) xs ≡ take i xs ++ x ∷ []
taken xs i x at = take_more xs i x (slice_get_within xs i x at) ∙ ap (λ y. take i xs ++ y ∷ []) (get_or_from_slice_get xs i x x at)

pub tables_more : (names : List (List ℕ)) (graph : List Triple) (nodes : List ℕ) (paths : List Node) (i : ℕ) (path : Node) → slice_get paths i ≡ Some path
    → tables_of names graph nodes (take (i + 1) paths) ≡ tables_of names graph nodes (take i paths) ++ table_of names graph nodes (tables_of names graph nodes (take i paths)) path ∷ []
tables_more names graph nodes paths i path at =
    ap (tables_of names graph nodes) (taken paths i path at) ∙ fold_push (with_table names graph nodes) [] (take i paths) path

pub fits_entries : (m : Mapping) (entries : List (Bor (List ℕ) × ℕ)) (x : List ℕ) (a : ℕ) (fit : Bool) → fit ≡ list_all (λ e. agrees x a (entry_of e)) entries → mapping_of entries ≡ m
    → fit ≡ fits m x a
fits_entries m entries x a fit is same = is ∙ (sym (list_all-map (agrees x a) entry_of entries) ∙ ap (λ k. fits k x a) same)

pub value_step : (entries : List (Bor (List ℕ) × ℕ)) (i : ℕ) (d : Bor (List ℕ) × ℕ) (x : List ℕ) → i < length entries
    → value (mapping_of (drop i entries)) x ≡ (if bytes_eq (get_or entries i d).0.now x then Some (get_or entries i d).1 else value (mapping_of (drop (i + 1) entries)) x)
unfolding value
value_step entries i d x less = ap (λ es. value (mapping_of es) x) (drop_more entries i d less)

pub value_hit : (entries : List (Bor (List ℕ) × ℕ)) (i : ℕ) (d : Bor (List ℕ) × ℕ) (x : List ℕ) (v : Option ℕ) → i < length entries
    → true ≡ bytes_eq (get_or entries i d).0.now x → value (mapping_of (drop i entries)) x ≡ v → Some (get_or entries i d).1 ≡ v
value_hit entries i d x v less same is =
    ap (λ t. if t then Some (get_or entries i d).1 else value (mapping_of (drop (i + 1) entries)) x) same ∙ (sym (value_step entries i d x less) ∙ is)

pub value_miss : (entries : List (Bor (List ℕ) × ℕ)) (i : ℕ) (d : Bor (List ℕ) × ℕ) (x : List ℕ) (v : Option ℕ) → i < length entries
    → false ≡ bytes_eq (get_or entries i d).0.now x → value (mapping_of (drop i entries)) x ≡ v → value (mapping_of (drop (i + 1) entries)) x ≡ v
value_miss entries i d x v less other is =
    ap (λ t. if t then Some (get_or entries i d).1 else value (mapping_of (drop (i + 1) entries)) x) other ∙ (sym (value_step entries i d x less) ∙ is)

pub value_end : (entries : List (Bor (List ℕ) × ℕ)) (i : ℕ) (x : List ℕ) (v : Option ℕ) → length entries ≤ i → value (mapping_of (drop i entries)) x ≡ v → None ≡ v
unfolding value
value_end entries i x v past is = sym (ap (λ es. value (mapping_of es) x) (drop_all i entries past)) ∙ is

pub values_none : (m : Mapping) (xs : List (List ℕ)) (i : ℕ) (x : List ℕ) → slice_get xs i ≡ Some x → value m x ≡ None → values m xs ≡ None
values_none m [] i x at none = cc
values_none m (y ∷ xs) zero x at none = ap (λ o. before o (values m xs)) (ap (value m) (some_same y x at) ∙ none)
values_none m (y ∷ xs) (suc i) x at none = ap (before (value m y)) (values_none m xs i x at none) ∙ before_none (value m y)

pub values_length : (m : Mapping) (xs : List (List ℕ)) (row : List ℕ) → values m xs ≡ Some row → length row ≡ length xs
values_length m [] row is = ap length (some_same row [] (sym is))
values_length m (x ∷ xs) row is =
    go (values_length m xs) (value m x) (values m xs) refl is
  where
    go : ((rest : List ℕ) → values m xs ≡ Some rest → length rest ≡ length xs) → (o : Option ℕ) (ns : Option (List ℕ)) → values m xs ≡ ns → before o ns ≡ Some row
        → length row ≡ suc (length xs)
    go long None None all at = cc
    go long None (Some rest) all at = cc
    go long (Some n) None all at = cc
    go long (Some n) (Some rest) all at = ap length (some_same row (n ∷ rest) (sym at)) ∙ ap suc (long rest all)

-- as many numbers as variables
pub as_many : (m : Mapping) (xs : List (List ℕ)) (i : ℕ) (row items : List ℕ) → values m (take i xs) ≡ Some row → length xs ≤ i → items ≡ row → length items ≡ length xs
as_many m xs i row items is past same = ap length same ∙ values_length m xs row (ap (values m) (sym (take_all i xs past)) ∙ is)

-- a table more
pub put_step : (names : List (List ℕ)) (graph : List Triple) (nodes : List ℕ) (paths : List Node) (old seen new : List (List (ℕ × ℕ))) (table : List (ℕ × ℕ)) (path : Node) (i id : ℕ)
    → old ≡ tables_of names graph nodes (take i paths) → seen ≡ old → id ≡ i → slice_get paths id ≡ Some path → table ≡ table_of names graph nodes seen path → new ≡ old ++ table ∷ []
    → new ≡ tables_of names graph nodes (take (i + 1) paths)
put_step names graph nodes paths old seen new table path i id before_it same id_is at is more =
    more
    ∙ (ap (λ t. old ++ t ∷ []) (is ∙ ap (λ ts. table_of names graph nodes ts path) same)
    ∙ (ap (λ ts. ts ++ table_of names graph nodes ts path ∷ []) before_it
    ∙ sym (tables_more names graph nodes paths i path (subst (λ k. slice_get paths k ≡ Some path) id_is at))))

-- an item behind the first ones
behind : {X : Type 0} (xs : List X) (n i : ℕ) (x : X) → slice_get xs (n + i) ≡ Some x → slice_get (drop n xs) i ≡ Some x
behind xs n i x at =
    let less : i < length (drop n xs) = omega (arith, slice_get_within xs (n + i) x at, length-drop n xs) in
    slice_get-get_or (drop n xs) i x less ∙ ap (λ y. Some y) (get_or-drop n xs i x ∙ get_or_from_slice_get xs (n + i) x x at)

-- where there is one, it is this
told : {X : Type 0} (P : X → Type 0) (o : Option X) (x : X) → o ≡ Some x → IfSome o P → P x
told P o x is of_it = subst (λ p. IfSome p P) is of_it

-- a pattern more
pub grown_step : (tables : List (List (ℕ × ℕ))) (groups : List Span) (g : ℕ) (group : Span) (patterns : List Entry) (i : ℕ) (e : Entry) (old seen new : List Mapping) (pairs : List (ℕ × ℕ))
    → slice_get groups g ≡ Some group → IfSome (slice_get groups g) (λ s. slice_get patterns (s.first + i) ≡ Some e) → old ≡ mappings tables (take i (drop group.first patterns))
    → seen ≡ old → pairs ≡ table_in tables e.path → new ≡ flat_map (grown e.subject e.object pairs) seen → new ≡ mappings tables (take (i + 1) (drop group.first patterns))
grown_step tables groups g group patterns i e old seen new pairs at has before_it same pairs_are is =
    let e_at = told (λ s. slice_get patterns (s.first + i) ≡ Some e) (slice_get groups g) group at has in
    is
    ∙ (ap (λ ps. flat_map (grown e.subject e.object ps) seen) pairs_are
    ∙ (ap (λ ms. grow tables ms e) (same ∙ before_it)
    ∙ (sym (fold_push (grow tables) ([] ∷ []) (take i (drop group.first patterns)) e)
    ∙ ap (mappings tables) (sym (taken (drop group.first patterns) i e (behind patterns group.first i e e_at))))))

-- a group more
pub rows_step : (tables : List (List (ℕ × ℕ))) (heads : List (List ℕ)) (patterns : List Entry) (groups : List Span) (g : ℕ) (d : Span) (old new : List (List ℕ)) (all seen : List Mapping)
    → g < length groups → old ≡ flat_map (group_rows tables heads patterns) (take g groups)
    → ((group : Span) → slice_get groups g ≡ Some group → all ≡ mappings tables (patterns_of patterns group)) → seen ≡ all → new ≡ old ++ flat_map (row_of heads) seen
    → new ≡ flat_map (group_rows tables heads patterns) (take (g + 1) groups)
rows_step tables heads patterns groups g d old new all seen less before_it are same is =
    let group : Span = get_or groups g d in
    let at : slice_get groups g ≡ Some group = slice_get-get_or groups g d less in
    let F : Span → List (List ℕ) = group_rows tables heads patterns in
    is
    ∙ (ap (λ ms. old ++ flat_map (row_of heads) ms) (same ∙ are group at)
    ∙ (ap (λ rows. rows ++ F group) before_it
    ∙ (ap (λ rows. flat_map F (take g groups) ++ rows) (sym (append-nil (F group)))
    ∙ (sym (flat_map-append F (take g groups) (group ∷ []))
    ∙ ap (flat_map F) (sym (taken groups g group at))))))

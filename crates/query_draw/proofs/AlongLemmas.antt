-- The product with the matrix of a symbol, edge by edge.
use Rattle.std.proofs.Common.{◌≡◌, ℕ, zero, suc, ◌+◌, ◌<◌, ◌==◌, ◌^◌, Bool, true, false, Option, Some, None, List, [], ◌∷◌, ◌++◌, length, map, filter, slice_index_or, slice_set, inl, inr, refl, sym, ap, subst, ◌∙◌, arith, add-one}
use Rattle.std.specs.List.{All, Contains, range_with_len}
use Rattle.std.proofs.lemmas.Bool.{cases_Bool, eq-eqb, eqb-true}
use Rattle.std.proofs.lemmas.Bool.Decides.{eqb_tells}
use Rattle.std.proofs.lemmas.List.{get_or-map, length-map, get_or-set_same, get_or-set_other, length-set}
use Rattle.std.proofs.lemmas.List.Elements.{All-filter, filter_passes, filter-append, Contains-get_or, Contains-append_right, at_from_Contains}
use Rattle.std.proofs.lemmas.List.FromFn.{length-range_with_len, get_or-range_with_len, map-range_with_len_more, get_or-map-range_with_len}
use Rattle.sel_algebra.specs.declared.vocabulary.Op.{Op}
use Rattle.sel_algebra.specs.declared.vocabulary.Kind.{Kind}
use Rattle.sel_algebra.specs.declared.vocabulary.Symbol.{Symbol}
use Rattle.sel_algebra.specs.Entries.{joined, join_below, composed, EntryAtMost}
use Rattle.sel_algebra.specs.Table.{Table, kind_at, entry, through, product_at, times_of}
use Rattle.sel_algebra.proofs.EntryLemmas.{EntryAtMost-refl, EntryAtMost-antisym, joined-EntryAtMost, joined-none, join_below-none, join_below-more, EntryAtMost-join_below}
use Rattle.sel_algebra.proofs.TableLemmas.{entry-table_of}
use Rattle.schema_graph.specs.declared.edge.SchemaEdge.{SchemaEdge}
use Rattle.schema_graph.specs.Edge.{no_edge, edge_at, taken, use_of, start_of, end_of, op_of, label_of}
use Rattle.schema_graph.specs.Schema.{SchemaValue, IsSchema}
use Rattle.schema_graph.specs.Labelled.{all_taken, matrix_of}
use Rattle.schema_graph.proofs.LabelledLemmas.{HasOperators-matrix_of}
use Rattle.query_draw.specs.declared.columns.Column.{Column}
use Rattle.query_draw.specs.Columns.{AreGrowing, Tells, no_column, no_entry, column_at, AreColumns, joined_column, edge_column, JoinsEdge, JoinsSymbol, has_label, labelled, edge_if}
use Rattle.query_draw.specs.Wide.{symbol_matrix}
use Rattle.query_draw.proofs.ColumnLemmas.{Tells-joined, Tells-path, AreColumns-same}
use Rattle.query_draw.proofs.WideLemmas.{symbol_edge, symbol_entry, times-at_least}

-- ---- the edges with a label

map_same : (xs : List ℕ) → map (λ x. x) xs ≡ xs
map_same [] = refl
map_same (x ∷ xs) = ap (λ ys. x ∷ ys) (map_same xs)

range_more : (n : ℕ) → range_with_len 0 (n + 1) ≡ range_with_len 0 n ++ n ∷ []
range_more n = sym (map_same (range_with_len 0 (n + 1))) ∙ (map-range_with_len_more (λ x. x) 0 n n (omega arith) ∙ ap (λ xs. xs ++ n ∷ []) (map_same (range_with_len 0 n)))

filter_one : (p : ℕ → Bool) (x : ℕ) (b : Bool) → p x ≡ b → filter p (x ∷ []) ≡ edge_if b x
filter_one p x true is = rw is refl
filter_one p x false is = rw is refl

-- the numbers up to one more
pub labelled-more : (edges : List SchemaEdge) (label n : ℕ) → filter (has_label edges label) (range_with_len 0 (n + 1)) ≡ filter (has_label edges label) (range_with_len 0 n) ++ edge_if (has_label edges label n) n
labelled-more edges label n =
    let p = has_label edges label in
    ap (filter p) (range_more n) ∙ (filter-append p (range_with_len 0 n) (n ∷ []) ∙ ap (λ xs. filter p (range_with_len 0 n) ++ xs) (filter_one p n (p n) refl))

range_below : (n : ℕ) → All (λ e. e < n) (range_with_len 0 n)
range_below n i d lt =
    let within : i < n = rw (length-range_with_len 0 n) at lt in
    let is : slice_index_or (range_with_len 0 n) i d ≡ i = get_or-range_with_len 0 n i d within ∙ omega arith in
    subst (λ e. e < n) (sym is) within

-- each of them is the number of an edge
pub labelled-edge : (edges : List SchemaEdge) (label n d : ℕ) → n < length (labelled edges label) → slice_index_or (labelled edges label) n d < length edges
labelled-edge edges label n d lt = All-filter (has_label edges label) (λ e. e < length edges) (range_with_len 0 (length edges)) (range_below (length edges)) n d lt

label_taken : (back : Bool) (e : SchemaEdge) → (taken back e).label ≡ e.label
label_taken true e = refl
label_taken false e = refl

labelled-label : (edges : List SchemaEdge) (label n d : ℕ) (back : Bool) → n < length (labelled edges label) → label_of edges (record { edge = slice_index_or (labelled edges label) n d; back = back }) ≡ label
labelled-label edges label n d back lt =
    let e = slice_index_or (labelled edges label) n d in
    label_taken back (edge_at edges e) ∙ eqb-true (edge_at edges e).label label (filter_passes (has_label edges label) (range_with_len 0 (length edges)) n d lt)

Contains-filter : {X : Type 0} (p : X → Bool) (xs : List X) (x : X) → Contains xs x → p x ≡ true → Contains (filter p xs) x
Contains-filter p [] x in_xs pass = absurd (omega (arith, in_xs.1))
Contains-filter p (y ∷ ys) x (zero, lt, same) pass = rw (ap p same ∙ pass) (0, omega arith, same)
Contains-filter p (y ∷ ys) x (suc k, lt, same) pass =
    let rest = Contains-filter p ys x (k, omega (arith, lt), same) pass in
    elim (cases_Bool (p y)) [
      | inl hit ↦ rw hit (Contains-append_right (y ∷ []) (filter p ys) x rest)
      | inr miss ↦ rw miss rest
    ]

range_has : (n d : ℕ) → d < n → Contains (range_with_len 0 n) d
range_has n d lt =
    let is : slice_index_or (range_with_len 0 n) d d ≡ d = get_or-range_with_len 0 n d d lt ∙ omega arith in
    subst (Contains (range_with_len 0 n)) is (Contains-get_or (range_with_len 0 n) d d (rw (length-range_with_len 0 n) lt))

-- an edge of the label is among them
labelled_there : (edges : List SchemaEdge) (label d : ℕ) (back : Bool) → d < length edges → label_of edges (record { edge = d; back = back }) ≡ label → Contains (labelled edges label) d
labelled_there edges label d back known same =
    Contains-filter (has_label edges label) (range_with_len 0 (length edges)) d (range_has (length edges) d known)
    (eq-eqb (edge_at edges d).label label (sym (label_taken back (edge_at edges d)) ∙ same))

-- the list that is kept for a label
pub labelled-at : (edges : List SchemaEdge) (lists : List (List ℕ)) (n label : ℕ) (d : List ℕ) → lists ≡ map (labelled edges) (range_with_len 0 n) → label < n → slice_index_or lists label d ≡ labelled edges label
labelled-at edges lists n label d are lt = ap (λ xs. slice_index_or xs label d) are ∙ get_or-map-range_with_len (labelled edges) 0 n label label d lt (omega arith)

-- ---- one edge

abbrev entry_if : Bool → Option Op → Option Op
entry_if true e = e
entry_if false e = None

-- what the paths from i and then along an edge add to the entry from i to j
abbrev use_entry : List Kind → SchemaEdge → Table → ℕ → ℕ → Option Op
use_entry kinds e t i j = entry_if (e.target == j) (composed (entry t i e.source) (Some e.op) (kind_at kinds i) (kind_at kinds j))

abbrev edge_entry : SchemaValue → Symbol → Table → ℕ → ℕ → Option Op
edge_entry g s t i j = use_entry g.kinds (use_of g.edges s) t i j

pub AreColumns-edge : (g : SchemaValue) (growing : ℕ) (s : Symbol) (a old new : List Column) (t : Table) (f : ℕ → ℕ → Option Op) → IsSchema g → growing < 2 ^ 64 → AreGrowing g.kinds growing → s.edge < length g.edges
    → AreColumns (length g.kinds) a (entry t) → AreColumns (length g.kinds) old f → JoinsEdge g growing s a old new → AreColumns (length g.kinds) new (λ i j. joined (f i j) (edge_entry g s t i j))
AreColumns-edge g growing s a old new t f is fits grows known first before joins =
    let e = use_of g.edges s in
    let to = e.target in
    let edge = symbol_edge g is s known in
    let c = joined_column (column_at old to) (edge_column g growing s a) in
    let path : (i j : ℕ) → Option Op = λ i j. composed (entry t i e.source) (Some e.op) (kind_at g.kinds i) (kind_at g.kinds j) in
    let changed : AreColumns (length g.kinds) (slice_set old to c) (λ i j. joined (f i j) (edge_entry g s t i j)) = record {
      whole = length-set old to c ∙ before.whole;
      each = λ i j p q. elim (eqb_tells to j) [
        | inl hit ↦
            let tells : Tells c i (joined (f i to) (path i to)) =
            Tells-joined (column_at old to) (edge_column g growing s a) i (f i to) (path i to) (before.each i to p edge.target)
            (Tells-path (column_at a e.source) e.op growing (kind_at g.kinds i) (kind_at g.kinds to) i (entry t i e.source) fits (let few = is.few_types in omega (arith, p, few)) (grows i p) (first.each i e.source p edge.source)) in
            let here : Tells (column_at (slice_set old to c) to) i (joined (f i to) (path i to)) =
            subst (λ d. Tells d i (joined (f i to) (path i to))) (sym (get_or-set_same old to c no_column (rw before.whole edge.target))) tells in
            subst (λ b. Tells (column_at (slice_set old to c) j) i (joined (f i j) (entry_if b (path i j)))) (sym hit.0)
            (subst (λ k. Tells (column_at (slice_set old to c) k) i (joined (f i k) (path i k))) hit.1 here)
        | inr miss ↦
            let here : Tells (column_at (slice_set old to c) j) i (f i j) =
            subst (λ d. Tells d i (f i j)) (sym (get_or-set_other old to j c no_column (λ same. miss.1 (sym same)))) (before.each i j p q) in
            subst (λ b. Tells (column_at (slice_set old to c) j) i (joined (f i j) (entry_if b (path i j)))) (sym miss.0)
            (subst (Tells (column_at (slice_set old to c) j) i) (sym (joined-none (f i j))) here)
      ];
    } in
    subst (λ cs. AreColumns (length g.kinds) cs (λ i j. joined (f i j) (edge_entry g s t i j))) (sym joins) changed

-- ---- some edges

-- the symbol of the d-th edge of a list
abbrev nth_symbol : Bool → List ℕ → ℕ → Symbol
nth_symbol back edges d = record { edge = slice_index_or edges d 0; back = back }

-- the entries that the first m edges of a list lead to
abbrev pub paths_below : SchemaValue → Bool → List ℕ → Table → ℕ → ℕ → ℕ → Option Op
paths_below g back edges t m i j = join_below m (λ d. edge_entry g (nth_symbol back edges d) t i j)

-- so they are after some edges
abbrev pub Follows : SchemaValue → Bool → List ℕ → List Column → List Column → ℕ → Type 0
Follows g back edges a new m = (t : Table) → t.kinds ≡ g.kinds → AreColumns (length g.kinds) a (entry t) → AreColumns (length g.kinds) new (paths_below g back edges t m)

pub Follows-none : (g : SchemaValue) (back : Bool) (edges : List ℕ) (a new : List Column) → AreColumns (length g.kinds) new no_entry → Follows g back edges a new 0
Follows-none g back edges a new none t same first =
    AreColumns-same (length g.kinds) new no_entry (paths_below g back edges t 0) (λ i j p q. sym (join_below-none (λ d. edge_entry g (nth_symbol back edges d) t i j))) none

pub Follows-more : (g : SchemaValue) (growing : ℕ) (back : Bool) (edges : List ℕ) (a old new : List Column) (m : ℕ) → IsSchema g → growing < 2 ^ 64 → AreGrowing g.kinds growing → slice_index_or edges m 0 < length g.edges
    → Follows g back edges a old m → JoinsEdge g growing (nth_symbol back edges m) a old new → Follows g back edges a new (m + 1)
Follows-more g growing back edges a old new m is fits grows known follows joins t same first =
    let f = paths_below g back edges t m in
    let s = nth_symbol back edges m in
    AreColumns-same (length g.kinds) new (λ i j. joined (f i j) (edge_entry g s t i j)) (paths_below g back edges t (m + 1))
    (λ i j p q. let path : ℕ → Option Op = λ d. edge_entry g (nth_symbol back edges d) t i j in sym (ap (λ n. join_below n path) (add-one m) ∙ join_below-more m path))
    (AreColumns-edge g growing s a old new t f is fits grows known first (follows t same first) joins)

-- ---- all edges of a label

pub join_below-most : (n : ℕ) (f : ℕ → Option Op) (c : Option Op) → ((k : ℕ) → k < n → EntryAtMost (f k) c) → EntryAtMost (join_below n f) c
unfolding join_below
join_below-most zero f c most = tt
join_below-most (suc n) f c most = joined-EntryAtMost (join_below n f) (f n) c (join_below-most n f c (λ k lt. most k (omega (arith, lt)))) (most n (omega arith))

-- the paths along an edge of a label are at most the product
use_least : (g : SchemaValue) → IsSchema g → (label : ℕ) (s : Symbol) → s.edge < length g.edges → label_of g.edges s ≡ label → (t : Table) → t.kinds ≡ g.kinds → (i j : ℕ) → i < length g.kinds → (b : Bool) → (end_of g.edges s == j) ≡ b
    → (x : Option Op) → entry t i (start_of g.edges s) ≡ x
    → EntryAtMost (entry_if b (composed x (Some (op_of g.edges s)) (kind_at g.kinds i) (kind_at g.kinds j))) (entry (times_of t (matrix_of g label s.back)) i j)
use_least g is label s known same t kinds i j p false there x here = tt
use_least g is label s known same t kinds i j p true there None here = tt
use_least g is label s known same t kinds i j p true there (Some v) here =
    let edge = symbol_edge g is s known in
    let m = matrix_of g label s.back in
    let op = op_of g.edges s in
    let exact : entry m (start_of g.edges s) (end_of g.edges s) ≡ Some op = subst (λ l. entry (matrix_of g l s.back) (start_of g.edges s) (end_of g.edges s) ≡ Some op) same (symbol_entry g is s known) in
    subst (λ k. EntryAtMost (composed (Some v) (Some op) (kind_at g.kinds i) (kind_at g.kinds k)) (entry (times_of t m) i k)) (eqb-true (end_of g.edges s) j there)
    (times-at_least g.kinds t m i (start_of g.edges s) (end_of g.edges s) v op kinds p edge.source edge.target
    (subst (EntryAtMost (Some v)) (sym here) (EntryAtMost-refl (Some v))) (subst (EntryAtMost (Some op)) (sym exact) (EntryAtMost-refl (Some op))))

-- an edge that is taken in a direction is that of a symbol
symbol_of : (g : SchemaValue) (back : Bool) (e : SchemaEdge) → Contains (all_taken g back) e → (edge : ℕ) × (edge < length g.edges) × (use_of g.edges (record { edge = edge; back = back }) ≡ e)
symbol_of g back e in_all =
    let (d, lt, is) = at_from_Contains (all_taken g back) e in_all in
    let known : d < length g.edges = rw (length-map g.edges (taken back)) at lt in
    (d, known, sym (get_or-map (taken back) g.edges d no_edge e known) ∙ is e)

-- the path by way of k is among the paths along the edges
path_there : (g : SchemaValue) → IsSchema g → (label : ℕ) (back : Bool) (t : Table) (i k j : ℕ) → k < length g.kinds → j < length g.kinds → (x y : Option Op) → entry t i k ≡ x → entry (matrix_of g label back) k j ≡ y
    → EntryAtMost (composed x y (kind_at g.kinds i) (kind_at g.kinds j)) (paths_below g back (labelled g.edges label) t (length (labelled g.edges label)) i j)
path_there g is label back t i k j r q None y here there = tt
path_there g is label back t i k j r q (Some v) None here there = tt
path_there g is label back t i k j r q (Some v) (Some o) here there =
    let edges = labelled g.edges label in
    let e : SchemaEdge = record { source = k; label = label; target = j; op = o } in
    let (d, known, used) = symbol_of g back e (((HasOperators-matrix_of g label back is).entries k j r q o).0 there) in
    let (m, lt, at_m) = at_from_Contains edges d (labelled_there g.edges label d back known (ap (λ x. x.label) used)) in
    let path : ℕ → Option Op = λ n. edge_entry g (nth_symbol back edges n) t i j in
    let nth : path m ≡ use_entry g.kinds e t i j = ap (λ n. edge_entry g (record { edge = n; back = back }) t i j) (at_m 0) ∙ ap (λ x. use_entry g.kinds x t i j) used in
    let whole : use_entry g.kinds e t i j ≡ composed (Some v) (Some o) (kind_at g.kinds i) (kind_at g.kinds j) =
    ap (λ b. entry_if b (composed (entry t i k) (Some o) (kind_at g.kinds i) (kind_at g.kinds j))) (eq-eqb j j refl) ∙ ap (λ x. composed x (Some o) (kind_at g.kinds i) (kind_at g.kinds j)) here in
    subst (λ x. EntryAtMost x (join_below (length edges) path)) (nth ∙ whole) (EntryAtMost-join_below (length edges) path m lt)

-- what the paths along all edges of a label lead to is the product
pub product_is : (g : SchemaValue) → IsSchema g → (label : ℕ) (back : Bool) (t : Table) → t.kinds ≡ g.kinds → (i j : ℕ) → i < length g.kinds → j < length g.kinds
    → paths_below g back (labelled g.edges label) t (length (labelled g.edges label)) i j ≡ entry (times_of t (matrix_of g label back)) i j
product_is g is label back t kinds i j p q =
    let edges = labelled g.edges label in
    let m = matrix_of g label back in
    let below = join_below-most (length edges) (λ d. edge_entry g (nth_symbol back edges d) t i j) (entry (times_of t m) i j) (λ d lt.
    let s = nth_symbol back edges d in
    use_least g is label s (labelled-edge g.edges label d 0 lt) (labelled-label g.edges label d 0 back lt) t kinds i j p (end_of g.edges s == j) refl (entry t i (start_of g.edges s)) refl) in
    let above : EntryAtMost (entry (times_of t m) i j) (paths_below g back edges t (length edges) i j) =
    subst (λ x. EntryAtMost x (paths_below g back edges t (length edges) i j)) (sym (entry-table_of t.kinds (product_at t m) i j (rw kinds p) (rw kinds q)))
    (join_below-most (length t.kinds) (through t m i j) (paths_below g back edges t (length edges) i j) (λ k r.
    let within : k < length g.kinds = rw kinds at r in
    subst (λ ks. EntryAtMost (composed (entry t i k) (entry m k j) (kind_at ks i) (kind_at ks j)) (paths_below g back edges t (length edges) i j)) (sym kinds)
    (path_there g is label back t i k j within q (entry t i k) (entry m k j) refl refl))) in
    EntryAtMost-antisym (paths_below g back edges t (length edges) i j) (entry (times_of t m) i j) below above

pub Follows-all : (g : SchemaValue) → IsSchema g → (s : Symbol) (edges : List ℕ) (a new : List Column) → edges ≡ labelled g.edges (label_of g.edges s) → Follows g s.back edges a new (length edges) → JoinsSymbol g s a new
Follows-all g is s edges a new are follows t kinds first =
    let label = label_of g.edges s in
    let all : AreColumns (length g.kinds) new (paths_below g s.back (labelled g.edges label) t (length (labelled g.edges label))) =
    subst (λ es. AreColumns (length g.kinds) new (paths_below g s.back es t (length es))) are (follows t kinds first) in
    AreColumns-same (length g.kinds) new (paths_below g s.back (labelled g.edges label) t (length (labelled g.edges label))) (entry (times_of t (symbol_matrix g s)))
    (λ i j p q. product_is g is label s.back t kinds i j p q) all

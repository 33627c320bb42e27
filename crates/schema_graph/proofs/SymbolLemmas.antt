-- The symbols of the first edges, and those that start at a type.
use Rattle.std.proofs.Common.{◌≡◌, ℕ, zero, suc, ◌+◌, ◌*◌, ◌<◌, ◌≤◌, ◌==◌, if◌then◌else◌, Bool, true, false, List, [], ◌∷◌, ◌++◌, length, map, filter, slice_index_or, refl, sym, ap, ◌∙◌, append_assoc, add-one, length-append, arith}
use Rattle.std.specs.List.{range_with_len, flat_map, All}
use Rattle.std.proofs.lemmas.Bool.{eqb-true}
use Rattle.std.proofs.lemmas.Grind.{flat_map-append}
use Rattle.std.proofs.lemmas.List.Folds.{flat_map-map}
use Rattle.std.proofs.lemmas.List.FromFn.{map-range_with_len_more, length-map-range_with_len, get_or-map-range_with_len}
use Rattle.std.proofs.lemmas.List.Elements.{filter-append, filter_passes, All-nil, All-cons, All-append, All-weaker, All-same, All-filter}
use Rattle.std.proofs.lemmas.List.Sums.{length-filter, count_by-le-length}
use Rattle.sel_algebra.specs.declared.vocabulary.Symbol.{Symbol}
use Rattle.schema_graph.specs.declared.edge.SchemaEdge.{SchemaEdge}
use Rattle.schema_graph.specs.Edge.{edge_at, start_of}
use Rattle.schema_graph.specs.Symbols.{both_ways, first_symbols, starts_at, symbols_of}
use Rattle.schema_graph.specs.Schema.{SchemaValue, HasSymbols}

-- the symbols of one more edge
first_symbols-more : (n : ℕ) → first_symbols (n + 1) ≡ first_symbols n ++ both_ways n
first_symbols-more n =
    sym (flat_map-map both_ways (λ x. x) (range_with_len 0 (n + 1)))
    ∙ (ap (flat_map both_ways) (map-range_with_len_more (λ x. x) 0 n n (omega arith))
    ∙ (flat_map-append both_ways (map (λ x. x) (range_with_len 0 n)) (n ∷ [])
    ∙ ap (λ xs. xs ++ both_ways n) (flat_map-map both_ways (λ x. x) (range_with_len 0 n))))

pub first_symbols-suc : (n : ℕ) → first_symbols (suc n) ≡ first_symbols n ++ both_ways n
first_symbols-suc n = ap first_symbols (sym (add-one n)) ∙ first_symbols-more n

filter_two : {X : Type 0} (p : X → Bool) (x y : X) (a b : Bool) → p x ≡ a → p y ≡ b
    → filter p (x ∷ y ∷ []) ≡ (if a then x ∷ [] else []) ++ (if b then y ∷ [] else [])
filter_two p x y true true e f = rw (e, f) refl
filter_two p x y true false e f = rw (e, f) refl
filter_two p x y false true e f = rw (e, f) refl
filter_two p x y false false e f = rw (e, f) refl

-- the symbols of one more edge that start at a type: maybe along it, and maybe against it
pub filter-first_symbols-more : (edges : List SchemaEdge) (t n : ℕ)
    → filter (starts_at edges t) (first_symbols (n + 1))
    ≡ (filter (starts_at edges t) (first_symbols n) ++ (if (edge_at edges n).source == t then record { edge = n; back = false } ∷ [] else []))
    ++ (if (edge_at edges n).target == t then record { edge = n; back = true } ∷ [] else [])
filter-first_symbols-more edges t n =
    ap (filter (starts_at edges t)) (first_symbols-more n)
    ∙ (filter-append (starts_at edges t) (first_symbols n) (both_ways n)
    ∙ (ap (λ xs. filter (starts_at edges t) (first_symbols n) ++ xs) (filter_two (starts_at edges t) (record { edge = n; back = false }) (record { edge = n; back = true }) _ _ refl refl)
    ∙ sym (append_assoc (filter (starts_at edges t) (first_symbols n)) _ _)))

length-first_symbols : (n : ℕ) → length (first_symbols n) ≡ 2 * n
length-first_symbols zero = refl
length-first_symbols (suc n) =
    let more : 2 * n + 2 ≡ 2 * suc n = omega arith in
    ap length (first_symbols-suc n) ∙ (length-append (first_symbols n) (both_ways n) ∙ (ap (λ k. k + 2) (length-first_symbols n) ∙ more))

-- no more symbols start at a type than there are
pub length-symbols_of : (edges : List SchemaEdge) (t : ℕ) → length (symbols_of edges t) ≤ 2 * length edges
length-symbols_of edges t =
    rw (length-filter (starts_at edges t) (first_symbols (length edges)), ← length-first_symbols (length edges)) (count_by-le-length (starts_at edges t) (first_symbols (length edges)))

All-two : {X : Type 0} (P : X → Type 0) (x y : X) → P x → P y → All P (x ∷ y ∷ [])
All-two P x y p q = All-cons P x (y ∷ []) p (All-cons P y [] q (All-nil P))

-- the symbols are those of edges
pub first_symbols-below : (n : ℕ) → All (λ s. s.edge < n) (first_symbols n)
first_symbols-below zero = All-nil _
first_symbols-below (suc n) =
    let below : n < suc n = omega arith in
    All-same (λ s. s.edge < suc n) (first_symbols (suc n)) (first_symbols n ++ both_ways n) (first_symbols-suc n)
    (All-append (λ s. s.edge < suc n) (first_symbols n) (both_ways n)
    (All-weaker (λ s. s.edge < n) (λ s. s.edge < suc n) (λ s lt. omega arith) (first_symbols n) (first_symbols-below n))
    (All-two (λ s. s.edge < suc n) (record { edge = n; back = false }) (record { edge = n; back = true }) below below))

-- each symbol that starts at a type is of an edge
pub symbols_of-edge : (edges : List SchemaEdge) (t n : ℕ) (d : Symbol) → n < length (symbols_of edges t) → (slice_index_or (symbols_of edges t) n d).edge < length edges
symbols_of-edge edges t n d lt =
    All-filter (starts_at edges t) (λ s. s.edge < length edges) (first_symbols (length edges)) (first_symbols-below (length edges)) n d lt

-- and starts there
pub symbols_of-start : (edges : List SchemaEdge) (t n : ℕ) (d : Symbol) → n < length (symbols_of edges t) → start_of edges (slice_index_or (symbols_of edges t) n d) ≡ t
symbols_of-start edges t n d lt = eqb-true _ t (filter_passes (starts_at edges t) (first_symbols (length edges)) n d lt)

-- the list that is kept for a type
pub HasSymbols-at : (s : SchemaValue) (lists : List (List Symbol)) → HasSymbols s lists → (t : ℕ) → t < length s.kinds
    → (t < length lists) × ((d : List Symbol) → slice_index_or lists t d ≡ symbols_of s.edges t)
HasSymbols-at s lists has t lt =
    rw has.symbols (rw (length-map-range_with_len (symbols_of s.edges) 0 (length s.kinds)) lt, λ d. get_or-map-range_with_len (symbols_of s.edges) 0 (length s.kinds) t t d lt (omega arith))

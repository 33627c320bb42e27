-- The operators of the edges with one label, as a matrix.
use Rattle.std.proofs.Common.{◌≡◌, ◌≢◌, ℕ, ◌+◌, ◌*◌, ◌/◌, ◌%◌, ◌<◌, ◌≤◌, Bool, true, false, Option, Some, None, option_map, List, [], ◌∷◌, ◌++◌, length, map, take, slice_index_or, inl, inr, refl, sym, ap, subst, ◌∙◌, arith}
use Rattle.std.specs.List.{find, Contains}
use Rattle.std.specs.Option.{option_or}
use Rattle.std.proofs.lemmas.Bool.{eqb-true, and_parts, cases_Bool}
use Rattle.std.proofs.lemmas.Bool.Decides.{nat_tests}
use Rattle.std.proofs.lemmas.List.{ext_get_or, map_more, take_all}
use Rattle.std.proofs.lemmas.List.Elements.{Contains-append_right, Contains-push}
use Rattle.std.proofs.lemmas.List.Folds.{find-append}
use Rattle.std.proofs.lemmas.List.FromFn.{length-map-range_with_len, get_or-map-range_with_len}
use Rattle.std.proofs.lemmas.Map.Made.{Contains-tail}
use Rattle.sel_algebra.specs.declared.vocabulary.Op.{Op}
use Rattle.sel_algebra.specs.declared.vocabulary.Kind.{Kind}
use Rattle.sel_algebra.specs.Table.{types_most, Table, first_cells, table_of, zero_of, entry, EachPair, IsMatrix}
use Rattle.sel_algebra.proofs.TableLemmas.{entry-table_of, entry-laid_out, row-lt, column-lt, IsMatrix-zero_of}
use Rattle.schema_graph.specs.declared.edge.SchemaEdge.{SchemaEdge}
use Rattle.schema_graph.specs.Edge.{taken, ends}
use Rattle.schema_graph.specs.Schema.{SchemaValue, IsSchema}
use Rattle.schema_graph.specs.Labelled.{goes, operator_of, all_taken, matrix_of, HasOperators, EntersEdge}
use Rattle.schema_graph.proofs.EdgeLemmas.{EdgesDiffer, EdgesDiffer-taken, EdgesDiffer-take, same_edge}

-- what is found is in the list and passes the test
find_Some : {X : Type 0} (p : X → Bool) (xs : List X) (y : X) → find p xs ≡ Some y → Contains xs y × (p y ≡ true)
find_Some p [] y is = absurd (cc)
find_Some p (x ∷ xs) y is = elim (cases_Bool (p x)) [
  | inl hit ↦ let same : x ≡ y = (let found = rw hit at is in cc) in ((0, omega arith, same), rw (← same) hit)
  | inr miss ↦ let (in_xs, pass) = find_Some p xs y (rw miss at is) in (Contains-append_right (x ∷ []) xs y in_xs, pass)
]

-- where an element passes the test, something is found
found : {X : Type 0} (p : X → Bool) (xs : List X) (x : X) → Contains xs x → p x ≡ true → find p xs ≢ None
found p [] x in_xs pass none = absurd (omega arith)
found p (y ∷ ys) x in_xs pass none = elim (cases_Bool (p y)) [
  | inl hit ↦ let some = rw hit at none in absurd (cc)
  | inr miss ↦ found p ys x (Contains-tail y ys x (λ same. let e : p y ≡ p x = ap p same in cc) in_xs) pass (rw miss at none)
]

option_or-none : {X : Type 0} (a : Option X) → option_or a None ≡ a
option_or-none None = refl
option_or-none (Some x) = refl

goes_ends : (i label j : ℕ) (e : SchemaEdge) → goes i label j e ≡ true → ends e ≡ (i, (label, j))
goes_ends i label j e h =
    let (source, rest) = and_parts _ _ h in
    let (same, target) = and_parts _ _ rest in
    let s = eqb-true e.source i source in
    let l = eqb-true e.label label same in
    let t = eqb-true e.target j target in
    cc

ends_goes : (i label j : ℕ) (e : SchemaEdge) → ends e ≡ (i, (label, j)) → goes i label j e ≡ true
ends_goes i label j e same =
    let s : e.source ≡ i = ap (λ p. p.0) same in
    let l : e.label ≡ label = ap (λ p. p.1.0) same in
    let t : e.target ≡ j = ap (λ p. p.1.1) same in
    grind (arith, nat_tests)

-- among edges with different ends, the operator of each stands at its ends
operator_of-Contains : (edges : List SchemaEdge) → EdgesDiffer edges → (i label j : ℕ) (e : SchemaEdge) → Contains edges e → ends e ≡ (i, (label, j)) → operator_of edges label i j ≡ Some e.op
operator_of-Contains edges differ i label j e in_edges is = at _ refl
  where
    at : (r : Option SchemaEdge) → find (goes i label j) edges ≡ r → option_map (λ d. d.op) r ≡ Some e.op
    at None none = absurd (found (goes i label j) edges e in_edges (ends_goes i label j e is) none)
    at (Some d) some =
        let (in_d, pass) = find_Some (goes i label j) edges d some in
        ap (λ x. Some x.op) (same_edge edges differ d e in_d in_edges (goes_ends i label j d pass ∙ sym is))

-- an operator is that of an edge
Contains-operator_of : (edges : List SchemaEdge) (i label j : ℕ) (op : Op) → operator_of edges label i j ≡ Some op
    → Contains edges (record { source = i; label = label; target = j; op = op })
Contains-operator_of edges i label j op = at _ refl
  where
    at : (r : Option SchemaEdge) → find (goes i label j) edges ≡ r → option_map (λ d. d.op) r ≡ Some op → Contains edges (record { source = i; label = label; target = j; op = op })
    at None none is = absurd (cc)
    at (Some e) some is =
        let (in_e, pass) = find_Some (goes i label j) edges e some in
        let same = goes_ends i label j e pass in
        let same_op : e.op ≡ op = cc in
        subst (Contains edges) (λ k. record { source = (ap (λ p. p.0) same) k; label = (ap (λ p. p.1.0) same) k; target = (ap (λ p. p.1.1) same) k; op = same_op k }) in_e

-- an edge that doesn't go there changes nothing
operator_of-append : (edges : List SchemaEdge) (i label j : ℕ) (e : SchemaEdge) → goes i label j e ≡ false → operator_of (edges ++ e ∷ []) label i j ≡ operator_of edges label i j
operator_of-append edges i label j e miss =
    ap (option_map (λ d. d.op)) (find-append (goes i label j) edges (e ∷ []) ∙ rw miss (option_or-none (find (goes i label j) edges)))

-- the matrix of a label has its operators
pub HasOperators-matrix_of : (s : SchemaValue) (label : ℕ) (back : Bool) → IsSchema s → HasOperators s label back (matrix_of s label back)
HasOperators-matrix_of s label back is =
    let edges = all_taken s back in
    record {
      kinds = refl;
      entries = λ i j p q op.
          let at = entry-table_of s.kinds (operator_of edges label) i j p q in (
            λ e. Contains-operator_of edges i label j op (sym at ∙ e),
            λ in_edges. at ∙ operator_of-Contains edges (EdgesDiffer-taken back s.edges is.edges_differ) i label j (record { source = i; label = label; target = j; op = op }) in_edges refl,
          );
    }

-- a matrix over these types with the operators of these edges
pub record HasEdges (types : List Kind) (edges : List SchemaEdge) (label : ℕ) (m : Table) : Type 0 where
  pub matrix : IsMatrix m
  pub kinds : m.kinds ≡ types
  pub entries : EachPair m.kinds (λ i j. entry m i j ≡ operator_of edges label i j)

pub HasEdges-none : (types : List Kind) (label : ℕ) → length types ≤ types_most → HasEdges types [] label (zero_of types)
HasEdges-none types label few = record {
  matrix = IsMatrix-zero_of types few;
  kinds = refl;
  entries = λ i j p q. entry-table_of types (λ i j. None) i j p q;
}

-- with an edge more
HasEdges-append : (types : List Kind) (edges : List SchemaEdge) (label : ℕ) (old new : Table) (e : SchemaEdge) → EdgesDiffer (edges ++ e ∷ [])
    → HasEdges types edges label old → EntersEdge old new label e → IsMatrix new → HasEdges types (edges ++ e ∷ []) label new
HasEdges-append types edges label old new e differ has enters matrix = record {
  matrix = matrix;
  kinds = enters.kinds ∙ has.kinds;
  entries = λ i j p q.
      let p' = rw enters.kinds at p in
      let q' = rw enters.kinds at q in
      let here = enters.entries i j p' q' in
      elim (cases_Bool (goes i label j e)) [
        | inl hit ↦ rw hit at here ∙ sym (operator_of-Contains (edges ++ e ∷ []) differ i label j e (Contains-push edges e) (goes_ends i label j e hit))
        | inr miss ↦ rw miss at here ∙ (has.entries i j p' q' ∙ sym (operator_of-append edges i label j e miss))
      ];
}

pub HasEdges-more : (types : List Kind) (edges : List SchemaEdge) (back : Bool) (label n : ℕ) (old new : Table) (d : SchemaEdge) → EdgesDiffer edges → n < length edges
    → HasEdges types (map (taken back) (take n edges)) label old → EntersEdge old new label (taken back (slice_index_or edges n d)) → IsMatrix new
    → HasEdges types (map (taken back) (take (n + 1) edges)) label new
HasEdges-more types edges back label n old new d differ lt has enters matrix =
    let more = map_more (taken back) edges n d lt in
    let apart = rw more at (EdgesDiffer-taken back (take (n + 1) edges) (EdgesDiffer-take (n + 1) edges differ)) in
    rw more (HasEdges-append types (map (taken back) (take n edges)) label old new (taken back (slice_index_or edges n d)) apart has enters matrix)

-- a matrix with these entries is the table of them
same_table : (f : ℕ → ℕ → Option Op) (m : Table) → IsMatrix m → EachPair m.kinds (λ i j. entry m i j ≡ f i j) → m ≡ table_of m.kinds f
same_table f m matrix entries =
    let n = length m.kinds in
    let cells : m.cells ≡ first_cells m.kinds f (n * n) =
    ext_get_or None m.cells (first_cells m.kinds f (n * n)) (matrix.whole ∙ sym (length-map-range_with_len _ 0 (n * n))) (λ p within.
    let lt : p < n * n = rw matrix.whole at within in
    sym (entry-laid_out m.kinds m.cells p)
    ∙ (entries (p / n) (p % n) (row-lt p n lt) (column-lt p n lt)
    ∙ sym (get_or-map-range_with_len (λ r. f (r / n) (r % n)) 0 (n * n) p p None lt (omega arith)))) in
    λ k. record { kinds = m.kinds; cells = cells k }

-- with all edges it is the matrix of the label
pub matrix_of-HasEdges : (s : SchemaValue) (label : ℕ) (back : Bool) (m : Table) (n : ℕ) → length s.edges ≤ n
    → HasEdges s.kinds (map (taken back) (take n s.edges)) label m → m ≡ matrix_of s label back
matrix_of-HasEdges s label back m n all has =
    same_table (operator_of (all_taken s back) label) m has.matrix (rw take_all at has.entries) ∙ ap (λ kinds. table_of kinds (operator_of (all_taken s back) label)) has.kinds

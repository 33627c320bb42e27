-- The entries of tables, and which tables are matrices.
use Rattle.std.proofs.Common.{◌≡◌, zero, suc, replicate, slice_index_or, ◌+◌, ◌*◌, ◌/◌, ◌%◌, ◌<◌, ◌≤◌, ◌==◌, ℕ, if◌then◌else◌, Bool, true, false, Option, Some, None, List, [], ◌∷◌, ◌++◌, length, map, refl, ap, sym, ◌∙◌, slice_set, take, add-zero, add-one, append-nil, append_assoc, inl, inr, arith}
use Rattle.std.proofs.lemmas.Bool.{eqb-true}
use Rattle.std.proofs.lemmas.Bool.Decides.{eqb_tells}
use Rattle.std.proofs.lemmas.List.{get_or-set_same, get_or-set_other}
use Rattle.std.proofs.lemmas.List.FromFn.{length-range_with_len}
use Rattle.std.proofs.lemmas.Simd.{splat_is_map}
use Rattle.std.proofs.Math.Seq.{take-append_seam}
use Rattle.std.specs.List.{range_with_len}
use Rattle.std.proofs.lemmas.List.FromFn.{length-map-range_with_len, map-range_with_len_more, get_or-map-range_with_len}
use Rattle.std.proofs.lemmas.Nat.{div-mul-add, mod-mul-add, mul-add-lt, div-add-mod'}
use Rattle.sel_algebra.specs.declared.vocabulary.Op.{Op}
use Rattle.sel_algebra.specs.declared.vocabulary.Op.TheVariants.{Equal}
use Rattle.sel_algebra.specs.declared.vocabulary.Kind.{Kind}
use Rattle.sel_algebra.specs.Entries.{joined, IsNormalEntry}
use Rattle.sel_algebra.specs.Operators.{normal_of}
use Rattle.sel_algebra.specs.Table.{types_most, Table, kind_at, entry, EachPair, first_cells, row_of, table_of, IsMatrix, one_at, zero_of, one_of, laid_out, SetsEntry, through, product_at, times_of, sum_at, plus_of}
use Rattle.sel_algebra.proofs.EntryLemmas.{IsNormal-normal_of, IsNormalEntry-joined, IsNormalEntry-composed, IsNormalEntry-join_below}

-- a place among n * n is in one of n rows and one of n columns
pub row-lt : (p n : ℕ) → p < n * n → p / n < n
row-lt p n lt = grind arith

pub column-lt : (p n : ℕ) → p < n * n → p % n < n
column-lt p n lt = grind arith

-- each entry is the one that it was made from
pub entry-table_of : (kinds : List Kind) (f : ℕ → ℕ → Option Op) (i j : ℕ) → i < length kinds → j < length kinds → entry (table_of kinds f) i j ≡ f i j
entry-table_of kinds f i j p q =
    let n = length kinds in
    get_or-map-range_with_len (λ r. f (r / n) (r % n)) 0 (n * n) (i * n + j) (i * n + j) None (mul-add-lt i n j n p q) (omega arith)
    ∙ (ap (λ r. f r ((i * n + j) % n)) (div-mul-add i n j q) ∙ ap (λ r. f i r) (mod-mul-add i n j q))

-- and there is one for each two types
pub whole-table_of : (kinds : List Kind) (f : ℕ → ℕ → Option Op) → length (table_of kinds f).cells ≡ length kinds * length kinds
whole-table_of kinds f = length-map-range_with_len _ 0 (length kinds * length kinds)

-- each entry of a join joins the entries of its parts
pub entry-plus_of : (a b : Table) (i j : ℕ) → i < length a.kinds → j < length a.kinds → entry (plus_of a b) i j ≡ joined (entry a i j) (entry b i j)
entry-plus_of a b i j p q = entry-table_of a.kinds (sum_at a b) i j p q

-- a table of normal entries is a matrix
IsMatrix-table_of : (kinds : List Kind) (f : ℕ → ℕ → Option Op) → length kinds ≤ types_most
    → EachPair kinds (λ i j. IsNormalEntry (f i j) (kind_at kinds i) (kind_at kinds j)) → IsMatrix (table_of kinds f)
IsMatrix-table_of kinds f few normal = record {
  few = few;
  whole = whole-table_of kinds f;
  normal = λ i j p q. rw (entry-table_of kinds f i j p q) (normal i j p q);
}

normal_equal : (kind : Kind) → normal_of Equal kind kind ≡ Equal
normal_equal kind = grind arith

normal_one : (i j : ℕ) (kinds : List Kind) (b : Bool) → i == j ≡ b → IsNormalEntry (if b then Some Equal else None) (kind_at kinds i) (kind_at kinds j)
normal_one i j kinds false e = tt
normal_one i j kinds true e = rw (eqb-true i j e) (normal_equal (kind_at kinds j))

pub IsMatrix-one_of : (kinds : List Kind) → length kinds ≤ types_most → IsMatrix (one_of kinds)
IsMatrix-one_of kinds few = IsMatrix-table_of kinds one_at few (λ i j p q. normal_one i j kinds (i == j) refl)

pub IsMatrix-times_of : (a b : Table) → IsMatrix a → IsMatrix (times_of a b)
IsMatrix-times_of a b m =
    IsMatrix-table_of a.kinds (product_at a b) m.few (λ i j p q. IsNormalEntry-join_below (length a.kinds) (through a b i j) _ _ (λ k. IsNormalEntry-composed (entry a i k) (entry b k j) _ _))

pub IsMatrix-plus_of : (a b : Table) → b.kinds ≡ a.kinds → IsMatrix a → IsMatrix b → IsMatrix (plus_of a b)
IsMatrix-plus_of a b e m n =
    IsMatrix-table_of a.kinds (sum_at a b) m.few (λ i j p q. IsNormalEntry-joined (entry a i j) (entry b i j) _ _ (m.normal i j p q) (rw (← e) (n.normal i j (rw e p) (rw e q))))

-- one more entry
pub first_cells-more : (kinds : List Kind) (f : ℕ → ℕ → Option Op) (m : ℕ) → first_cells kinds f (m + 1) ≡ first_cells kinds f m ++ f (m / length kinds) (m % length kinds) ∷ []
first_cells-more kinds f m = map-range_with_len_more (λ p. f (p / length kinds) (p % length kinds)) 0 m m (omega arith)

-- the entries of the table with nothing
pub zero_of-cells : (kinds : List Kind) → (zero_of kinds).cells ≡ replicate (length kinds * length kinds) None
zero_of-cells kinds =
    let n = length kinds * length kinds in
    sym (splat_is_map (range_with_len 0 n) n None (length-range_with_len 0 n))

-- the entry at a place, row by row
pub entry-laid_out : (kinds : List Kind) (cells : List (Option Op)) (p : ℕ) → entry (laid_out kinds cells) (p / length kinds) (p % length kinds) ≡ slice_index_or cells p None
entry-laid_out kinds cells p = rw div-add-mod'

-- the two types of a place are determined by it
same_place : (n i j k l : ℕ) → j < n → l < n → k * n + l ≡ i * n + j → (k ≡ i) × (l ≡ j)
same_place n i j k l p q e =
    (sym (div-mul-add k n l q) ∙ (ap (λ r. r / n) e ∙ div-mul-add i n j p), sym (mod-mul-add k n l q) ∙ (ap (λ r. r % n) e ∙ mod-mul-add i n j p))

-- writing an entry sets it
pub SetsEntry-slice_set : (kinds : List Kind) (cells : List (Option Op)) (i j : ℕ) (op : Op) → length cells ≡ length kinds * length kinds → i < length kinds → j < length kinds
    → SetsEntry (laid_out kinds cells) (laid_out kinds (slice_set cells (i * length kinds + j) (Some (normal_of op (kind_at kinds i) (kind_at kinds j))))) i j op
SetsEntry-slice_set kinds cells i j op whole p q =
    let n = length kinds in
    record {
      kinds = refl;
      changed = get_or-set_same cells (i * n + j) _ None (rw whole (mul-add-lt i n j n p q));
      others = λ k l r s differ. get_or-set_other cells (i * n + j) (k * n + l) _ None (λ e. let same = same_place n i j k l q s e in differ same.0 same.1);
    }

-- a matrix with an entry set is a matrix
pub IsMatrix-SetsEntry : (kinds : List Kind) (old new : List (Option Op)) (i j : ℕ) (op : Op) → IsMatrix (laid_out kinds old) → length new ≡ length old
    → SetsEntry (laid_out kinds old) (laid_out kinds new) i j op → IsMatrix (laid_out kinds new)
IsMatrix-SetsEntry kinds old new i j op m e sets = record {
  few = m.few;
  whole = e ∙ m.whole;
  normal = λ k l p q. elim (eqb_tells k i) [
    | inl row ↦ elim (eqb_tells l j) [
      | inl both ↦ rw (row.1, both.1, sets.changed) (IsNormal-normal_of op _ _)
      | inr differ ↦ rw (sets.others k l p q (λ _ f. differ.1 f)) (m.normal k l p q)
    ]
    | inr differ ↦ rw (sets.others k l p q (λ f _. differ.1 f)) (m.normal k l p q)
  ];
}

pub IsMatrix-zero_of : (kinds : List Kind) → length kinds ≤ types_most → IsMatrix (zero_of kinds)
IsMatrix-zero_of kinds few = IsMatrix-table_of kinds (λ i j. None) few (λ i j p q. tt)

-- a part of a row more
first_cells-add : (kinds : List Kind) (f : ℕ → ℕ → Option Op) (i m : ℕ) → m ≤ length kinds
    → first_cells kinds f (i * length kinds + m) ≡ first_cells kinds f (i * length kinds) ++ map (f i) (range_with_len 0 m)
first_cells-add kinds f i zero le = rw (add-zero, append-nil) refl
first_cells-add kinds f i (suc m) le =
    let n = length kinds in
    let here : f ((i * n + m) / n) ((i * n + m) % n) ≡ f i m = ap (λ r. f r ((i * n + m) % n)) (div-mul-add i n m (omega arith)) ∙ ap (f i) (mod-mul-add i n m (omega arith)) in
    let more : map (f i) (range_with_len 0 (suc m)) ≡ map (f i) (range_with_len 0 m) ++ f i m ∷ [] =
    ap (λ k. map (f i) (range_with_len 0 k)) (sym (add-one m)) ∙ map-range_with_len_more (f i) 0 m m (omega arith) in
    let place : i * n + suc m ≡ i * n + m + 1 = omega arith in
    let next : first_cells kinds f (i * n + suc m) ≡ first_cells kinds f (i * n + m) ++ f ((i * n + m) / n) ((i * n + m) % n) ∷ [] =
    ap (first_cells kinds f) place ∙ first_cells-more kinds f (i * n + m) in
    next ∙ (ap (λ x. first_cells kinds f (i * n + m) ++ x ∷ []) here
    ∙ (ap (λ xs. xs ++ f i m ∷ []) (first_cells-add kinds f i m (omega arith))
    ∙ (append_assoc (first_cells kinds f (i * n)) (map (f i) (range_with_len 0 m)) (f i m ∷ []) ∙ ap (λ xs. first_cells kinds f (i * n) ++ xs) (sym more))))

-- the entries with a row more
pub first_cells-append : (kinds : List Kind) (f : ℕ → ℕ → Option Op) (i : ℕ) (cells row rest : List (Option Op)) (len : ℕ)
    → cells ≡ first_cells kinds f (i * length kinds) → row ≡ row_of kinds f i → len ≡ length row
    → cells ++ take len (row ++ rest) ≡ first_cells kinds f ((i + 1) * length kinds)
first_cells-append kinds f i cells row rest len e g h =
    let next : (i + 1) * length kinds ≡ i * length kinds + length kinds = omega arith in
    rw (h, take-append_seam, e, g, next) (sym (first_cells-add kinds f i (length kinds) (omega arith)))

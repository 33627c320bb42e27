-- The lines of a query are written piece by piece.
use Rattle.std.proofs.Common.{◌≡◌, ℕ, zero, suc, ◌+◌, ◌≤◌, Bool, true, false, ◌==◌, Option, Some, None, List, [], ◌∷◌, ◌++◌, codes, decimal, if◌then◌else◌, refl, sym, ap, ◌∙◌, arith}
use Rattle.std.specs.Prelude.{position}
use Rattle.std.specs.List.{flat_map, position_from}
use Rattle.std.proofs.lemmas.List.{append_assoc, flat_map_more}
use Rattle.std.proofs.lemmas.List.FromFn.{map-range_with_len_more}
use Rattle.std.proofs.lemmas.Iterator.Adapters.{position_from-zero}
use Rattle.std.proofs.lemmas.Option.{same_Some}
use Rattle.gm_text.specs.Lines.{is_byte}
use Rattle.sparql_emit.specs.QueryText.{head_name, variable_from, variable_of, head_names, with_mark, heads_line}

-- one head more
pub heads_more : (out now marked done : List ℕ) (j : ℕ) → now ≡ out ++ flat_map with_mark (head_names j) → marked ≡ now ++ codes " ?" → done ≡ marked ++ head_name j
    → done ≡ out ++ flat_map with_mark (head_names (j + 1))
heads_more out now marked done j so_far mark name =
    name
    ∙ (ap (λ (bs : List ℕ). bs ++ head_name j) mark
    ∙ (append_assoc now (codes " ?") (head_name j)
    ∙ (ap (λ (bs : List ℕ). bs ++ with_mark (head_name j)) so_far
    ∙ (flat_map_more with_mark out (head_names j) (head_name j)
    ∙ ap (λ xs. out ++ flat_map with_mark xs) (sym (map-range_with_len_more head_name 0 j j (omega arith)))))))

-- the line with as many heads as there are, at least one
pub heads_done : (out selected now done : List ℕ) (n place : ℕ) → (n ≡ 0 → ⊥) → n ≤ place → place ≤ n → selected ≡ out ++ codes "SELECT DISTINCT"
    → now ≡ selected ++ flat_map with_mark (head_names place) → done ≡ now ++ codes " WHERE {\n" → done ≡ out ++ heads_line n
heads_done out selected now done zero place some low high select heads end = absurd (some refl)
heads_done out selected now done (suc n) place some low high select heads end =
    let names = flat_map with_mark (head_names (suc n)) in
    let same : place ≡ suc n = omega (arith, low, high) in
    let all : now ≡ selected ++ names = heads ∙ ap (λ m. selected ++ flat_map with_mark (head_names m)) same in
    end
    ∙ (ap (λ (bs : List ℕ). bs ++ codes " WHERE {\n") (all ∙ ap (λ (bs : List ℕ). bs ++ names) select)
    ∙ (ap (λ (bs : List ℕ). bs ++ codes " WHERE {\n") (append_assoc out (codes "SELECT DISTINCT") names)
    ∙ append_assoc out (codes "SELECT DISTINCT" ++ names) (codes " WHERE {\n")))

some_apart : {X : Type 0} (x : X) → ◌≡◌ {A = Option X} None (Some x) → ⊥
some_apart x same = cc

-- a variable at a place of the heads, which are numbered from j on, has the name of the place
place_from : (j : ℕ) (heads : List ℕ) (v place : ℕ) → position_from (λ h. h == v) j heads ≡ Some place → variable_from j heads v ≡ head_name place
place_from j [] v place at = absurd (some_apart place at)
place_from j (h ∷ heads) v place at = go (h == v) (place_from (j + 1) heads v place) at
  where
    go : (b : Bool) → (position_from (λ h. h == v) (j + 1) heads ≡ Some place → variable_from (j + 1) heads v ≡ head_name place)
        → (if b then Some j else position_from (λ h. h == v) (j + 1) heads) ≡ Some place → (if b then head_name j else variable_from (j + 1) heads v) ≡ head_name place
    go true later at = ap head_name (same_Some j place at)
    go false later at = later at

no_place_from : (j : ℕ) (heads : List ℕ) (v : ℕ) → position_from (λ h. h == v) j heads ≡ None → variable_from j heads v ≡ codes "x" ++ decimal v
no_place_from j [] v at = refl
no_place_from j (h ∷ heads) v at = go (h == v) (no_place_from (j + 1) heads v) at
  where
    go : (b : Bool) → (position_from (λ h. h == v) (j + 1) heads ≡ None → variable_from (j + 1) heads v ≡ codes "x" ++ decimal v)
        → (if b then Some j else position_from (λ h. h == v) (j + 1) heads) ≡ None → (if b then head_name j else variable_from (j + 1) heads v) ≡ codes "x" ++ decimal v
    go true later at = absurd (some_apart j (sym at))
    go false later at = later at

pub variable_there : (heads : List ℕ) (v place : ℕ) → position (is_byte v) heads ≡ Some place → variable_of heads v ≡ head_name place
variable_there heads v place at = place_from 0 heads v place (sym (position_from-zero (is_byte v) heads) ∙ at)

pub variable_elsewhere : (heads : List ℕ) (v : ℕ) → position (is_byte v) heads ≡ None → variable_of heads v ≡ codes "x" ++ decimal v
variable_elsewhere heads v at = no_place_from 0 heads v (sym (position_from-zero (is_byte v) heads) ∙ at)

-- a mark and a name are written
pub marked_name : (out marked done name variable : List ℕ) → marked ≡ out ++ codes " ?" → done ≡ marked ++ name → variable ≡ name → done ≡ out ++ with_mark variable
marked_name out marked done name variable mark said is =
    said
    ∙ (ap (λ (bs : List ℕ). bs ++ name) mark
    ∙ (append_assoc out (codes " ?") name
    ∙ ap (λ (bs : List ℕ). out ++ with_mark bs) (sym is)))

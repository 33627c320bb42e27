-- The first line of a text that is not the line of a triple.
use Rattle.std.proofs.Common.{◌≡◌, ℕ, ◌<◌, ◌+◌, ◌-◌, refl, List, [], ◌∷◌, ◌++◌, Bool, map, length, take, get_or, slice_get, Some, None, All, IsSomeAnd, sym, ap, subst, ◌∙◌, arith, inl, inr}
use Rattle.std.proofs.lemmas.Bool.{cases_order}
use Rattle.std.proofs.lemmas.List.{get_or-take, length-map, length-take, take_all, take_at}
use Rattle.std.proofs.lemmas.List.Elements.{All-map}
use Rattle.std.proofs.lemmas.Option.{get_or_from_slice_get, slice_get_within}
use Rattle.gm_text.specs.Lines.{lines_of}
use Rattle.graph_text.specs.declared.graphs.Triple.{Triple}
use Rattle.graph_text.specs.EdgesText.{IsInRange, IsEdgeLine, IsFirstBadLine, IsReading}
use Rattle.graph_text.proofs.EdgesTextLemmas.{text_line, lines_of-edges_text}

-- what stands at an index is not among the first n lines, all of which are triples'
not_among : (lines : List (List ℕ × Bool)) (n k : ℕ) → All IsEdgeLine (take n lines) → k < n → IsSomeAnd (slice_get lines k) (λ line. ¬ IsEdgeLine line) → ⊥
not_among lines n k good before bad =
    elim (slice_get lines k) as (λ o. slice_get lines k ≡ o → IsSomeAnd o (λ line. ¬ IsEdgeLine line) → ⊥) [
      | None ↦ (λ _ h. h)
      | Some line ↦ (λ is h.
          let within : k < length lines = slice_get_within lines k line is in
          h (subst IsEdgeLine (get_or-take n lines k line before ∙ get_or_from_slice_get lines k line line is) (good k line (omega (arith, length-take n lines)))))
    ]
    refl bad

All-IsEdgeLine : (triples : List Triple) → All IsInRange triples → All IsEdgeLine (map text_line triples)
All-IsEdgeLine triples within = All-map IsEdgeLine text_line triples (λ k d in_range. (get_or triples k d, (within k d in_range, refl)))

-- a text that can be read has no bad line
pub no_bad_line : (text : List ℕ) (triples : List Triple) (n : ℕ) → IsReading text triples → IsFirstBadLine text n → ⊥
no_bad_line text triples n (within, is) first =
    let lines : lines_of text ≡ map text_line triples = ap lines_of (sym is) ∙ lines_of-edges_text triples within in
    let all : take (length (lines_of text) + n) (lines_of text) ≡ map text_line triples = take_all (length (lines_of text) + n) (lines_of text) (omega arith) ∙ lines in
    not_among (lines_of text) (length (lines_of text) + n) (n - 1) (subst (All IsEdgeLine) (sym all) (All-IsEdgeLine triples within))
    (let counted = first.counted in omega arith) first.bad

-- two lines of a text are not both the first bad one
before_bad : (text : List ℕ) (m n : ℕ) → IsFirstBadLine text m → IsFirstBadLine text n → m < n → ⊥
before_bad text m n first second below =
    not_among (lines_of text) (n - 1) (m - 1) second.earlier (omega arith) first.bad

pub IsFirstBadLine-unique : (text : List ℕ) (m n : ℕ) → IsFirstBadLine text m → IsFirstBadLine text n → m ≡ n
IsFirstBadLine-unique text m n first second =
    elim (cases_order m n) [
      | inl same ↦ same
      | inr apart ↦ elim apart [ inl below ↦ absurd (before_bad text m n first second below) | inr above ↦ absurd (before_bad text n m second first above) ]
    ]

slice_get-after : {X : Type 0} (xs ys : List X) (x : X) → slice_get (xs ++ x ∷ ys) (length xs) ≡ Some x
slice_get-after [] ys x = refl
slice_get-after (y ∷ xs) ys x = slice_get-after xs ys x

-- a bad line after those of triples is the first bad one
pub IsFirstBadLine-after : (text : List ℕ) (triples : List Triple) (line : List ℕ × Bool) (rest : List (List ℕ × Bool)) → All IsInRange triples
    → lines_of text ≡ map text_line triples ++ line ∷ rest → ¬ IsEdgeLine line → IsFirstBadLine text (length triples + 1)
IsFirstBadLine-after text triples line rest within lines bad =
    let place : length triples + 1 - 1 ≡ length (map text_line triples) = omega (arith, length-map triples text_line) in
    let front : take (length triples + 1 - 1) (lines_of text) ≡ map text_line triples =
    ap (take (length triples + 1 - 1)) lines ∙ take_at (map text_line triples) (line ∷ rest) (length triples + 1 - 1) (sym place) in
    let at : slice_get (lines_of text) (length triples + 1 - 1) ≡ Some line =
    ap (λ xs. slice_get xs (length triples + 1 - 1)) lines ∙ ap (slice_get (map text_line triples ++ line ∷ rest)) place ∙ slice_get-after (map text_line triples) rest line in
    record {
      counted = omega arith;
      earlier = subst (All IsEdgeLine) (sym front) (All-IsEdgeLine triples within);
      bad = subst (λ o. IsSomeAnd o (λ other. ¬ IsEdgeLine other)) (sym at) bad;
    }

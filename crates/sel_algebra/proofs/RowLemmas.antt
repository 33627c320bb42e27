-- The rows of a product, joined path by path.
use Rattle.std.proofs.Common.{◌≡◌, ◌+◌, ◌<◌, ◌≤◌, ℕ, Option, None, List, length, get_or, slice_set, replicate, map, refl, ap, ◌∙◌, add-one, arith, below_more}
use Rattle.std.specs.List.{range_with_len}
use Rattle.std.proofs.lemmas.List.{get_or-set_same, get_or-set_other, get_or-replicate, length-replicate}
use Rattle.std.proofs.lemmas.List.FromFn.{fill_by_all}
use Rattle.sel_algebra.specs.declared.vocabulary.Op.{Op}
use Rattle.sel_algebra.specs.Entries.{joined, join_below}
use Rattle.sel_algebra.specs.Table.{JoinsEach}
use Rattle.sel_algebra.proofs.EntryLemmas.{join_below-none, join_below-more}

-- the entries of a row below a place are joined with those of f, and the rest are as before
pub record JoinsBelow (old new : List (Option Op)) (f : ℕ → Option Op) (to : ℕ) : Type 0 where
  pub below : (j : ℕ) → j < to → get_or new j None ≡ joined (get_or old j None) (f j)
  pub rest : (j : ℕ) → to ≤ j → get_or new j None ≡ get_or old j None

pub JoinsBelow-none : (row : List (Option Op)) (f : ℕ → Option Op) → JoinsBelow row row f 0
JoinsBelow-none row f = record { below = λ j lt. absurd (omega arith); rest = λ j le. refl }

pub JoinsBelow-more : (old row : List (Option Op)) (f : ℕ → Option Op) (to : ℕ) (entry : Option Op) → to < length row → JoinsBelow old row f to → entry ≡ joined (get_or row to None) (f to)
    → JoinsBelow old (slice_set row to entry) f (to + 1)
JoinsBelow-more old row f to entry lt joins e = record {
  below = below_more (λ j. get_or (slice_set row to entry) j None ≡ joined (get_or old j None) (f j)) to
      (λ j less. get_or-set_other row to j entry None (omega arith) ∙ joins.below j less)
      (get_or-set_same row to entry None lt ∙ (e ∙ ap (λ r. joined r (f to)) (joins.rest to (omega arith))));
  rest = λ j le. get_or-set_other row to j entry None (omega arith) ∙ joins.rest j (omega arith);
}

-- each entry of a row joins the first m of its paths
pub record JoinsFirst (row : List (Option Op)) (n m : ℕ) (f : ℕ → ℕ → Option Op) : Type 0 where
  pub whole : length row ≡ n
  pub each : (j : ℕ) → j < n → get_or row j None ≡ join_below m (f j)

pub JoinsFirst-none : (row : List (Option Op)) (n : ℕ) (f : ℕ → ℕ → Option Op) → row ≡ replicate n None → JoinsFirst row n 0 f
JoinsFirst-none row n f e = record {
  whole = ap length e ∙ length-replicate n None;
  each = λ j lt. rw (join_below-none (f j), e) (get_or-replicate n j None None lt);
}

pub JoinsFirst-more : (old new : List (Option Op)) (n m : ℕ) (f : ℕ → ℕ → Option Op) → length new ≡ length old → JoinsFirst old n m f → JoinsEach old new (λ j. f j m) → JoinsFirst new n (m + 1) f
JoinsFirst-more old new n m f e joins more = record {
  whole = e ∙ joins.whole;
  each = λ j lt. rw (add-one, join_below-more m (f j)) (more j (rw joins.whole lt) ∙ ap (λ r. joined r (f j m)) (joins.each j lt));
}

pub JoinsFirst-all : (row : List (Option Op)) (n : ℕ) (f : ℕ → ℕ → Option Op) → JoinsFirst row n n f → row ≡ map (λ j. join_below n (f j)) (range_with_len 0 n)
JoinsFirst-all row n f joins = fill_by_all (λ j. join_below n (f j)) row n None joins.whole joins.each

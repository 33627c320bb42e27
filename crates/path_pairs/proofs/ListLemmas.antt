-- Members of lists of numbers, and the ends of a graph's triples.
use Rattle.std.proofs.Common.{◌≡◌, ◌<◌, ◌⊎◌, inl, inr, ℕ, zero, suc, Bool, true, false, ◌||◌, eqb, List, [], ◌∷◌, ◌++◌, length, refl, sym, ap, subst, ◌∙◌, arith}
use Rattle.std.specs.List.{Contains, flat_map, list_any, AllByRecursion, slice_index_or}
use Rattle.std.specs.Set.{is_member}
use Rattle.std.proofs.lemmas.Bool.{or_left, or_right, or_parts, or_cases, cases_Bool, eq-eqb}
use Rattle.graph_text.specs.declared.graphs.Triple.{Triple}
use Rattle.graph_text.specs.Graph.{IsNode}
use Rattle.graph_text.proofs.MemberLemmas.{Contains-cases, Contains-none, Contains-flat_map, Contains-from_flat_map, list_any-Contains}
use Rattle.path_pairs.specs.Rounds.{ends_of, ends}

-- ---- numbers

pub AllByRecursion-differ : (a : ℕ) (xs : List ℕ) → is_member eqb xs a ≡ false → AllByRecursion (λ y. eqb a y ≡ false) xs
AllByRecursion-differ a [] none = tt
AllByRecursion-differ a (x ∷ xs) none = let parts = or_parts (eqb a x) (is_member eqb xs a) none in (parts.0, AllByRecursion-differ a xs parts.1)

pub is_member-Contains : (xs : List ℕ) (n : ℕ) → Contains xs n → is_member eqb xs n ≡ true
is_member-Contains xs n has = list_any-Contains (eqb n) xs n has (eq-eqb n n refl)

-- ---- the ends of triples are the nodes

Contains-ends_of : (t : Triple) (n : ℕ) → ((t.src ≡ n) ⊎ (t.trg ≡ n)) → Contains (ends_of t) n
Contains-ends_of t n end = elim end [ inl src ↦ (0, omega arith, src) | inr trg ↦ (1, omega arith, trg) ]

pub Contains-ends : (graph : List Triple) (n : ℕ) → IsNode graph n → Contains (ends graph) n
Contains-ends graph n node = Contains-flat_map ends_of graph node.0 n node.1 (Contains-ends_of node.0 n node.2)

pub IsNode-ends : (graph : List Triple) (n : ℕ) → Contains (ends graph) n → IsNode graph n
IsNode-ends graph n has =
    let found = Contains-from_flat_map ends_of graph n has in (
      found.0,
      found.1,
      elim (Contains-cases found.0.src n (found.0.trg ∷ []) found.2) [
        | inl src ↦ inl src
        | inr later ↦ elim (Contains-cases found.0.trg n [] later) [ inl trg ↦ inr trg | inr none ↦ absurd (Contains-none n none) ]
      ],
    )

pub is_member-ends : (graph : List Triple) (n : ℕ) → IsNode graph n → is_member eqb (ends graph) n ≡ true
is_member-ends graph n node = is_member-Contains (ends graph) n (Contains-ends graph n node)

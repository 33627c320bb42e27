-- The lists of relations that are made of others have exactly the related pairs.
use Rattle.std.proofs.Common.{◌≡◌, ◌+◌, ◌⊎◌, inl, inr, ℕ, zero, suc, Bool, true, false, ◌==◌, List, [], length, refl, ap, subst, ◌∙◌, arith}
use Rattle.std.specs.List.{Contains}
use Rattle.std.proofs.lemmas.Bool.{and_parts, and_from, or_cases, or_left, or_right, eqb-true, eq-eqb}
use Rattle.graph_text.specs.declared.graphs.Triple.{Triple}
use Rattle.graph_text.specs.Graph.{IsNode}
use Rattle.graph_text.proofs.MemberLemmas.{list_any-Contains, Contains-list_any}
use Rattle.path_pairs.specs.Pairs.{Chain}
use Rattle.path_pairs.specs.Rounds.{InRound}
use Rattle.path_pairs.proofs.ListLemmas.{is_member-Contains}
use Rattle.path_pairs.proofs.StarLemmas.{Visited-within, Chain-from_Visited, Visited-from_InRound, InRound-from_Visited}
use Rattle.node_tables.specs.Tables.{IsTable, RelatesNodes, AreNodes, select, is_pair, has, passes_by, joins, has_either, has_or_same, further, rounds}
use Rattle.node_tables.proofs.SelectLemmas.{select-from, select-has}

-- ---- a list has a pair

pub has-Contains : (pairs : List (ℕ × ℕ)) (a b : ℕ) → Contains pairs (a, b) → has pairs a b ≡ true
has-Contains pairs a b is = list_any-Contains (is_pair a b) pairs (a, b) is (and_from (a == a) (b == b) (eq-eqb a a refl) (eq-eqb b b refl))

pub Contains-has : (pairs : List (ℕ × ℕ)) (a b : ℕ) → has pairs a b ≡ true → Contains pairs (a, b)
Contains-has pairs a b is =
    let found = Contains-list_any (is_pair a b) pairs is in
    let parts = and_parts (found.0.0 == a) (found.0.1 == b) found.2 in
    let first : found.0.0 ≡ a = eqb-true found.0.0 a parts.0 in
    let second : found.0.1 ≡ b = eqb-true found.0.1 b parts.1 in
    subst (Contains pairs) (λ i. (first i, second i)) found.1

joins-sound : (nodes : List ℕ) (first second : List (ℕ × ℕ)) (a c : ℕ) → joins nodes first second a c ≡ true → (b : ℕ) × Contains first (a, b) × Contains second (b, c)
joins-sound nodes first second a c is =
    let found = Contains-list_any (passes_by first second a c) nodes is in
    let parts = and_parts (has first a found.0) (has second found.0 c) found.2 in
    (found.0, Contains-has first a found.0 parts.0, Contains-has second found.0 c parts.1)

joins-complete : (nodes : List ℕ) (first second : List (ℕ × ℕ)) (a b c : ℕ) → Contains nodes b → Contains first (a, b) → Contains second (b, c) → joins nodes first second a c ≡ true
joins-complete nodes first second a b c node one two =
    list_any-Contains (passes_by first second a c) nodes b node (and_from (has first a b) (has second b c) (has-Contains first a b one) (has-Contains second b c two))

module _ (graph : List Triple) (nodes : List ℕ) (are : AreNodes graph nodes) where
  -- the pairs of nodes that pass a test are the related ones, where the test decides the relation
  pub select_table : (R : ℕ → ℕ → Type 0) → RelatesNodes graph R → (test : ℕ → ℕ → Bool) → ((a b : ℕ) → IsNode graph a → test a b ≡ true → R a b)
      → ((a b : ℕ) → R a b → test a b ≡ true) → IsTable R (select test nodes)
  select_table R within test sound complete a b = (
    λ has. let is = select-from test nodes a b has in sound a b ((are.each a).0 is.first) is.passes,
    λ pair. let ends = within a b pair in
        select-has test nodes a b (record { first = (are.each a).1 ends.0; second = (are.each b).1 ends.1; passes = complete a b pair }),
  )

  module _ (R : ℕ → ℕ → Type 0) (within_R : RelatesNodes graph R) (first : List (ℕ × ℕ)) (is_R : IsTable R first) where
    pub opt_table : IsTable (λ a b. R a b ⊎ (IsNode graph a × (a ≡ b))) (select (has_or_same first) nodes)
    opt_table =
        select_table (λ a b. R a b ⊎ (IsNode graph a × (a ≡ b)))
        (λ a b h. elim h [ inl one ↦ within_R a b one | inr same ↦ (same.0, subst (IsNode graph) same.1 same.0) ])
        (has_or_same first)
        (λ a b node is. elim (or_cases (has first a b) (a == b) is) [
          | inl one ↦ inl ((is_R a b).0 (Contains-has first a b one))
          | inr same ↦ inr (node, eqb-true a b same)
        ])
        (λ a b pair. elim pair [
          | inl one ↦ or_left (has first a b) (a == b) (has-Contains first a b ((is_R a b).1 one))
          | inr same ↦ or_right (has first a b) (a == b) (eq-eqb a b same.1)
        ])

    -- ---- two relations

    module _ (S : ℕ → ℕ → Type 0) (within_S : RelatesNodes graph S) (second : List (ℕ × ℕ)) (is_S : IsTable S second) where
      pub seq_table : IsTable (λ a c. (b : ℕ) × R a b × S b c) (select (joins nodes first second) nodes)
      seq_table =
          select_table (λ a c. (b : ℕ) × R a b × S b c)
          (λ a c h. ((within_R a h.0 h.1).0, (within_S h.0 c h.2).1))
          (joins nodes first second)
          (λ a c node is. let by = joins-sound nodes first second a c is in (by.0, (is_R a by.0).0 by.1, (is_S by.0 c).0 by.2))
          (λ a c pair. joins-complete nodes first second a pair.0 c ((are.each pair.0).1 (within_R a pair.0 pair.1).1) ((is_R a pair.0).1 pair.1) ((is_S pair.0 c).1 pair.2))

      pub alt_table : IsTable (λ a b. R a b ⊎ S a b) (select (has_either first second) nodes)
      alt_table =
          select_table (λ a b. R a b ⊎ S a b)
          (λ a b h. elim h [ inl one ↦ within_R a b one | inr other ↦ within_S a b other ])
          (has_either first second)
          (λ a b node is. elim (or_cases (has first a b) (has second a b) is) [
            | inl one ↦ inl ((is_R a b).0 (Contains-has first a b one))
            | inr other ↦ inr ((is_S a b).0 (Contains-has second a b other))
          ])
          (λ a b pair. elim pair [
            | inl one ↦ or_left (has first a b) (has second a b) (has-Contains first a b ((is_R a b).1 one))
            | inr other ↦ or_right (has first a b) (has second a b) (has-Contains second a b ((is_S a b).1 other))
          ])

    -- ---- a repetition

    round_end : (k a c : ℕ) → InRound graph R k a c → IsNode graph c
    round_end zero a c h = subst (IsNode graph) h.1 h.0
    round_end (suc k) a c h = elim h [ inl before ↦ round_end k a c before | inr more ↦ (within_R more.0 c more.2).1 ]

    rounds_sound : (k a c : ℕ) → Contains (rounds nodes first k) (a, c) → InRound graph R k a c
    unfolding rounds
    rounds_sound zero a c has =
        let is = select-from (has_or_same []) nodes a c has in
        elim (or_cases false (a == c) is.passes) [ inl never ↦ cc | inr same ↦ ((are.each a).0 is.first, eqb-true a c same) ]
    rounds_sound (suc k) a c h =
        let is = select-from (further nodes (rounds nodes first k) first) nodes a c h in
        elim (or_cases (has (rounds nodes first k) a c) (joins nodes (rounds nodes first k) first a c) is.passes) [
          | inl before ↦ inl (rounds_sound k a c (Contains-has (rounds nodes first k) a c before))
          | inr more ↦ let by = joins-sound nodes (rounds nodes first k) first a c more in inr (by.0, rounds_sound k a by.0 by.1, (is_R by.0 c).0 by.2)
        ]

    rounds_complete : (k a c : ℕ) → InRound graph R k a c → Contains (rounds nodes first k) (a, c)
    unfolding rounds
    rounds_complete zero a c h =
        select-has (has_or_same []) nodes a c
        (record { first = (are.each a).1 h.0; second = (are.each c).1 (subst (IsNode graph) h.1 h.0); passes = or_right false (a == c) (eq-eqb a c h.1) })
    rounds_complete (suc k) a c h =
        let before = rounds nodes first k in
        select-has (further nodes before first) nodes a c
        (record {
          first = (are.each a).1 (Visited-from_InRound graph R (suc k) a c h).0;
          second = (are.each c).1 (round_end (suc k) a c h);
          passes = elim h [
            | inl old ↦ or_left (has before a c) (joins nodes before first a c) (has-Contains before a c (rounds_complete k a c old))
            | inr more ↦ or_right (has before a c) (joins nodes before first a c)
                (joins-complete nodes before first a more.0 c ((are.each more.0).1 (round_end k a more.0 more.1)) (rounds_complete k a more.0 more.1) ((is_R more.0 c).1 more.2))
          ];
        })

    pub star_table : IsTable (λ a b. Chain graph R a b) (rounds nodes first (length nodes))
    star_table a b = (
      λ has. let v = Visited-from_InRound graph R (length nodes) a b (rounds_sound (length nodes) a b has) in
          Chain-from_Visited graph R (length nodes) a b v.0 v.1,
      λ chain. rounds_complete (length nodes) a b
          (InRound-from_Visited graph R (length nodes) a b chain.node
          (Visited-within graph R (λ x y r. (within_R x y r).1) nodes (λ q node. is_member-Contains nodes q ((are.each q).1 node)) a b chain)),
    )

-- ---- the rounds of the code

pub rounds_begin : (nodes : List ℕ) (step pairs : List (ℕ × ℕ)) → pairs ≡ select (has_or_same []) nodes → pairs ≡ rounds nodes step 0
unfolding rounds
rounds_begin nodes step pairs is = is

pub rounds_more : (nodes : List ℕ) (step before pairs : List (ℕ × ℕ)) (k : ℕ) → before ≡ rounds nodes step k → pairs ≡ select (further nodes before step) nodes
    → pairs ≡ rounds nodes step (k + 1)
unfolding rounds
rounds_more nodes step before pairs k is more =
    let next : suc k ≡ k + 1 = omega arith in
    more ∙ (ap (λ xs. select (further nodes xs step) nodes) is ∙ ap (rounds nodes step) next)

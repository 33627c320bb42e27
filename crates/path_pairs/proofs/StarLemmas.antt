-- Lists of neighbours, visits in rounds and rounds of a table are one.
use Rattle.std.proofs.Common.{◌≡◌, ◌≤◌, ◌<◌, ◌+◌, ◌⊎◌, ◌↔◌, inl, inr, ℕ, zero, suc, List, [], ◌∷◌, ◌++◌, length, refl, sym, ap, subst, ◌∙◌, arith, Bool, true, false, eqb, ◌||◌}
use Rattle.std.specs.List.{list_any, IsDistinct, AllByRecursion}
use Rattle.std.specs.Set.{is_member, distinct_count, unique_keys}
use Rattle.std.proofs.lemmas.Bool.{or_cases, or_left, or_right, eqb-true, cases_Bool, cases_lt, cond_both}
use Rattle.std.proofs.lemmas.Cmp.{nat_eq_equiv}
use Rattle.std.proofs.lemmas.Map.Made.{length-le_from_is_member}
use Rattle.graph_text.specs.declared.graphs.Triple.{Triple}
use Rattle.graph_text.specs.Graph.{IsNode}
use Rattle.path_pairs.specs.Trees.{Tree}
use Rattle.path_pairs.specs.Trees.Tree.{Step, Seq, Alt, Star, Opt}
use Rattle.path_pairs.specs.Pairs.{Pairs, Chain, Links, HasEdge}
use Rattle.path_pairs.specs.Rounds.{ends, node_count, Visited, IsVisited, InRound, AddsNothing, IsRow}
use Rattle.path_pairs.specs.Laws.{PairsAreNodes, StarsAgree, StableRoundsAgree, SomeRoundIsStable}
use Rattle.path_pairs.proofs.ListLemmas.{AllByRecursion-differ, is_member-ends}

-- ---- ends of pairs are nodes

pub Links-end : (graph : List Triple) (R : ℕ → ℕ → Type 0) → ((a b : ℕ) → R a b → IsNode graph b) → (rest : List ℕ) (a b : ℕ)
    → IsNode graph a → Links R a rest b → IsNode graph b
Links-end graph R into [] a b node links = subst (IsNode graph) links node
Links-end graph R into (n ∷ rest) a b node links = Links-end graph R into rest n b (into a n links.0) links.1

-- ---- visits

pub Visited-raise : (R : ℕ → ℕ → Type 0) (n m j k : ℕ) → k ≤ j → Visited R n k m → Visited R n j m
Visited-raise R n m zero k le v = let none : k ≡ 0 = omega (arith, le) in subst (λ (i : ℕ). Visited R n i m) none v
Visited-raise R n m (suc j) k le v =
    elim (cases_lt j k) [
      | inl above ↦ let same : k ≡ suc j = omega (arith, le, above) in subst (λ (i : ℕ). Visited R n i m) same v
      | inr within ↦ inl (Visited-raise R n m j k within v)
    ]

pub Visited-cons : (R : ℕ → ℕ → Type 0) (a n m k : ℕ) → R a n → Visited R n k m → Visited R a (suc k) m
Visited-cons R a n m zero r v = inr (a, refl, subst (R a) v r)
Visited-cons R a n m (suc k) r v =
    elim v [
      | inl before ↦ inl (Visited-cons R a n m k r before)
      | inr more ↦ inr (more.0, Visited-cons R a n more.0 k r more.1, more.2)
    ]

pub Visited-from_Links : (R : ℕ → ℕ → Type 0) (rest : List ℕ) (a b : ℕ) → Links R a rest b → Visited R a (length rest) b
Visited-from_Links R [] a b links = links
Visited-from_Links R (n ∷ rest) a b links = Visited-cons R a n b (length rest) links.0 (Visited-from_Links R rest n b links.1)

pub Links-push : (R : ℕ → ℕ → Type 0) (rest : List ℕ) (a b c : ℕ) → Links R a rest b → R b c → Links R a (rest ++ c ∷ []) c
Links-push R [] a b c links r = (subst (λ (x : ℕ). R x c) (sym links) r, refl)
Links-push R (n ∷ rest) a b c links r = (links.0, Links-push R rest n b c links.1 r)

pub Links-from_Visited : (R : ℕ → ℕ → Type 0) (n m k : ℕ) → Visited R n k m → (rest : List ℕ) × Links R n rest m
Links-from_Visited R n m zero v = ([], v)
Links-from_Visited R n m (suc k) v =
    elim v [
      | inl before ↦ Links-from_Visited R n m k before
      | inr more ↦ let so_far = Links-from_Visited R n more.0 k more.1 in (so_far.0 ++ m ∷ [], Links-push R so_far.0 n more.0 m so_far.1 more.2)
    ]

-- ---- a list without repeats

pub record Short (graph : List Triple) (R : ℕ → ℕ → Type 0) (a b : ℕ) : Type 0 where
  pub rest : List ℕ
  pub links : Links R a rest b
  pub distinct : IsDistinct eqb (a ∷ rest)
  pub nodes : (q : ℕ) → is_member eqb (a ∷ rest) q ≡ true → IsNode graph q

-- the part of a list from a on
pub Short-cut : (graph : List Triple) (R : ℕ → ℕ → Type 0) (rest : List ℕ) (a n b : ℕ) → Links R n rest b → IsDistinct eqb (n ∷ rest)
    → ((q : ℕ) → is_member eqb (n ∷ rest) q ≡ true → IsNode graph q) → is_member eqb (n ∷ rest) a ≡ true → Short graph R a b
unfolding IsDistinct
Short-cut graph R [] a n b links distinct nodes has =
    elim (or_cases (eqb a n) false has) [
      | inl same ↦ let e : n ≡ a = sym (eqb-true a n same) in
          subst (λ (x : ℕ). Short graph R x b) e (record { rest = []; links = links; distinct = distinct; nodes = nodes })
      | inr never ↦ cc
    ]
Short-cut graph R (m ∷ rest) a n b links distinct nodes has =
    elim (or_cases (eqb a n) (is_member eqb (m ∷ rest) a) has) [
      | inl same ↦ let e : n ≡ a = sym (eqb-true a n same) in
          subst (λ (x : ℕ). Short graph R x b) e (record { rest = m ∷ rest; links = links; distinct = distinct; nodes = nodes })
      | inr later ↦ Short-cut graph R rest a m b links.1 distinct.1 (λ q h. nodes q (or_right (eqb q n) (is_member eqb (m ∷ rest) q) h)) later
    ]

pub Short-from_Links : (graph : List Triple) (R : ℕ → ℕ → Type 0) → ((a b : ℕ) → R a b → IsNode graph b) → (rest : List ℕ) (a b : ℕ)
    → IsNode graph a → Links R a rest b → Short graph R a b
unfolding IsDistinct
Short-from_Links graph R into [] a b node links = record {
  rest = [];
  links = links;
  distinct = (tt, tt);
  nodes = λ q h. elim (or_cases (eqb q a) false h) [ inl same ↦ subst (IsNode graph) (sym (eqb-true q a same)) node | inr never ↦ cc ];
}
Short-from_Links graph R into (n ∷ rest) a b node links =
    let short : Short graph R n b = Short-from_Links graph R into rest n b (into a n links.0) links.1 in
    elim (cases_Bool (is_member eqb (n ∷ short.rest) a)) [
      | inl has ↦ Short-cut graph R short.rest a n b short.links short.distinct short.nodes has
      | inr fresh ↦ record {
        rest = n ∷ short.rest;
        links = (links.0, short.links);
        distinct = (AllByRecursion-differ a (n ∷ short.rest) fresh, short.distinct);
        nodes = λ q h. elim (or_cases (eqb q a) (is_member eqb (n ∷ short.rest) q) h) [ inl same ↦ subst (IsNode graph) (sym (eqb-true q a same)) node | inr later ↦ short.nodes q later ];
      }
    ]

-- leaving repeats out keeps each member
is_member-unique : (xs : List ℕ) (q : ℕ) → is_member eqb xs q ≡ true → is_member eqb (unique_keys eqb xs) q ≡ true
is_member-unique [] q h = h
is_member-unique (x ∷ xs) q h =
    cond_both (is_member eqb xs x) (unique_keys eqb xs) (x ∷ unique_keys eqb xs) (λ (ys : List ℕ). is_member eqb ys q ≡ true)
    (λ again. is_member-unique xs q (elim (or_cases (eqb q x) (is_member eqb xs q) h) [
      | inl same ↦ subst (λ (y : ℕ). is_member eqb xs y ≡ true) (sym (eqb-true q x same)) again
      | inr later ↦ later
    ]))
    (λ fresh. elim (or_cases (eqb q x) (is_member eqb xs q) h) [
      | inl same ↦ or_left (eqb q x) (is_member eqb (unique_keys eqb xs) q) same
      | inr later ↦ or_right (eqb q x) (is_member eqb (unique_keys eqb xs) q) (is_member-unique xs q later)
    ])

-- a list without repeats is at most as long as any list with all nodes
pub Short-length : (graph : List Triple) (R : ℕ → ℕ → Type 0) (nodes : List ℕ) → ((q : ℕ) → IsNode graph q → is_member eqb nodes q ≡ true)
    → (a b : ℕ) (short : Short graph R a b) → length (a ∷ short.rest) ≤ length nodes
Short-length graph R nodes has a b short =
    length-le_from_is_member nat_eq_equiv (a ∷ short.rest) nodes short.distinct (λ q h. has q (short.nodes q h))

-- so many rounds are enough
pub Visited-within : (graph : List Triple) (R : ℕ → ℕ → Type 0) → ((a b : ℕ) → R a b → IsNode graph b)
    → (nodes : List ℕ) → ((q : ℕ) → IsNode graph q → is_member eqb nodes q ≡ true) → (a b : ℕ) → Chain graph R a b → Visited R a (length nodes) b
Visited-within graph R into nodes has a b chain =
    let short : Short graph R a b = Short-from_Links graph R into chain.rest a b chain.node chain.links in
    let few = Short-length graph R nodes has a b short in
    Visited-raise R a b (length nodes) (length short.rest) (omega (arith, few)) (Visited-from_Links R short.rest a b short.links)

pub Visited-from_Chain : (graph : List Triple) (R : ℕ → ℕ → Type 0) → ((a b : ℕ) → R a b → IsNode graph b) → (a b : ℕ)
    → Chain graph R a b → IsNode graph a × IsVisited graph R a b
Visited-from_Chain graph R into a b chain = (
  chain.node,
  Visited-within graph R into (unique_keys eqb (ends graph))
      (λ q node. is_member-unique (ends graph) q (is_member-ends graph q node)) a b chain,
)

pub Chain-from_Visited : (graph : List Triple) (R : ℕ → ℕ → Type 0) (k a b : ℕ) → IsNode graph a → Visited R a k b → Chain graph R a b
Chain-from_Visited graph R k a b node v = let links = Links-from_Visited R a b k v in record { node = node; rest = links.0; links = links.1 }

-- ---- the pairs of a path

pub HasEdge-nodes : (graph : List Triple) (label a b : ℕ) → HasEdge graph label a b → IsNode graph a × IsNode graph b
HasEdge-nodes graph label a b e = ((e.0, e.1, inl e.3), (e.0, e.1, inr e.4))

pub Pairs-nodes : (p : Tree) (graph : List Triple) (a b : ℕ) → Pairs p graph a b → IsNode graph a × IsNode graph b
Pairs-nodes (Step label false) graph a b h = HasEdge-nodes graph label a b h
Pairs-nodes (Step label true) graph a b h = let both = HasEdge-nodes graph label b a h in (both.1, both.0)
Pairs-nodes (Seq p q) graph a c h = ((Pairs-nodes p graph a h.0 h.1).0, (Pairs-nodes q graph h.0 c h.2).1)
Pairs-nodes (Alt p q) graph a b h = elim h [ inl l ↦ Pairs-nodes p graph a b l | inr r ↦ Pairs-nodes q graph a b r ]
Pairs-nodes (Star p) graph a b h = (h.node, Links-end graph (Pairs p graph) (λ x y r. (Pairs-nodes p graph x y r).1) h.rest a b h.node h.links)
Pairs-nodes (Opt p) graph a b h =
    elim h [ inl l ↦ Pairs-nodes p graph a b l | inr same ↦ (same.0, subst (IsNode graph) same.1 same.0) ]

pub into_nodes : (p : Tree) (graph : List Triple) (a b : ℕ) → Pairs p graph a b → IsNode graph b
into_nodes p graph a b r = (Pairs-nodes p graph a b r).1

-- ---- rounds of a table

pub Visited-from_InRound : (graph : List Triple) (R : ℕ → ℕ → Type 0) (k a c : ℕ) → InRound graph R k a c → IsNode graph a × Visited R a k c
Visited-from_InRound graph R zero a c h = h
Visited-from_InRound graph R (suc k) a c h =
    elim h [
      | inl before ↦ let v = Visited-from_InRound graph R k a c before in (v.0, inl v.1)
      | inr more ↦ let v = Visited-from_InRound graph R k a more.0 more.1 in (v.0, inr (more.0, v.1, more.2))
    ]

pub InRound-from_Visited : (graph : List Triple) (R : ℕ → ℕ → Type 0) (k a c : ℕ) → IsNode graph a → Visited R a k c → InRound graph R k a c
InRound-from_Visited graph R zero a c node v = (node, v)
InRound-from_Visited graph R (suc k) a c node v =
    elim v [
      | inl before ↦ inl (InRound-from_Visited graph R k a c node before)
      | inr more ↦ inr (more.0, InRound-from_Visited graph R k a more.0 node more.1, more.2)
    ]

-- what any round has, a round that adds nothing has
pub InRound-stable : (graph : List Triple) (R : ℕ → ℕ → Type 0) (k : ℕ) → AddsNothing graph R k → (j a c : ℕ) → InRound graph R j a c → InRound graph R k a c
InRound-stable graph R k stable zero a c h = InRound-from_Visited graph R k a c h.0 (Visited-raise R a c k zero (omega arith) h.1)
InRound-stable graph R k stable (suc j) a c h =
    elim h [
      | inl before ↦ InRound-stable graph R k stable j a c before
      | inr more ↦ stable a c (inr (more.0, InRound-stable graph R k stable j a more.0 more.1, more.2))
    ]

-- the round of the number of nodes adds nothing
pub AddsNothing-nodes : (graph : List Triple) (R : ℕ → ℕ → Type 0) → ((a b : ℕ) → R a b → IsNode graph b) → AddsNothing graph R (node_count graph)
AddsNothing-nodes graph R into a c h =
    let v = Visited-from_InRound graph R (suc (node_count graph)) a c h in
    let all = Visited-from_Chain graph R into a c (Chain-from_Visited graph R (suc (node_count graph)) a c v.0 v.1) in
    InRound-from_Visited graph R (node_count graph) a c v.0 all.1

-- ---- the laws

pub pairs_are_nodes : PairsAreNodes
pairs_are_nodes path graph a b h = Pairs-nodes path graph a b h

pub stable_rounds_agree : StableRoundsAgree
stable_rounds_agree path graph k stable j a c h = InRound-stable graph (Pairs path graph) k stable j a c h

pub some_round_is_stable : SomeRoundIsStable
some_round_is_stable path graph = AddsNothing-nodes graph (Pairs path graph) (into_nodes path graph)

IsRow-from_Chain : (path : Tree) (graph : List Triple) (a b : ℕ) → Chain graph (Pairs path graph) a b → IsRow graph (Pairs path graph) a b
IsRow-from_Chain path graph a b chain =
    let all = Visited-from_Chain graph (Pairs path graph) (into_nodes path graph) a b chain in
    record {
      round = node_count graph;
      stable = some_round_is_stable path graph;
      row = InRound-from_Visited graph (Pairs path graph) (node_count graph) a b chain.node all.1;
    }

Chain-from_IsRow : (graph : List Triple) (R : ℕ → ℕ → Type 0) (a b : ℕ) → IsRow graph R a b → Chain graph R a b
Chain-from_IsRow graph R a b row = let v = Visited-from_InRound graph R row.round a b row.row in Chain-from_Visited graph R row.round a b v.0 v.1

pub stars_agree : StarsAgree
stars_agree path graph a b = record {
  visits = (Visited-from_Chain graph (Pairs path graph) (into_nodes path graph) a b, λ v. Chain-from_Visited graph (Pairs path graph) (node_count graph) a b v.0 v.1);
  rounds = (IsRow-from_Chain path graph a b, Chain-from_IsRow graph (Pairs path graph) a b);
}

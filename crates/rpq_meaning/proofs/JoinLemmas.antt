-- Growing mappings by the pairs of conjuncts gives exactly the rows of assignments.
use Rattle.std.proofs.Common.{◌≡◌, ◌≢◌, ◌<◌, ◌≤◌, ◌+◌, ◌⊎◌, ◌↔◌, inl, inr, ℕ, Bool, true, false, not, ◌==◌, ◌&&◌, ◌||◌, if◌then◌else◌, List, [], ◌∷◌}
use Rattle.std.proofs.Common.{◌++◌, map, fold, length, drop, slice_index_or, refl, sym, ap, subst, ◌∙◌}
use Rattle.std.specs.List.{Contains, list_all, list_any, AllByRecursion}
use Rattle.std.proofs.lemmas.Bool.{and_parts, and_from, or_cases, or_left, or_right, eqb-true, eq-eqb, ne_eqb, cases_Bool, both_ways}
use Rattle.std.proofs.lemmas.List.{at_drop_more, drop_all}
use Rattle.graph_text.proofs.MemberLemmas.{Contains-first, Contains-later, Contains-cases, Contains-none, Contains-append_left, Contains-append_right}
use Rattle.graph_text.proofs.MemberLemmas.{Contains-append_cases, Contains-flat_map, Contains-from_flat_map, Contains-map, Contains-from_map}
use Rattle.graph_text.proofs.MemberLemmas.{list_all-member, list_all-from_members, Contains-list_any}
use Rattle.query_terms.specs.declared.terms.Conjunct.{Conjunct}
use Rattle.node_tables.specs.Tables.{table_in}
use Rattle.rpq_meaning.specs.Joins.{Mapping, agrees, fits, fits_pair, with_pair, if_fits, grown, grow, mappings, assigned}

-- ---- one number for each variable

abbrev OneEach : Mapping → Type 0
OneEach m = (v a b : ℕ) → Contains m (v, a) → Contains m (v, b) → a ≡ b

agrees-is : (v a b : ℕ) → agrees v a (v, b) ≡ true → b ≡ a
agrees-is v a b is =
    elim (or_cases (not (v == v)) (b == a) is) [
      | inl other ↦ let same : (v == v) ≡ true = eq-eqb v v refl in absurd (both_ways (not (v == v)) (ap not same) other)
      | inr number ↦ eqb-true b a number
    ]

agrees-has : (v a : ℕ) (p : ℕ × ℕ) → (p.0 ≡ v → p.1 ≡ a) → agrees v a p ≡ true
agrees-has v a p same =
    elim (cases_Bool (p.0 == v)) [
      | inl is ↦ or_right (not (p.0 == v)) (p.1 == a) (eq-eqb p.1 a (same (eqb-true p.0 v is)))
      | inr other ↦ or_left (not (p.0 == v)) (p.1 == a) (ap not other)
    ]

-- the entries of a mapping with one more
module _ (m : Mapping) (v a : ℕ) where
  one-cases : (w b : ℕ) → Contains (m ++ (v, a) ∷ []) (w, b) → Contains m (w, b) ⊎ ((v ≡ w) × (a ≡ b))
  one-cases w b has =
      elim (Contains-append_cases m ((v, a) ∷ []) (w, b) has) [
        | inl before ↦ inl before
        | inr last ↦ elim (Contains-cases (v, a) (w, b) [] last) [ inl same ↦ inr (ap (λ p. p.0) same, ap (λ p. p.1) same) | inr none ↦ absurd (Contains-none (w, b) none) ]
      ]

  one-more : OneEach m → fits m v a ≡ true → OneEach (m ++ (v, a) ∷ [])
  one-more each fit w b c one other =
      let of_v : (b : ℕ) → Contains m (w, b) → v ≡ w → b ≡ a =
      λ b has same. agrees-is v a b (list_all-member (agrees v a) m fit (v, b) (subst (λ x. Contains m (x, b)) (sym same) has)) in
      elim (one-cases w b one) [
        | inl b_in ↦ elim (one-cases w c other) [ inl c_in ↦ each w b c b_in c_in | inr c_is ↦ of_v b b_in c_is.0 ∙ c_is.1 ]
        | inr b_is ↦ elim (one-cases w c other) [ inl c_in ↦ sym b_is.1 ∙ sym (of_v c c_in b_is.0) | inr c_is ↦ sym b_is.1 ∙ c_is.1 ]
      ]

append-two : (m : Mapping) (p q : ℕ × ℕ) → m ++ p ∷ q ∷ [] ≡ (m ++ p ∷ []) ++ q ∷ []
append-two [] p q = refl
append-two (x ∷ m) p q = ap (λ xs. x ∷ xs) (append-two m p q)

fits-more : (m : Mapping) (v a : ℕ) (p : ℕ × ℕ) → fits m v a ≡ true → agrees v a p ≡ true → fits (m ++ p ∷ []) v a ≡ true
fits-more m v a p fit is =
    list_all-from_members (agrees v a) (m ++ p ∷ [])
    (λ q has. elim (Contains-append_cases m (p ∷ []) q has) [
      | inl before ↦ list_all-member (agrees v a) m fit q before
      | inr last ↦ elim (Contains-cases p q [] last) [ inl same ↦ ap (agrees v a) (sym same) ∙ is | inr none ↦ absurd (Contains-none q none) ]
    ])

pair-more : (u v : ℕ) (m : Mapping) (p : ℕ × ℕ) → OneEach m → fits_pair u v m p ≡ true → OneEach (with_pair u v m p)
pair-more u v m p each fit =
    let parts = and_parts (fits m u p.0) (fits m v p.1 && agrees v p.1 (u, p.0)) fit in
    let later = and_parts (fits m v p.1) (agrees v p.1 (u, p.0)) parts.1 in
    subst OneEach (sym (append-two m (u, p.0) (v, p.1)))
    (one-more (m ++ (u, p.0) ∷ []) v p.1 (one-more m u p.0 each parts.0) (fits-more m v p.1 (u, p.0) later.0 later.1))

-- the entries of a mapping with a pair
module _ (u v : ℕ) (m : Mapping) (p : ℕ × ℕ) where
  before-in : (q : ℕ × ℕ) → Contains m q → Contains (with_pair u v m p) q
  before-in q has = Contains-append_left m ((u, p.0) ∷ (v, p.1) ∷ []) q has

  first-in : Contains (with_pair u v m p) (u, p.0)
  first-in = Contains-append_right m ((u, p.0) ∷ (v, p.1) ∷ []) (u, p.0) (Contains-first (u, p.0) ((v, p.1) ∷ []))

  second-in : Contains (with_pair u v m p) (v, p.1)
  second-in =
      Contains-append_right m ((u, p.0) ∷ (v, p.1) ∷ []) (v, p.1)
      (Contains-later (u, p.0) (v, p.1) ((v, p.1) ∷ []) (Contains-first (v, p.1) []))

  pair-cases : (q : ℕ × ℕ) → Contains (with_pair u v m p) q → Contains m q ⊎ (((u, p.0) ≡ q) ⊎ ((v, p.1) ≡ q))
  pair-cases q has =
      elim (Contains-append_cases m ((u, p.0) ∷ (v, p.1) ∷ []) q has) [
        | inl before ↦ inl before
        | inr more ↦ elim (Contains-cases (u, p.0) q ((v, p.1) ∷ []) more) [
          | inl first ↦ inr (inl first)
          | inr last ↦ elim (Contains-cases (v, p.1) q [] last) [ inl second ↦ inr (inr second) | inr none ↦ absurd (Contains-none q none) ]
        ]
      ]

-- a variable that has a number is assigned one that it has
assigned-among : (m : Mapping) (v a : ℕ) → Contains m (v, a) → Contains m (v, assigned m v)
unfolding assigned
assigned-among [] v a has = absurd (Contains-none (v, a) has)
assigned-among (entry ∷ m) v a has =
    go (entry.0 == v) refl (λ is. elim (Contains-cases entry (v, a) m has) [
      | inl same ↦ absurd (both_ways (entry.0 == v) is (eq-eqb entry.0 v (ap (λ p. p.0) same)))
      | inr later ↦ assigned-among m v a later
    ])
  where
    go : (is : Bool) → (entry.0 == v) ≡ is → ((entry.0 == v) ≡ false → Contains m (v, assigned m v)) → Contains (entry ∷ m) (v, if is then entry.1 else assigned m v)
    go true is later = subst (λ x. Contains (entry ∷ m) (x, entry.1)) (eqb-true entry.0 v is) (Contains-first entry m)
    go false is later = Contains-later entry (v, assigned m v) m (later is)

-- the number of a variable, from a place on
pub assigned-here : (m : Mapping) (v i : ℕ) (d : ℕ × ℕ) → i < length m → (slice_index_or m i d).0 ≡ v → assigned (drop i m) v ≡ (slice_index_or m i d).1
unfolding assigned
assigned-here m v i d within is =
    at_drop_more (λ xs. assigned xs v) m i d within
    ∙ ap (λ t. if t then (slice_index_or m i d).1 else assigned (drop (i + 1) m) v) (eq-eqb (slice_index_or m i d).0 v is)

pub assigned-after : (m : Mapping) (v i : ℕ) (d : ℕ × ℕ) → i < length m → (slice_index_or m i d).0 ≢ v → assigned (drop i m) v ≡ assigned (drop (i + 1) m) v
unfolding assigned
assigned-after m v i d within other =
    at_drop_more (λ xs. assigned xs v) m i d within
    ∙ ap (λ t. if t then (slice_index_or m i d).1 else assigned (drop (i + 1) m) v) (ne_eqb (slice_index_or m i d).0 v other)

pub assigned-past : (m : Mapping) (v i : ℕ) → length m ≤ i → assigned (drop i m) v ≡ 0
unfolding assigned
assigned-past m v i past = ap (λ xs. assigned xs v) (drop_all i m past)

-- ---- each mapping is true for all conjuncts

-- the list of the conjunct has the pair of numbers
abbrev pub IsAmong : List (List (ℕ × ℕ)) → (ℕ → ℕ) → Conjunct → Type 0
IsAmong tables number c = Contains (table_in tables c.term) (number c.src, number c.trg)

record IsGrown (tables : List (List (ℕ × ℕ))) (c : Conjunct) (ms : List Mapping) (k : Mapping) : Type 0 where
  from : Mapping
  begun : Contains ms from
  pair : ℕ × ℕ
  among : Contains (table_in tables c.term) pair
  fit : fits_pair c.src c.trg from pair ≡ true
  is : with_pair c.src c.trg from pair ≡ k

picked_mapping : (t : Bool) (m k : Mapping) → Contains (if t then m ∷ [] else []) k → (t ≡ true) × (m ≡ k)
picked_mapping true m k has = (refl, elim (Contains-cases m k [] has) [ inl same ↦ same | inr none ↦ absurd (Contains-none k none) ])
picked_mapping false m k has = absurd (Contains-none k has)

picks_mapping : (t : Bool) (m : Mapping) → t ≡ true → Contains (if t then m ∷ [] else []) m
picks_mapping true m passes = Contains-first m []
picks_mapping false m passes = cc

grow-from : (tables : List (List (ℕ × ℕ))) (c : Conjunct) (ms : List Mapping) (k : Mapping) → Contains (grow tables ms c) k → IsGrown tables c ms k
grow-from tables c ms k has =
    let pairs = table_in tables c.term in
    let one = Contains-from_flat_map (grown c.src c.trg pairs) ms k has in
    let two = Contains-from_flat_map (if_fits c.src c.trg one.0) pairs k one.2 in
    let it = picked_mapping (fits_pair c.src c.trg one.0 two.0) (with_pair c.src c.trg one.0 two.0) k two.2 in
    record { from = one.0; begun = one.1; pair = two.0; among = two.1; fit = it.0; is = it.1 }

record IsFound (tables : List (List (ℕ × ℕ))) (cs : List Conjunct) (ms : List Mapping) (k : Mapping) : Type 0 where
  from : Mapping
  begun : Contains ms from
  keeps : (p : ℕ × ℕ) → Contains from p → Contains k p
  true_for : AllByRecursion (IsAmong tables (assigned k)) cs

sound : (tables : List (List (ℕ × ℕ))) (cs : List Conjunct) (ms : List Mapping) → ((m : Mapping) → Contains ms m → OneEach m) → (k : Mapping)
    → Contains (fold (grow tables) ms cs) k → OneEach k × IsFound tables cs ms k
sound tables [] ms each k has = (each k has, record { from = k; begun = has; keeps = λ p is. is; true_for = tt })
sound tables (c ∷ cs) ms each k has =
    let grown_each : (m : Mapping) → Contains (grow tables ms c) m → OneEach m =
    λ m in_grown. let g = grow-from tables c ms m in_grown in subst OneEach g.is (pair-more c.src c.trg g.from g.pair (each g.from g.begun) g.fit) in
    let later = sound tables cs (grow tables ms c) grown_each k has in
    let g = grow-from tables c ms later.1.from later.1.begun in
    let keeps_pair : (p : ℕ × ℕ) → Contains (with_pair c.src c.trg g.from g.pair) p → Contains k p = λ p is. later.1.keeps p (subst (λ m. Contains m p) g.is is) in
    let src_in : Contains k (c.src, g.pair.0) = keeps_pair (c.src, g.pair.0) (first-in c.src c.trg g.from g.pair) in
    let trg_in : Contains k (c.trg, g.pair.1) = keeps_pair (c.trg, g.pair.1) (second-in c.src c.trg g.from g.pair) in
    let src_is : g.pair.0 ≡ assigned k c.src = later.0 c.src g.pair.0 (assigned k c.src) src_in (assigned-among k c.src g.pair.0 src_in) in
    let trg_is : g.pair.1 ≡ assigned k c.trg = later.0 c.trg g.pair.1 (assigned k c.trg) trg_in (assigned-among k c.trg g.pair.1 trg_in) in (
      later.0,
      record {
        from = g.from;
        begun = g.begun;
        keeps = λ p is. keeps_pair p (before-in c.src c.trg g.from g.pair p is);
        true_for = (subst (Contains (table_in tables c.term)) (λ i. (src_is i, trg_is i)) g.among, later.1.true_for);
      },
    )

-- ---- each assignment has a mapping

abbrev Follows : (ℕ → ℕ) → Mapping → Type 0
Follows number m = (p : ℕ × ℕ) → Contains m p → p.1 ≡ number p.0

fits-follows : (number : ℕ → ℕ) (m : Mapping) (v : ℕ) → Follows number m → fits m v (number v) ≡ true
fits-follows number m v follows = list_all-from_members (agrees v (number v)) m (λ p has. agrees-has v (number v) p (λ same. follows p has ∙ ap number same))

record IsReached (number : ℕ → ℕ) (cs : List Conjunct) (m : Mapping) (all : List Mapping) : Type 0 where
  mapping : Mapping
  among : Contains all mapping
  keeps : (p : ℕ × ℕ) → Contains m p → Contains mapping p
  follows : Follows number mapping
  has : (c : Conjunct) → Contains cs c → Contains mapping (c.src, number c.src) × Contains mapping (c.trg, number c.trg)

complete : (tables : List (List (ℕ × ℕ))) (number : ℕ → ℕ) (cs : List Conjunct) (ms : List Mapping) (m : Mapping) → Contains ms m → Follows number m
    → AllByRecursion (IsAmong tables number) cs → IsReached number cs m (fold (grow tables) ms cs)
complete tables number [] ms m has follows true_for = record { mapping = m; among = has; keeps = λ p is. is; follows = follows; has = λ c none. absurd (Contains-none c none) }
complete tables number (c ∷ cs) ms m has follows true_for =
    let pair : ℕ × ℕ = (number c.src, number c.trg) in
    let k : Mapping = with_pair c.src c.trg m pair in
    let fit : fits_pair c.src c.trg m pair ≡ true =
    and_from (fits m c.src pair.0) _ (fits-follows number m c.src follows)
    (and_from (fits m c.trg pair.1) _ (fits-follows number m c.trg follows) (agrees-has c.trg pair.1 (c.src, pair.0) (λ same. ap number same))) in
    let in_grown : Contains (grow tables ms c) k =
    Contains-flat_map (grown c.src c.trg (table_in tables c.term)) ms m k has
    (Contains-flat_map (if_fits c.src c.trg m) (table_in tables c.term) pair k true_for.0 (picks_mapping (fits_pair c.src c.trg m pair) k fit)) in
    let k_follows : Follows number k =
    λ q is. elim (pair-cases c.src c.trg m pair q is) [
      | inl before ↦ follows q before
      | inr new ↦ elim new [ inl src ↦ subst (λ q. q.1 ≡ number q.0) src refl | inr trg ↦ subst (λ q. q.1 ≡ number q.0) trg refl ]
    ] in
    let later = complete tables number cs (grow tables ms c) k in_grown k_follows true_for.1 in
    record {
      mapping = later.mapping;
      among = later.among;
      keeps = λ p is. later.keeps p (before-in c.src c.trg m pair p is);
      follows = later.follows;
      has = λ d is. elim (Contains-cases c d cs is) [
        | inl same ↦ subst (λ d. Contains later.mapping (d.src, number d.src) × Contains later.mapping (d.trg, number d.trg)) same (
          later.keeps (c.src, pair.0) (first-in c.src c.trg m pair),
          later.keeps (c.trg, pair.1) (second-in c.src c.trg m pair),
        )
        | inr more ↦ later.has d more
      ];
    }

-- ---- rows

-- some conjunct begins or ends at the variable
abbrev pub occurs_in : List Conjunct → ℕ → Bool
occurs_in cs v = list_any (λ c. (c.src == v) || (c.trg == v)) cs

follows_is : (number : ℕ → ℕ) (m : Mapping) (v : ℕ) → Follows number m → Contains m (v, number v) → assigned m v ≡ number v
follows_is number m v follows has = follows (v, assigned m v) (assigned-among m v (number v) has)

heads_same : (number : ℕ → ℕ) (cs : List Conjunct) (m : Mapping) → Follows number m
    → ((c : Conjunct) → Contains cs c → Contains m (c.src, number c.src) × Contains m (c.trg, number c.trg))
    → (heads : List ℕ) → list_all (occurs_in cs) heads ≡ true → map number heads ≡ map (assigned m) heads
heads_same number cs m follows has [] occur = refl
heads_same number cs m follows has (v ∷ heads) occur =
    let parts = and_parts (occurs_in cs v) (list_all (occurs_in cs) heads) occur in
    let found = Contains-list_any (λ c. (c.src == v) || (c.trg == v)) cs parts.0 in
    let both = has found.0 found.1 in
    let among : Contains m (v, number v) =
    elim (or_cases (found.0.src == v) (found.0.trg == v) found.2) [
      | inl src ↦ subst (λ x. Contains m (x, number x)) (eqb-true found.0.src v src) both.0
      | inr trg ↦ subst (λ x. Contains m (x, number x)) (eqb-true found.0.trg v trg) both.1
    ] in
    λ i. sym (follows_is number m v follows among) i ∷ heads_same number cs m follows has heads parts.1 i

-- the rows of the mappings are those of the assignments
pub joined_rows : (tables : List (List (ℕ × ℕ))) (cs : List Conjunct) (heads : List ℕ) → list_all (occurs_in cs) heads ≡ true → (row : List ℕ)
    → Contains (map (λ m. map (assigned m) heads) (mappings tables cs)) row ↔ ((number : ℕ → ℕ) × AllByRecursion (IsAmong tables number) cs × (row ≡ map number heads))
joined_rows tables cs heads occur row = (
  λ has. let found = Contains-from_map (λ m. map (assigned m) heads) (mappings tables cs) row has in
      let s = sound tables cs ([] ∷ []) (λ m in_one. elim (Contains-cases [] m [] in_one) [
        | inl same ↦ subst OneEach same (λ v a b one other. absurd (Contains-none (v, a) one))
        | inr none ↦ absurd (Contains-none m none)
      ]) found.0 found.1 in
      (assigned found.0, s.1.true_for, sym found.2),
  λ some. let r = complete tables some.0 cs ([] ∷ []) [] (Contains-first [] []) (λ p none. absurd (Contains-none p none)) some.1 in
      subst (Contains (map (λ m. map (assigned m) heads) (mappings tables cs)))
      (sym (some.2 ∙ heads_same some.0 cs r.mapping r.follows r.has heads occur))
      (Contains-map (λ m. map (assigned m) heads) (mappings tables cs) r.mapping r.among),
)

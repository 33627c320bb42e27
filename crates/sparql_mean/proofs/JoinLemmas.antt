-- Growing mappings by the pairs of patterns gives exactly the solutions of a group.
use Rattle.std.proofs.Common.{◌≡◌, ◌+◌, ◌⊎◌, ◌↔◌, inl, inr, ℕ, Bool, true, false, not, ◌==◌, ◌&&◌, if◌then◌else◌, Option, Some, None, unwrap_or, List, [], ◌∷◌, ◌++◌, fold, length, take, drop, bytes_eq, refl, sym, ap, subst, ◌∙◌}
use Rattle.std.specs.List.{Contains, flat_map}
use Rattle.std.specs.Option.{option_to_list}
use Rattle.std.proofs.lemmas.Bool.{and_parts, and_from, or_cases, or_left, or_right, eqb-true, eq-eqb, cases_Bool, both_ways}
use Rattle.std.proofs.lemmas.List.{drop-drop}
use Rattle.std.proofs.lemmas.Slice.Eq.{bytes_eq-Decides}
use Rattle.gm_text.specs.declared.lists.Span.{Span}
use Rattle.graph_text.specs.declared.graphs.Triple.{Triple}
use Rattle.graph_text.proofs.MemberLemmas.{Contains-first, Contains-later, Contains-cases, Contains-none, Contains-append_left, Contains-append_right, Contains-append_cases, Contains-flat_map, Contains-from_flat_map, list_all-member, list_all-from_members}
use Rattle.node_tables.specs.Tables.{AreNodes, table_in}
use Rattle.sparql_read.specs.Grammar.{Pattern, Asked}
use Rattle.sparql_read.specs.Layout.{Entry, Lists, flat, spans, entries, all_nodes, laid_out}
use Rattle.sparql_mean.specs.Mappings.{Mapping, IsMapping, AreCompatible, IsJoin, AreValues}
use Rattle.sparql_mean.specs.Rows.{IsSolution, IsGroupSolution, IsSparqlRow}
use Rattle.sparql_mean.specs.Joins.{agrees, fits, fits_pair, with_pair, if_fits, grown, grow, mappings, value, before, values, row_of, group_rows, rows_of}
use Rattle.sparql_mean.specs.Tables.{tables_of}
use Rattle.sparql_mean.proofs.PathLemmas.{AreFor, tables_say}

some_same : {X : Type 0} (x y : X) → Some x ≡ Some y → x ≡ y
some_same x y same = ap (λ o. unwrap_or o x) same

-- ---- solutions give each variable one number

abbrev pub two : List ℕ → List ℕ → ℕ → ℕ → Mapping
two u v a b = (u, a) ∷ (v, b) ∷ []

abbrev pub IsFirst : List ℕ → ℕ → List ℕ → ℕ → Type 0
IsFirst u a x n = (u ≡ x) × (a ≡ n)

pub two-cases : (u v x : List ℕ) (a b n : ℕ) → Contains (two u v a b) (x, n) → IsFirst u a x n ⊎ IsFirst v b x n
two-cases u v x a b n has =
    elim (Contains-cases (u, a) (x, n) ((v, b) ∷ []) has) [
      | inl same ↦ inl (ap (λ e. e.0) same, ap (λ e. e.1) same)
      | inr later ↦ elim (Contains-cases (v, b) (x, n) [] later) [ inl same ↦ inr (ap (λ e. e.0) same, ap (λ e. e.1) same) | inr none ↦ absurd (Contains-none (x, n) none) ]
    ]

two-is_mapping : (u v : List ℕ) (a b : ℕ) → (u ≡ v → a ≡ b) → IsMapping (two u v a b)
two-is_mapping u v a b same x n m one other =
    elim (two-cases u v x a b n one) [
      | inl n_is ↦ elim (two-cases u v x a b m other) [ inl m_is ↦ sym n_is.1 ∙ m_is.1 | inr m_is ↦ sym n_is.1 ∙ (same (n_is.0 ∙ sym m_is.0) ∙ m_is.1) ]
      | inr n_is ↦ elim (two-cases u v x a b m other) [ inl m_is ↦ sym n_is.1 ∙ (sym (same (m_is.0 ∙ sym n_is.0)) ∙ m_is.1) | inr m_is ↦ sym n_is.1 ∙ m_is.1 ]
    ]

join-is_mapping : (m k r : Mapping) → IsMapping m → IsMapping k → AreCompatible m k → IsJoin m k r → IsMapping r
join-is_mapping m k r is_m is_k agree join x a b one other =
    elim ((join (x, a)).0 one) [
      | inl a_in ↦ elim ((join (x, b)).0 other) [ inl b_in ↦ is_m x a b a_in b_in | inr b_in ↦ agree x a b a_in b_in ]
      | inr a_in ↦ elim ((join (x, b)).0 other) [ inl b_in ↦ sym (agree x b a b_in a_in) | inr b_in ↦ is_k x a b a_in b_in ]
    ]

solution-is_mapping : (names : List (List ℕ)) (graph : List Triple) (p : Pattern) (m : Mapping) → IsSolution names graph p m → IsMapping m
solution-is_mapping names graph p m sol = subst IsMapping (sym sol.entries) (two-is_mapping p.subject p.object sol.first sol.second sol.same)

pub solutions-are_mappings : (names : List (List ℕ)) (graph : List Triple) (ps : List Pattern) (m : Mapping) → IsGroupSolution names graph ps m → IsMapping m
solutions-are_mappings names graph [] m is = subst IsMapping (sym is) (λ x a b one other. absurd (Contains-none (x, a) one))
solutions-are_mappings names graph (p ∷ ps) r s =
    join-is_mapping s.0 s.1 r (solution-is_mapping names graph p s.0 s.2) (solutions-are_mappings names graph ps s.1 s.3) s.4 s.5

-- ---- a pair that fits

agrees-is : (x : List ℕ) (a b : ℕ) → agrees x a (x, b) ≡ true → b ≡ a
agrees-is x a b is =
    elim (or_cases (not (bytes_eq x x)) (b == a) is) [
      | inl other ↦ let same : bytes_eq x x ≡ true = (bytes_eq-Decides x x).1 refl in absurd (both_ways (not (bytes_eq x x)) (ap not same) other)
      | inr number ↦ eqb-true b a number
    ]

agrees-has : (x : List ℕ) (a : ℕ) (e : List ℕ × ℕ) → (e.0 ≡ x → e.1 ≡ a) → agrees x a e ≡ true
agrees-has x a e same =
    elim (cases_Bool (bytes_eq e.0 x)) [
      | inl is ↦ or_right (not (bytes_eq e.0 x)) (e.1 == a) (eq-eqb e.1 a (same ((bytes_eq-Decides e.0 x).0 is)))
      | inr other ↦ or_left (not (bytes_eq e.0 x)) (e.1 == a) (ap not other)
    ]

fits-is : (m : Mapping) (x : List ℕ) (a b : ℕ) → fits m x a ≡ true → Contains m (x, b) → b ≡ a
fits-is m x a b fit has = agrees-is x a b (list_all-member (agrees x a) m fit (x, b) has)

fits-has : (m : Mapping) (x : List ℕ) (a : ℕ) → ((b : ℕ) → Contains m (x, b) → b ≡ a) → fits m x a ≡ true
fits-has m x a each =
    list_all-from_members (agrees x a) m (λ e has. agrees-has x a e (λ same. each e.1 (subst (λ y. Contains m (y, e.1)) same has)))

record FitsPair (u v : List ℕ) (m : Mapping) (a b : ℕ) : Type 0 where
  same : u ≡ v → a ≡ b
  agree : AreCompatible m (two u v a b)

fits_pair-is : (u v : List ℕ) (m : Mapping) (a b : ℕ) → fits_pair u v m (a, b) ≡ true → FitsPair u v m a b
fits_pair-is u v m a b is =
    let parts = and_parts (fits m u a) (fits m v b && agrees v b (u, a)) is in
    let later = and_parts (fits m v b) (agrees v b (u, a)) parts.1 in
    record {
      same = λ one. agrees-is v b a (subst (λ x. agrees v b (x, a) ≡ true) one later.1);
      agree = λ x n k in_m in_two. elim (two-cases u v x a b k in_two) [
        | inl first ↦ fits-is m u a n parts.0 (subst (λ y. Contains m (y, n)) (sym first.0) in_m) ∙ first.1
        | inr second ↦ fits-is m v b n later.0 (subst (λ y. Contains m (y, n)) (sym second.0) in_m) ∙ second.1
      ];
    }

in-first : (u v : List ℕ) (a b : ℕ) → Contains (two u v a b) (u, a)
in-first u v a b = Contains-first (u, a) ((v, b) ∷ [])

in-second : (u v : List ℕ) (a b : ℕ) → Contains (two u v a b) (v, b)
in-second u v a b = Contains-later (u, a) (v, b) ((v, b) ∷ []) (Contains-first (v, b) [])

fits_pair-has : (u v : List ℕ) (m : Mapping) (a b : ℕ) → FitsPair u v m a b → fits_pair u v m (a, b) ≡ true
fits_pair-has u v m a b is =
    and_from (fits m u a) _ (fits-has m u a (λ n has. is.agree u n a has (in-first u v a b)))
    (and_from (fits m v b) _ (fits-has m v b (λ n has. is.agree v n b has (in-second u v a b))) (agrees-has v b (u, a) is.same))

-- ---- the mappings of a step more

record IsGrown (tables : List (List (ℕ × ℕ))) (e : Entry) (ms : List Mapping) (k : Mapping) : Type 0 where
  from : Mapping
  begun : Contains ms from
  pair : ℕ × ℕ
  among : Contains (table_in tables e.path) pair
  fit : fits_pair e.subject e.object from pair ≡ true
  is : with_pair e.subject e.object from pair ≡ k

picked : (t : Bool) (m k : Mapping) → Contains (if t then m ∷ [] else []) k → (t ≡ true) × (m ≡ k)
picked true m k has = (refl, elim (Contains-cases m k [] has) [ inl same ↦ same | inr none ↦ absurd (Contains-none k none) ])
picked false m k has = absurd (Contains-none k has)

picks : (t : Bool) (m : Mapping) → t ≡ true → Contains (if t then m ∷ [] else []) m
picks true m passes = Contains-first m []
picks false m passes = cc

grow-from : (tables : List (List (ℕ × ℕ))) (e : Entry) (ms : List Mapping) (k : Mapping) → Contains (grow tables ms e) k → IsGrown tables e ms k
grow-from tables e ms k has =
    let pairs = table_in tables e.path in
    let one = Contains-from_flat_map (grown e.subject e.object pairs) ms k has in
    let pair = Contains-from_flat_map (if_fits e.subject e.object one.0) pairs k one.2 in
    let it = picked (fits_pair e.subject e.object one.0 pair.0) (with_pair e.subject e.object one.0 pair.0) k pair.2 in
    record { from = one.0; begun = one.1; pair = pair.0; among = pair.1; fit = it.0; is = it.1 }

-- ---- joins

pub join-append : (m k : Mapping) → IsJoin m k (m ++ k)
join-append m k e = (λ has. Contains-append_cases m k e has, λ h. elim h [ inl one ↦ Contains-append_left m k e one | inr other ↦ Contains-append_right m k e other ])

-- a join with a join
join-join : (m k s r all : Mapping) → IsJoin k s r → IsJoin (m ++ k) s all → IsJoin m r all
join-join m k s r all inner outer e = (
  λ has. elim ((outer e).0 has) [
    | inl front ↦ elim (Contains-append_cases m k e front) [ inl one ↦ inl one | inr mid ↦ inr ((inner e).1 (inl mid)) ]
    | inr last ↦ inr ((inner e).1 (inr last))
  ],
  λ h. (outer e).1 (elim h [
    | inl one ↦ inl (Contains-append_left m k e one)
    | inr more ↦ elim ((inner e).0 more) [ inl mid ↦ inl (Contains-append_right m k e mid) | inr last ↦ inr last ]
  ]),
)

module _ (names : List (List ℕ)) (graph : List Triple) (tables : List (List (ℕ × ℕ))) where
  -- ---- each mapping is a solution

  record IsFound (ps : List Pattern) (ms : List Mapping) (k : Mapping) : Type 0 where
    from : Mapping
    begun : Contains ms from
    more : Mapping
    solution : IsGroupSolution names graph ps more
    agree : AreCompatible from more
    join : IsJoin from more k

  sound : (es : List Entry) (ps : List Pattern) → AreFor names graph tables es ps → (ms : List Mapping) (k : Mapping) → Contains (fold (grow tables) ms es) k → IsFound ps ms k
  sound [] [] are ms k has = record {
    from = k;
    begun = has;
    more = [];
    solution = refl;
    agree = λ x a b one other. absurd (Contains-none (x, b) other);
    join = λ e. (λ is. inl is, λ h. elim h [ inl is ↦ is | inr none ↦ absurd (Contains-none e none) ]);
  }
  sound [] (p ∷ ps) are ms k has = absurd are
  sound (e ∷ es) [] are ms k has = absurd are
  sound (e ∷ es) (p ∷ ps) are ms k has =
      let later : IsFound ps (grow tables ms e) k = sound es ps are.1 (grow tables ms e) k has in
      let g : IsGrown tables e ms later.from = grow-from tables e ms later.from later.begun in
      let a : ℕ = g.pair.0 in
      let b : ℕ = g.pair.1 in
      let ends : Mapping = two e.subject e.object a b in
      let fit : FitsPair e.subject e.object g.from a b = fits_pair-is e.subject e.object g.from a b g.fit in
      let agree_all : AreCompatible (g.from ++ ends) later.more = subst (λ m. AreCompatible m later.more) (sym g.is) later.agree in
      let agree_ends : AreCompatible ends later.more = λ x n m one other. agree_all x n m (Contains-append_right g.from ends (x, n) one) other in
      let solves : IsSolution names graph p ends = record {
        first = a;
        second = b;
        pair = (are.0.pairs a b).0 g.among;
        same = λ one. fit.same (are.0.subject ∙ (one ∙ sym are.0.object));
        entries = λ i. (are.0.subject i, a) ∷ (are.0.object i, b) ∷ [];
      } in
      record {
        from = g.from;
        begun = g.begun;
        more = ends ++ later.more;
        solution = (ends, later.more, solves, later.solution, agree_ends, join-append ends later.more);
        agree = λ x n m one other. elim (Contains-append_cases ends later.more (x, m) other) [
          | inl mid ↦ fit.agree x n m one mid
          | inr last ↦ agree_all x n m (Contains-append_left g.from ends (x, n) one) last
        ];
        join = join-join g.from ends later.more (ends ++ later.more) k (join-append ends later.more) (subst (λ m. IsJoin m later.more k) (sym g.is) later.join);
      }

  -- ---- each solution is among the mappings

  record IsReached (m more : Mapping) (all : List Mapping) : Type 0 where
    mapping : Mapping
    among : Contains all mapping
    join : IsJoin m more mapping

  complete : (es : List Entry) (ps : List Pattern) → AreFor names graph tables es ps → (ms : List Mapping) (m more : Mapping) → Contains ms m
      → IsGroupSolution names graph ps more → AreCompatible m more → IsReached m more (fold (grow tables) ms es)
  complete [] [] are ms m more has is agree = record {
    mapping = m;
    among = has;
    join = subst (λ s. IsJoin m s m) (sym is) (λ e. (λ one. inl one, λ h. elim h [ inl one ↦ one | inr none ↦ absurd (Contains-none e none) ]));
  }
  complete [] (p ∷ ps) are ms m more has is agree = absurd are
  complete (e ∷ es) [] are ms m more has is agree = absurd are
  complete (e ∷ es) (p ∷ ps) are ms m more has is agree =
      let solves : IsSolution names graph p is.0 = is.2 in
      let a : ℕ = solves.first in
      let b : ℕ = solves.second in
      let ends : Mapping = two e.subject e.object a b in
      let ends_are : is.0 ≡ ends = solves.entries ∙ (λ i. (sym are.0.subject i, a) ∷ (sym are.0.object i, b) ∷ []) in
      let join : IsJoin ends is.1 more = subst (λ k. IsJoin k is.1 more) ends_are is.5 in
      let fit : FitsPair e.subject e.object m a b = record {
        same = λ one. solves.same (sym are.0.subject ∙ (one ∙ are.0.object));
        agree = λ x n k one mid. agree x n k one ((join (x, k)).1 (inl mid));
      } in
      let begun : Contains (grow tables ms e) (m ++ ends) =
      Contains-flat_map (grown e.subject e.object (table_in tables e.path)) ms m (m ++ ends) has
      (Contains-flat_map (if_fits e.subject e.object m) (table_in tables e.path) (a, b) (m ++ ends) ((are.0.pairs a b).1 solves.pair)
      (picks (fits_pair e.subject e.object m (a, b)) (m ++ ends) (fits_pair-has e.subject e.object m a b fit))) in
      let agree_ends : AreCompatible ends is.1 = subst (λ k. AreCompatible k is.1) ends_are is.4 in
      let later : IsReached (m ++ ends) is.1 (fold (grow tables) (grow tables ms e) es) =
      complete es ps are.1 (grow tables ms e) (m ++ ends) is.1 begun is.3
      (λ x n k front last. elim (Contains-append_cases m ends (x, n) front) [
        | inl one ↦ agree x n k one ((join (x, k)).1 (inr last))
        | inr mid ↦ agree_ends x n k mid last
      ]) in
      record { mapping = later.mapping; among = later.among; join = join-join m ends is.1 more later.mapping join later.join }

-- ---- the numbers of variables

value-is : (m : Mapping) (x : List ℕ) (n : ℕ) → value m x ≡ Some n → Contains m (x, n)
unfolding value
value-is [] x n is = cc
value-is (e ∷ m) x n is =
    go (value-is m x n) (bytes_eq e.0 x) refl is
  where
    go : (value m x ≡ Some n → Contains m (x, n)) → (t : Bool) → bytes_eq e.0 x ≡ t → (if t then Some e.1 else value m x) ≡ Some n → Contains (e ∷ m) (x, n)
    go later true same at =
        let name = (bytes_eq-Decides e.0 x).0 same in
        let number : e.1 ≡ n = some_same e.1 n at in
        subst (Contains (e ∷ m)) (λ i. (name i, number i)) (Contains-first e m)
    go later false other at = Contains-later e (x, n) m (later at)

value-has : (m : Mapping) (x : List ℕ) (n : ℕ) → Contains m (x, n) → (k : ℕ) × (value m x ≡ Some k)
unfolding value
value-has [] x n has = absurd (Contains-none (x, n) has)
value-has (e ∷ m) x n has =
    go (value-has m x n) (bytes_eq e.0 x) refl
  where
    go : (Contains m (x, n) → (k : ℕ) × (value m x ≡ Some k)) → (t : Bool) → bytes_eq e.0 x ≡ t → (k : ℕ) × ((if t then Some e.1 else value m x) ≡ Some k)
    go rest true same = (e.1, refl)
    go rest false other =
        elim (Contains-cases e (x, n) m has) [
          | inl same ↦ absurd (both_ways (bytes_eq e.0 x) other ((bytes_eq-Decides e.0 x).1 (ap (λ d. d.0) same)))
          | inr later ↦ rest later
        ]

pub value-one : (m : Mapping) (x : List ℕ) (n : ℕ) → IsMapping m → Contains m (x, n) → value m x ≡ Some n
value-one m x n is has = let found = value-has m x n has in found.1 ∙ ap (λ k. Some k) (is x found.0 n (value-is m x found.0 found.1) has)

before-parts : (o : Option ℕ) (ns : Option (List ℕ)) (row : List ℕ) → before o ns ≡ Some row → (n : ℕ) × (rest : List ℕ) × (o ≡ Some n) × (ns ≡ Some rest) × (row ≡ n ∷ rest)
before-parts None None row is = cc
before-parts None (Some rest) row is = cc
before-parts (Some n) None row is = cc
before-parts (Some n) (Some rest) row is = (n, rest, refl, refl, some_same row (n ∷ rest) (sym is))

values-are : (m : Mapping) (xs : List (List ℕ)) (row : List ℕ) → values m xs ≡ Some row → AreValues m xs row
values-are m [] row is = subst (AreValues m []) (some_same [] row is) tt
values-are m (x ∷ xs) row is =
    let it = before-parts (value m x) (values m xs) row is in
    subst (AreValues m (x ∷ xs)) (sym it.4) (value-is m x it.0 it.2, values-are m xs it.1 it.3)

values-have : (m : Mapping) (xs : List (List ℕ)) (row : List ℕ) → IsMapping m → AreValues m xs row → values m xs ≡ Some row
values-have m [] [] is all = refl
values-have m [] (n ∷ row) is all = absurd all
values-have m (x ∷ xs) [] is all = absurd all
values-have m (x ∷ xs) (n ∷ row) is all =
    ap (λ o. before o (values m xs)) (value-one m x n is all.0) ∙ ap (before (Some n)) (values-have m xs row is all.1)

values-among : (m k : Mapping) → ((e : List ℕ × ℕ) → Contains m e → Contains k e) → (xs : List (List ℕ)) (row : List ℕ) → AreValues m xs row → AreValues k xs row
values-among m k within [] [] all = tt
values-among m k within [] (n ∷ row) all = absurd all
values-among m k within (x ∷ xs) [] all = absurd all
values-among m k within (x ∷ xs) (n ∷ row) all = (within (x, n) all.0, values-among m k within xs row all.1)

-- ---- rows

list-from : {X : Type 0} (o : Option X) (x : X) → Contains (option_to_list o) x → o ≡ Some x
list-from None x has = absurd (Contains-none x has)
list-from (Some y) x has = elim (Contains-cases y x [] has) [ inl same ↦ ap (λ z. Some z) same | inr none ↦ absurd (Contains-none x none) ]

list-of : {X : Type 0} (o : Option X) (x : X) → o ≡ Some x → Contains (option_to_list o) x
list-of o x is = subst (λ p. Contains (option_to_list p) x) (sym is) (Contains-first x [])

module _ (names : List (List ℕ)) (graph : List Triple) (tables : List (List (ℕ × ℕ))) (heads : List (List ℕ)) where
  abbrev IsGroupRow : List Pattern → List ℕ → Type 0
  IsGroupRow ps row = (m : Mapping) × IsGroupSolution names graph ps m × AreValues m heads row

  no-mapping : (s k : Mapping) → IsJoin [] s k → (e : List ℕ × ℕ) → Contains k e ↔ Contains s e
  no-mapping s k join e = (
    λ has. elim ((join e).0 has) [ inl none ↦ absurd (Contains-none e none) | inr is ↦ is ],
    λ has. (join e).1 (inr has),
  )

  group_says : (es : List Entry) (ps : List Pattern) → AreFor names graph tables es ps → (row : List ℕ)
      → Contains (flat_map (row_of heads) (mappings tables es)) row ↔ IsGroupRow ps row
  group_says es ps are row = (
    λ has. let one = Contains-from_flat_map (row_of heads) (mappings tables es) row has in
        let found : IsFound names graph tables ps ([] ∷ []) one.0 = sound names graph tables es ps are ([] ∷ []) one.0 one.1 in
        let from_none : [] ≡ found.from = elim (Contains-cases [] found.from [] found.begun) [ inl same ↦ same | inr none ↦ absurd (Contains-none found.from none) ] in
        let join : IsJoin [] found.more one.0 = subst (λ m. IsJoin m found.more one.0) (sym from_none) found.join in
        let is : AreValues one.0 heads row = values-are one.0 heads row (list-from (values one.0 heads) row one.2) in
        (found.more, found.solution, values-among one.0 found.more (λ e. (no-mapping found.more one.0 join e).0) heads row is),
    λ h. let reached : IsReached names graph tables [] h.0 (mappings tables es) =
        complete names graph tables es ps are ([] ∷ []) [] h.0 (Contains-first [] []) h.1 (λ x a b none one. absurd (Contains-none (x, a) none)) in
        let k : Mapping = reached.mapping in
        let same : (e : List ℕ × ℕ) → Contains k e ↔ Contains h.0 e = no-mapping h.0 k reached.join in
        let is_mapping : IsMapping k = λ x a b one other. solutions-are_mappings names graph ps h.0 h.1 x a b ((same (x, a)).0 one) ((same (x, b)).0 other) in
        Contains-flat_map (row_of heads) (mappings tables es) k row reached.among
        (list-of (values k heads) row (values-have k heads row is_mapping (values-among h.0 k (λ e. (same e).1) heads row h.2))),
  )

  split : (g rest : List Pattern) (es : List Entry) → AreFor names graph tables es (g ++ rest)
      → AreFor names graph tables (take (length g) es) g × AreFor names graph tables (drop (length g) es) rest
  split [] rest es are = (tt, are)
  split (p ∷ g) rest [] are = absurd are
  split (p ∷ g) rest (e ∷ es) are = let later = split g rest es are.1 in ((are.0, later.0), later.1)

  groups_say : (gs : List (List Pattern)) (n : ℕ) (es : List Entry) → AreFor names graph tables (drop n es) (flat gs) → (row : List ℕ)
      → Contains (flat_map (group_rows tables heads es) (spans n gs)) row ↔ ((g : List Pattern) × Contains gs g × IsGroupRow g row)
  groups_say [] n es are row = (λ has. absurd (Contains-none row has), λ some. absurd (Contains-none some.0 some.1))
  groups_say (g ∷ gs) n es are row =
      let parts = split g (flat gs) (drop n es) are in
      let first = group_says (take (length g) (drop n es)) g parts.0 row in
      let others = groups_say gs (n + length g) es (subst (λ xs. AreFor names graph tables xs (flat gs)) (drop-drop (length g) n es) parts.1) row in
      let one : Span = record { first = n; count = length g } in (
        λ has. elim (Contains-append_cases (group_rows tables heads es one) (flat_map (group_rows tables heads es) (spans (n + length g) gs)) row has) [
          | inl here ↦ (g, Contains-first g gs, first.0 here)
          | inr later ↦ let found = others.0 later in (found.0, Contains-later g found.0 gs found.1, found.2)
        ],
        λ some. elim (Contains-cases g some.0 gs some.1) [
          | inl same ↦ Contains-append_left (group_rows tables heads es one) _ row (first.1 (subst (λ ps. IsGroupRow ps row) (sym same) some.2))
          | inr later ↦ Contains-append_right (group_rows tables heads es one) _ row (others.1 (some.0, later, some.2))
        ],
      )

pub rows_say : (names : List (List ℕ)) (graph : List Triple) (tables : List (List (ℕ × ℕ))) (asked : Asked)
    → AreFor names graph tables (entries 0 (flat asked.groups)) (flat asked.groups) → (row : List ℕ)
    → Contains (rows_of tables (laid_out asked)) row ↔ IsSparqlRow names asked graph row
rows_say names graph tables asked are row =
    let say = groups_say names graph tables asked.heads asked.groups 0 (entries 0 (flat asked.groups)) are row in
    (λ has. let found = say.0 has in (found.0, found.1, found.2.0, found.2.1, found.2.2), λ some. say.1 (some.0, some.1, (some.2, some.3, some.4)))

-- the rows of a query's lists, sorted and each kept once
pub query_says : (names : List (List ℕ)) (graph : List Triple) (ns : List ℕ) → AreNodes graph ns → (query : Lists) (tables seen : List (List (ℕ × ℕ))) (asked : Asked)
    (made sorted : List (List ℕ)) → query ≡ laid_out asked → tables ≡ tables_of names graph ns query.paths → seen ≡ tables → made ≡ rows_of seen query → (row : List ℕ)
    → Contains sorted row ↔ Contains made row → Contains sorted row ↔ IsSparqlRow names asked graph row
query_says names graph ns are query tables seen asked made sorted is tables_are same made_are row kept =
    let all : List Pattern = flat asked.groups in
    let is_seen : seen ≡ tables_of names graph ns (all_nodes 0 all) = same ∙ (tables_are ∙ ap (λ q. tables_of names graph ns q.paths) is) in
    let patterns : AreFor names graph seen (entries 0 all) all = subst (λ ts. AreFor names graph ts (entries 0 all) all) (sym is_seen) (tables_say names graph ns are all) in
    let say = rows_say names graph seen asked patterns row in
    let made_is : made ≡ rows_of seen (laid_out asked) = made_are ∙ ap (rows_of seen) is in (
      λ has. say.0 (subst (λ rows. Contains rows row) made_is (kept.0 has)),
      λ some. kept.1 (subst (λ rows. Contains rows row) (sym made_is) (say.1 some)),
    )

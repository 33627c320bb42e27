-- What the text of a query asks has the query's rows: its paths have the pairs of the trees, and the joins of mappings
-- are numbers for the variables of a rule.
use Rattle.std.proofs.Common.{◌≡◌, ◌<◌, ◌≤◌, ◌+◌, ◌↔◌, inl, inr, ℕ, zero, suc, Bool, true, false, not, ◌==◌, ◌&&◌, ◌||◌, nat_lt}
use Rattle.std.proofs.Common.{if◌then◌else◌, Some, unwrap_or, List, [], ◌∷◌, ◌++◌, map, length, slice_get, bytes_eq, refl, sym, ap, subst, ◌∙◌, arith}
use Rattle.std.specs.List.{Contains, list_all, list_any, range_with_len, AllByRecursion}
use Rattle.std.proofs.lemmas.Bool.{and_parts, or_cases, or_parts, eqb-true, eq-eqb, both_ways, cases_lt}
use Rattle.std.proofs.lemmas.Bool.Decides.{nat_tests}
use Rattle.std.proofs.lemmas.List.{get_or_past}
use Rattle.std.proofs.lemmas.Option.{slice_get-get_or}
use Rattle.std.proofs.lemmas.Slice.Eq.{bytes_eq-Decides}
use Rattle.gm_text.specs.Name.{is_name}
use Rattle.graph_text.specs.declared.graphs.Triple.{Triple}
use Rattle.graph_text.proofs.MemberLemmas.{Contains-first, Contains-later, Contains-none, Contains-append_cases, Contains-append_left, Contains-append_right}
use Rattle.graph_text.proofs.MemberLemmas.{Contains-map, Contains-from_map, Contains-flat_map, list_all-member, list_all-from_members}
use Rattle.path_pairs.specs.Trees.{Tree}
use Rattle.path_pairs.specs.Trees.Tree.{Step, Seq, Alt, Star, Opt}
use Rattle.path_pairs.specs.Pairs.{Pairs}
use Rattle.path_pairs.specs.Rounds.{Visited, node_count}
use Rattle.path_pairs.proofs.StarLemmas.{stars_agree}
use Rattle.query_terms.specs.Values.{ConjunctValue, RuleValue, conjuncts_of, occurs, differ, is_rule, is_conjunct, has_heads, arity_built, arity_of, have_heads}
use Rattle.query_terms.specs.Laws.{tree_of_conjunct}
use Rattle.rpq_meaning.specs.QueryRows.{IsTrueFor, IsRuleRow}
use Rattle.sparql_read.specs.Text.{are_different}
use Rattle.sparql_mean.specs.PathRows.{PathPairs}
use Rattle.sparql_mean.specs.Mappings.{Mapping, IsMapping, AreValues}
use Rattle.sparql_mean.specs.Rows.{IsSolution, IsGroupSolution}
use Rattle.sparql_mean.specs.Joins.{value}
use Rattle.sparql_mean.proofs.JoinLemmas.{two, two-cases, join-append, value-one, solutions-are_mappings}
use Rattle.sparql_emit.specs.PathText.{name_of}
use Rattle.sparql_emit.specs.QueryText.{head_name, variable_from, variable_of, head_names}
use Rattle.sparql_emit.specs.Printed.{path_of, pattern_of, group_of}
use Rattle.sparql_emit.specs.Laws.{has_names, conjunct_has_names}
use Rattle.sparql_emit.specs.RowLaws.{has_few_variables, TextKeepsRows}
use Rattle.sparql_emit.proofs.NameLemmas.{variables_differ}

some_same : {X : Type 0} (x y : X) → Some x ≡ Some y → x ≡ y
some_same x y same = ap (λ o. unwrap_or o x) same

below : (n : ℕ) → nat_lt n 256 ≡ true → n < 256
below n is = grind (arith, nat_tests)

at_most : (n : ℕ) → arity_built n ≡ true → n ≤ 4
at_most n is = grind (arith, nat_tests)

-- ---- names of labels

name_there : (names : List (List ℕ)) (label : ℕ) → is_name (name_of names label) ≡ true → slice_get names label ≡ Some (name_of names label)
name_there names label is =
    elim (cases_lt label (length names)) [
      | inl within ↦ slice_get-get_or names label [] within
      | inr past ↦ let none : is_name [] ≡ true = ap is_name (sym (get_or_past names label [] past)) ∙ is in cc
    ]

not_among : (name : List ℕ) (names : List (List ℕ)) (k : ℕ) → list_any (bytes_eq name) names ≡ false → slice_get names k ≡ Some name → ⊥
not_among name [] k none at = cc
not_among name (own ∷ names) zero none at =
    both_ways (bytes_eq name own) (or_parts (bytes_eq name own) (list_any (bytes_eq name) names) none).0 ((bytes_eq-Decides name own).1 (sym (some_same own name at)))
not_among name (own ∷ names) (suc k) none at = not_among name names k (or_parts (bytes_eq name own) (list_any (bytes_eq name) names) none).1 at

is_false : (b : Bool) → not b ≡ true → b ≡ false
is_false true is = cc
is_false false is = refl

-- a name is that of one label
one_label : (names : List (List ℕ)) → are_different names ≡ true → (name : List ℕ) (k l : ℕ) → slice_get names k ≡ Some name → slice_get names l ≡ Some name → k ≡ l
one_label [] all name k l at_k at_l = cc
one_label (own ∷ names) all name zero zero at_k at_l = refl
one_label (own ∷ names) all name zero (suc l) at_k at_l =
    let none = is_false (list_any (bytes_eq own) names) (and_parts (not (list_any (bytes_eq own) names)) (are_different names) all).0 in
    absurd (not_among own names l none (at_l ∙ sym at_k))
one_label (own ∷ names) all name (suc k) zero at_k at_l =
    let none = is_false (list_any (bytes_eq own) names) (and_parts (not (list_any (bytes_eq own) names)) (are_different names) all).0 in
    absurd (not_among own names k none (at_k ∙ sym at_l))
one_label (own ∷ names) all name (suc k) (suc l) at_k at_l =
    ap (λ n. suc n) (one_label names (and_parts (not (list_any (bytes_eq own) names)) (are_different names) all).1 name k l at_k at_l)

-- ---- paths

visited_map : (R S : ℕ → ℕ → Type 0) → ((x y : ℕ) → R x y → S x y) → (k n m : ℕ) → Visited R n k m → Visited S n k m
visited_map R S into zero n m v = v
visited_map R S into (suc k) n m v =
    elim v [ inl before ↦ inl (visited_map R S into k n m before) | inr more ↦ inr (more.0, visited_map R S into k n more.0 more.1, into more.0 m more.2) ]

module _ (names : List (List ℕ)) (different : are_different names ≡ true) (graph : List Triple) where
  abbrev Led : Tree → ℕ → ℕ → Type 0
  Led tree a b = PathPairs names (path_of names tree) graph a b

  step_from : (label a b : ℕ) → is_name (name_of names label) ≡ true → Led (Step label false) a b → Pairs (Step label false) graph a b
  step_from label a b named e = (e.0, e.1, one_label names different (name_of names label) e.0.label label e.2 (name_there names label named), e.3, e.4)

  step_led : (label a b : ℕ) → is_name (name_of names label) ≡ true → Pairs (Step label false) graph a b → Led (Step label false) a b
  step_led label a b named e = (e.0, e.1, ap (slice_get names) e.2 ∙ name_there names label named, e.3, e.4)

  path_from : (tree : Tree) (a b : ℕ) → has_names names tree ≡ true → Led tree a b → Pairs tree graph a b
  path_from (Step label false) a b named h = step_from label a b named h
  path_from (Step label true) a b named h = step_from label b a named h
  path_from (Seq p q) a c named h =
      let parts = and_parts (has_names names p) (has_names names q) named in (h.0, path_from p a h.0 parts.0 h.1, path_from q h.0 c parts.1 h.2)
  path_from (Alt p q) a b named h =
      let parts = and_parts (has_names names p) (has_names names q) named in
      elim h [ inl one ↦ inl (path_from p a b parts.0 one) | inr other ↦ inr (path_from q a b parts.1 other) ]
  path_from (Star p) a b named h =
      (stars_agree p graph a b).visits.1 (h.0, visited_map (Led p) (Pairs p graph) (λ x y r. path_from p x y named r) (node_count graph) a b h.1)
  path_from (Opt p) a b named h = elim h [ inl one ↦ inl (path_from p a b named one) | inr same ↦ inr same ]

  path_led : (tree : Tree) (a b : ℕ) → has_names names tree ≡ true → Pairs tree graph a b → Led tree a b
  path_led (Step label false) a b named h = step_led label a b named h
  path_led (Step label true) a b named h = step_led label b a named h
  path_led (Seq p q) a c named h =
      let parts = and_parts (has_names names p) (has_names names q) named in (h.0, path_led p a h.0 parts.0 h.1, path_led q h.0 c parts.1 h.2)
  path_led (Alt p q) a b named h =
      let parts = and_parts (has_names names p) (has_names names q) named in
      elim h [ inl one ↦ inl (path_led p a b parts.0 one) | inr other ↦ inr (path_led q a b parts.1 other) ]
  path_led (Star p) a b named h =
      let v = (stars_agree p graph a b).visits.0 h in (v.0, visited_map (Pairs p graph) (Led p) (λ x y r. path_led p x y named r) (node_count graph) a b v.1)
  path_led (Opt p) a b named h = elim h [ inl one ↦ inl (path_led p a b named one) | inr same ↦ inr same ]

-- ---- names of variables

-- a head does not change the names of other variables than itself
same_names : (j h : ℕ) (heads vs : List ℕ) → list_any (λ v. h == v) vs ≡ false → map (variable_from j (h ∷ heads)) vs ≡ map (variable_from (j + 1) heads) vs
same_names j h heads [] none = refl
same_names j h heads (v ∷ vs) none =
    let parts = or_parts (h == v) (list_any (λ w. h == w) vs) none in
    let first : variable_from j (h ∷ heads) v ≡ variable_from (j + 1) heads v = ap (λ t. if t then head_name j else variable_from (j + 1) heads v) parts.0 in
    λ i. first i ∷ same_names j h heads vs parts.1 i

heads_named : (j : ℕ) (heads : List ℕ) → differ heads ≡ true → map (variable_from j heads) heads ≡ map head_name (range_with_len j (length heads))
heads_named j [] all = refl
heads_named j (h ∷ heads) all =
    let parts = and_parts (not (list_any (λ m. h == m) heads)) (differ heads) all in
    let first : variable_from j (h ∷ heads) h ≡ head_name j = ap (λ t. if t then head_name j else variable_from (j + 1) heads h) (eq-eqb h h refl) in
    let rest : map (variable_from j (h ∷ heads)) heads ≡ map head_name (range_with_len (j + 1) (length heads)) =
    same_names j h heads heads (is_false (list_any (λ m. h == m) heads) parts.0) ∙ heads_named (j + 1) heads parts.1 in
    λ i. first i ∷ rest i

-- ---- mappings and numbers

abbrev assigned : Mapping → List ℕ → ℕ
assigned m x = unwrap_or (value m x) 0

assigned_is : (m : Mapping) (x : List ℕ) (n : ℕ) → IsMapping m → Contains m (x, n) → assigned m x ≡ n
assigned_is m x n is has = ap (λ o. unwrap_or o 0) (value-one m x n is has)

values_assigned : (m : Mapping) → IsMapping m → (name : ℕ → List ℕ) (vs row : List ℕ) → AreValues m (map name vs) row → row ≡ map (λ v. assigned m (name v)) vs
values_assigned m is name [] [] all = refl
values_assigned m is name [] (n ∷ row) all = absurd all
values_assigned m is name (v ∷ vs) [] all = absurd all
values_assigned m is name (v ∷ vs) (n ∷ row) all =
    let first : n ≡ assigned m (name v) = sym (assigned_is m (name v) n is all.0) in
    λ i. first i ∷ values_assigned m is name vs row all.1 i

values_given : (m : Mapping) (name : ℕ → List ℕ) (number : ℕ → ℕ) (vs : List ℕ) → ((v : ℕ) → Contains vs v → Contains m (name v, number v)) → AreValues m (map name vs) (map number vs)
values_given m name number [] each = tt
values_given m name number (v ∷ vs) each =
    (each v (Contains-first v vs), values_given m name number vs (λ w has. each w (Contains-later v w vs has)))

module _ (names : List (List ℕ)) (different : are_different names ≡ true) (graph : List Triple) (labels heads : List ℕ) where
  -- ---- a solution gives numbers

  holds : (cs : List ConjunctValue) → list_all (conjunct_has_names names labels) cs ≡ true → (m all : Mapping) → IsMapping all
      → IsGroupSolution names graph (map (pattern_of names labels heads) cs) m → ((e : List ℕ × ℕ) → Contains m e → Contains all e)
      → AllByRecursion (IsTrueFor labels graph (λ v. assigned all (variable_of heads v))) cs
  holds [] named m all is s within = tt
  holds (c ∷ cs) named m all is s within =
      let parts = and_parts (conjunct_has_names names labels c) (list_all (conjunct_has_names names labels) cs) named in
      let sol : IsSolution names graph (pattern_of names labels heads c) s.0 = s.2 in
      let u : List ℕ = variable_of heads c.src in
      let v : List ℕ = variable_of heads c.trg in
      let a : ℕ = sol.first in
      let b : ℕ = sol.second in
      let ends : (e : List ℕ × ℕ) → Contains (two u v a b) e → Contains all e = λ e has. within e ((s.5 e).1 (inl (subst (λ k. Contains k e) (sym sol.entries) has))) in
      let src : assigned all u ≡ a = assigned_is all u a is (ends (u, a) (Contains-first (u, a) ((v, b) ∷ []))) in
      let trg : assigned all v ≡ b = assigned_is all v b is (ends (v, b) (Contains-later (u, a) (v, b) ((v, b) ∷ []) (Contains-first (v, b) []))) in
      let pair : Pairs (tree_of_conjunct labels c) graph a b = path_from names different graph (tree_of_conjunct labels c) a b parts.0 sol.pair in (
        subst (λ n. Pairs (tree_of_conjunct labels c) graph (assigned all u) n) (sym trg) (subst (λ n. Pairs (tree_of_conjunct labels c) graph n b) (sym src) pair),
        holds cs parts.1 s.1 all is s.3 (λ e has. within e ((s.5 e).1 (inr has))),
      )

  -- ---- numbers give a solution

  record Given (number : ℕ → ℕ) (cs : List ConjunctValue) : Type 0 where
    mapping : Mapping
    solution : IsGroupSolution names graph (map (pattern_of names labels heads) cs) mapping
    each : (x : List ℕ) (n : ℕ) → Contains mapping (x, n) → (v : ℕ) × (v < 256) × (variable_of heads v ≡ x) × (number v ≡ n)
    has : (v : ℕ) → occurs cs v ≡ true → Contains mapping (variable_of heads v, number v)

  -- a name is that of one variable
  one_variable : length heads ≤ 4 → (v w : ℕ) → v < 256 → w < 256 → variable_of heads v ≡ variable_of heads w → v ≡ w
  one_variable few v w small_v small_w same = variables_differ heads v w (omega (arith, few)) (omega (arith, small_v)) (omega (arith, small_w)) same

  given : length heads ≤ 4 → (number : ℕ → ℕ) (cs : List ConjunctValue) → list_all (conjunct_has_names names labels) cs ≡ true → list_all has_few_variables cs ≡ true
      → AllByRecursion (IsTrueFor labels graph number) cs → Given number cs
  given few number [] named small holds_all = record {
    mapping = [];
    solution = refl;
    each = λ x n has. absurd (Contains-none (x, n) has);
    has = λ v is. cc;
  }
  given few number (c ∷ cs) named small holds_all =
      let parts = and_parts (conjunct_has_names names labels c) (list_all (conjunct_has_names names labels) cs) named in
      let smalls = and_parts (has_few_variables c) (list_all has_few_variables cs) small in
      let both = and_parts (nat_lt c.src 256) (nat_lt c.trg 256) smalls.0 in
      let src_small : c.src < 256 = below c.src both.0 in
      let trg_small : c.trg < 256 = below c.trg both.1 in
      let later : Given number cs = given few number cs parts.1 smalls.1 holds_all.1 in
      let u : List ℕ = variable_of heads c.src in
      let v : List ℕ = variable_of heads c.trg in
      let ends : Mapping = two u v (number c.src) (number c.trg) in
      let ends_each : (x : List ℕ) (n : ℕ) → Contains ends (x, n) → (w : ℕ) × (w < 256) × (variable_of heads w ≡ x) × (number w ≡ n) =
      λ x n has. elim (two-cases u v x (number c.src) (number c.trg) n has) [
        | inl first ↦ (c.src, src_small, first.0, first.1)
        | inr second ↦ (c.trg, trg_small, second.0, second.1)
      ] in
      let sol : IsSolution names graph (pattern_of names labels heads c) ends = record {
        first = number c.src;
        second = number c.trg;
        pair = path_led names different graph (tree_of_conjunct labels c) (number c.src) (number c.trg) parts.0 holds_all.0;
        same = λ one. ap number (one_variable few c.src c.trg src_small trg_small one);
        entries = refl;
      } in
      record {
        mapping = ends ++ later.mapping;
        solution = (
          ends,
          later.mapping,
          sol,
          later.solution,
          λ x a b one other. let p = ends_each x a one in
              let q = later.each x b other in
              sym p.3 ∙ (ap number (one_variable few p.0 q.0 p.1 q.1 (p.2 ∙ sym q.2)) ∙ q.3),
          join-append ends later.mapping,
        );
        each = λ x n has. elim (Contains-append_cases ends later.mapping (x, n) has) [ inl one ↦ ends_each x n one | inr other ↦ later.each x n other ];
        has = λ w is. elim (or_cases ((c.src == w) || (c.trg == w)) (occurs cs w) is) [
          | inl here ↦ Contains-append_left ends later.mapping (variable_of heads w, number w) (elim (or_cases (c.src == w) (c.trg == w) here) [
            | inl at_src ↦ subst (λ y. Contains ends (variable_of heads y, number y)) (eqb-true c.src w at_src) (Contains-first (u, number c.src) ((v, number c.trg) ∷ []))
            | inr at_trg ↦ subst (λ y. Contains ends (variable_of heads y, number y)) (eqb-true c.trg w at_trg)
                (Contains-later (u, number c.src) (v, number c.trg) ((v, number c.trg) ∷ []) (Contains-first (v, number c.trg) []))
          ])
          | inr there ↦ Contains-append_right ends later.mapping (variable_of heads w, number w) (later.has w there)
        ];
      }

  -- ---- the rows of a rule

  rule_says : (cs : List ConjunctValue) → list_all (conjunct_has_names names labels) cs ≡ true → list_all has_few_variables cs ≡ true → length heads ≤ 4 → differ heads ≡ true
      → list_all (occurs cs) heads ≡ true → (row : List ℕ)
      → ((m : Mapping) × IsGroupSolution names graph (map (pattern_of names labels heads) cs) m × AreValues m (head_names (length heads)) row)
      ↔ ((number : ℕ → ℕ) × AllByRecursion (IsTrueFor labels graph number) cs × (row ≡ map number heads))
  rule_says cs named small few apart occur row =
      let heads_are : map (variable_of heads) heads ≡ head_names (length heads) = heads_named 0 heads apart in (
        λ h. let is : IsMapping h.0 = solutions-are_mappings names graph (map (pattern_of names labels heads) cs) h.0 h.1 in (
          λ v. assigned h.0 (variable_of heads v),
          holds cs named h.0 h.0 is h.1 (λ e has. has),
          values_assigned h.0 is (variable_of heads) heads row (subst (λ xs. AreValues h.0 xs row) (sym heads_are) h.2),
        ),
        λ h. let g : Given h.0 cs = given few h.0 cs named small h.1 in (
          g.mapping,
          g.solution,
          subst (λ xs. AreValues g.mapping xs row) heads_are
              (subst (AreValues g.mapping (map (variable_of heads) heads)) (sym h.2)
              (values_given g.mapping (variable_of heads) h.0 heads (λ v has. g.has v (list_all-member (occurs cs) heads occur v has)))),
        ),
      )

-- ---- the rows of a query

all_of_rule : (test : ConjunctValue → Bool) (rules : List RuleValue) (r : RuleValue) → list_all test (conjuncts_of rules) ≡ true → Contains rules r → list_all test r.conjuncts ≡ true
all_of_rule test rules r all has =
    list_all-from_members test r.conjuncts (λ c in_r. list_all-member test (conjuncts_of rules) all c (Contains-flat_map (λ s. s.conjuncts) rules r c has in_r))

pub text_keeps_rows : TextKeepsRows
text_keeps_rows names q fine different small graph row =
    let counted = and_parts (nat_lt 0 (length q.rules) && list_all (is_rule (length q.labels)) q.rules) (have_heads (arity_of q.rules) q.rules) fine.rules_are in
    let each_rule = (and_parts (nat_lt 0 (length q.rules)) (list_all (is_rule (length q.labels)) q.rules) counted.0).1 in
    let says : (r : RuleValue) → Contains q.rules r
    → ((m : Mapping) × IsGroupSolution names graph (group_of names q.labels r) m × AreValues m (head_names (arity_of q.rules)) row) ↔ IsRuleRow q.labels graph r row =
    λ r has.
    let is = list_all-member (is_rule (length q.labels)) q.rules each_rule r has in
    let heads = and_parts (arity_built (length r.heads) && differ r.heads) (list_all (occurs r.conjuncts) r.heads)
    (and_parts (nat_lt 0 (length r.conjuncts) && list_all (is_conjunct (length q.labels)) r.conjuncts) (has_heads r) is).1 in
    let counts = and_parts (arity_built (length r.heads)) (differ r.heads) heads.0 in
    let many : length r.heads ≡ arity_of q.rules =
    eqb-true (length r.heads) (arity_of q.rules) (list_all-member (λ s. length s.heads == arity_of q.rules) q.rules counted.1 r has) in
    let rows = rule_says names different graph q.labels r.heads r.conjuncts (all_of_rule (conjunct_has_names names q.labels) q.rules r fine.labels_have_names has)
    (all_of_rule has_few_variables q.rules r small has) (at_most (length r.heads) counts.0) counts.1 heads.1 row in
    subst (λ n. ((m : Mapping) × IsGroupSolution names graph (group_of names q.labels r) m × AreValues m (head_names n) row) ↔ IsRuleRow q.labels graph r row) many rows in (
      λ h. let found = Contains-from_map (group_of names q.labels) q.rules h.0 h.1 in
          (found.0, found.1, (says found.0 found.1).0 (h.2, subst (λ g. IsGroupSolution names graph g h.2) (sym found.2) h.3, h.4)),
      λ h. let some = (says h.0 h.1).1 h.2 in
          (group_of names q.labels h.0, Contains-map (group_of names q.labels) q.rules h.0 h.1, some.0, some.1, some.2),
    )

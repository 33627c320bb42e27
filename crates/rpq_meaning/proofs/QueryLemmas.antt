-- The conjuncts of a query, whose terms have the trees of their words, and its rows.
use Rattle.std.proofs.Common.{◌≡◌, ◌<◌, ◌-◌, ◌↔◌, inl, inr, ℕ, zero, suc, true, ◌==◌, ◌&&◌, ◌||◌, nat_lt, List, [], ◌∷◌, length, map, take, drop}
use Rattle.std.proofs.Common.{slice_get, Some, option_map, unwrap_or, refl, sym, ap, subst, ◌∙◌, arith}
use Rattle.std.specs.List.{Contains, list_all, AllByRecursion, slice_index_or}
use Rattle.std.proofs.lemmas.Bool.{and_parts, ltb-true}
use Rattle.std.proofs.lemmas.List.{take-map, drop-map, take_all, length-map}
use Rattle.std.proofs.lemmas.Option.{slice_get-get_or, slice_get-map}
use Rattle.std.proofs.lemmas.List.Elements.{Contains-get_or}
use Rattle.std.proofs.lemmas.List.Folds.{flat_map-map}
use Rattle.graph_text.specs.declared.graphs.Triple.{Triple}
use Rattle.graph_text.proofs.MemberLemmas.{Contains-first, Contains-later, Contains-cases, Contains-none, Contains-map, Contains-from_map}
use Rattle.graph_text.proofs.MemberLemmas.{Contains-flat_map, Contains-from_flat_map, list_all-member}
use Rattle.gm_text.specs.declared.lists.Span.{Span}
use Rattle.sel_algebra.specs.declared.vocabulary.Symbol.{Symbol}
use Rattle.query_terms.specs.declared.terms.Term.{Term}
use Rattle.query_terms.specs.declared.terms.Conjunct.{Conjunct}
use Rattle.query_terms.specs.declared.terms.Rule.{Rule}
use Rattle.query_terms.specs.Values.{ConjunctValue, RuleValue, conjuncts_of, is_rule, are_rules, have_heads, has_heads, arity_of, occurs}
use Rattle.query_terms.specs.Lists.{words_in, heads_in, conjunct_in, conjuncts_in, rule_in, rules_in}
use Rattle.query_terms.specs.Spans.{cut, covers}
use Rattle.query_terms.specs.Laws.{tree_of_conjunct}
use Rattle.query_terms.specs.Numbering.{numbering}
use Rattle.query_terms.specs.Trees.{tree_at}
use Rattle.query_terms.proofs.SpanLemmas.{cut-map}
use Rattle.query_terms.proofs.QueryLemmas.{conjuncts_are, conjuncts_keep}
use Rattle.query_terms.proofs.TreeLemmas.{are_numbered}
use Rattle.rpq_meaning.specs.QueryRows.{ArePairs}
use Rattle.node_tables.specs.Tables.{table_in}
use Rattle.rpq_meaning.specs.Tables.{AreTables}
use Rattle.rpq_meaning.specs.QueryRows.{IsTrueFor, IsRuleRow}
use Rattle.rpq_meaning.specs.Joins.{rule_rows, rows_of}
use Rattle.rpq_meaning.proofs.JoinLemmas.{IsAmong, occurs_in, joined_rows}

-- two maps of maps that are the same agree at each member
maps-member : {X Y Z W : Type 0} (f : Y → W) (h : X → Y) (g : Z → W) (k : X → Z) (xs : List X) → map f (map h xs) ≡ map g (map k xs) → (x : X) → Contains xs x → f (h x) ≡ g (k x)
maps-member f h g k [] same x has = absurd (Contains-none x has)
maps-member f h g k (y ∷ xs) same x has =
    elim (Contains-cases y x xs has) [
      | inl is ↦ subst (λ z. f (h z) ≡ g (k z)) is (ap (λ ws. slice_index_or ws 0 (f (h y))) same)
      | inr later ↦ maps-member f h g k xs (ap (drop 1) same) x later
    ]

-- the members of a part are members of the list
drop-member : {X : Type 0} (n : ℕ) (xs : List X) (x : X) → Contains (drop n xs) x → Contains xs x
drop-member zero xs x has = has
drop-member (suc n) [] x has = has
drop-member (suc n) (y ∷ xs) x has = Contains-later y x xs (drop-member n xs x has)

take-member : {X : Type 0} (n : ℕ) (xs : List X) (x : X) → Contains (take n xs) x → Contains xs x
take-member zero xs x has = absurd (Contains-none x has)
take-member (suc n) [] x has = has
take-member (suc n) (y ∷ xs) x has =
    elim (Contains-cases y x (take n xs) has) [
      | inl same ↦ subst (Contains (y ∷ xs)) same (Contains-first y xs)
      | inr later ↦ Contains-later y x xs (take-member n xs x later)
    ]

pub cut-member : {X : Type 0} (xs : List X) (s : Span) (x : X) → Contains (cut xs s) x → Contains xs x
cut-member xs s x has = drop-member s.first xs x (take-member s.count (drop s.first xs) x has)

-- the term of each conjunct is in the store
pub inside_all : (n : ℕ) (conjuncts : List Conjunct) → list_all (λ k. nat_lt k n) (map (λ c. c.term) conjuncts) ≡ true → (c : Conjunct) → Contains conjuncts c → c.term < n
inside_all n conjuncts lie c has =
    ltb-true c.term n (list_all-member (λ k. nat_lt k n) (map (λ c. c.term) conjuncts) lie c.term (Contains-map (λ c. c.term) conjuncts c has))

module _ (labels : List ℕ) (symbols : List Symbol) (words : List Span) (conjuncts : List Conjunct) (rules : List Rule) (terms : List Term)
    (cover : covers 0 (map (λ r. r.conjuncts) rules) (length conjuncts) ≡ true)
    (keep : are_rules (length labels) (rules_in symbols words conjuncts rules) ≡ true)
    (terms_are : terms ≡ (numbering labels (rules_in symbols words conjuncts rules)).terms)
    (numbers_are : map (λ c. c.term) conjuncts ≡ (numbering labels (rules_in symbols words conjuncts rules)).numbers) where
  each_rule : list_all (is_rule (length labels)) (rules_in symbols words conjuncts rules) ≡ true
  each_rule =
      let rs = rules_in symbols words conjuncts rules in
      (and_parts (nat_lt 0 (length rs)) (list_all (is_rule (length labels)) rs) (and_parts _ (have_heads (arity_of rs) rs) keep).0).1

  -- the term of a conjunct has the tree of its words
  pub tree_of_term : (c : Conjunct) → Contains conjuncts c → tree_at terms c.term ≡ tree_of_conjunct labels (conjunct_in (words_in symbols words) c)
  tree_of_term c has =
      let rs = rules_in symbols words conjuncts rules in
      maps-member (tree_at terms) (λ d. d.term) (tree_of_conjunct labels) (conjunct_in (words_in symbols words)) conjuncts
      ((λ i. map (tree_at (terms_are i)) (numbers_are i))
      ∙ ((are_numbered labels (conjuncts_of rs) (conjuncts_keep (length labels) rs each_rule)).are
      ∙ ap (map (tree_of_conjunct labels)) (conjuncts_are symbols words conjuncts rules cover))) c has

  -- so has the conjunct's value
  pub value_at : (i : ℕ) (d : Conjunct) (v : ConjunctValue) → i < length conjuncts → slice_get (conjuncts_of (rules_in symbols words conjuncts rules)) i ≡ Some v
      → tree_at terms (slice_index_or conjuncts i d).term ≡ tree_of_conjunct labels v
  value_at i d v within at =
      let f = conjunct_in (words_in symbols words) in
      let same : Some (f (slice_index_or conjuncts i d)) ≡ Some v =
      ap (option_map f) (sym (slice_get-get_or conjuncts i d within))
      ∙ (sym (slice_get-map f conjuncts i) ∙ (ap (λ vs. slice_get vs i) (sym (conjuncts_are symbols words conjuncts rules cover)) ∙ at)) in
      tree_of_term (slice_index_or conjuncts i d) (Contains-get_or conjuncts i d within) ∙ ap (λ o. tree_of_conjunct labels (unwrap_or o v)) same

  -- ---- rows

  occurs-same : (cs : List Conjunct) (v : ℕ) → occurs (map (conjunct_in (words_in symbols words)) cs) v ≡ occurs_in cs v
  occurs-same [] v = refl
  occurs-same (c ∷ cs) v = ap (λ b. ((c.src == v) || (c.trg == v)) || b) (occurs-same cs v)

  heads-occur : (cs : List Conjunct) (heads : List ℕ) → list_all (occurs (map (conjunct_in (words_in symbols words)) cs)) heads ≡ true → list_all (occurs_in cs) heads ≡ true
  heads-occur cs [] occur = refl
  heads-occur cs (v ∷ heads) occur =
      let parts = and_parts (occurs (map (conjunct_in (words_in symbols words)) cs) v) _ occur in
      λ i. (sym (occurs-same cs v) ∙ parts.0) i && heads-occur cs heads parts.1 i

  module _ (graph : List Triple) (tables : List (List (ℕ × ℕ))) (are : AreTables graph terms tables) (inside : (c : Conjunct) → Contains conjuncts c → c.term < length terms) where
    conjunct_table : (c : Conjunct) → Contains conjuncts c → ArePairs graph (tree_of_conjunct labels (conjunct_in (words_in symbols words) c)) (table_in tables c.term)
    conjunct_table c has = subst (λ p. ArePairs graph p (table_in tables c.term)) (tree_of_term c has) (are.each c.term (inside c has))

    among-true : (number : ℕ → ℕ) (cs : List Conjunct) → ((c : Conjunct) → Contains cs c → Contains conjuncts c) → AllByRecursion (IsAmong tables number) cs
        → AllByRecursion (IsTrueFor labels graph number) (map (conjunct_in (words_in symbols words)) cs)
    among-true number [] within all = tt
    among-true number (c ∷ cs) within all = (
      (conjunct_table c (within c (Contains-first c cs)) (number c.src) (number c.trg)).0 all.0,
      among-true number cs (λ d has. within d (Contains-later c d cs has)) all.1,
    )

    true-among : (number : ℕ → ℕ) (cs : List Conjunct) → ((c : Conjunct) → Contains cs c → Contains conjuncts c)
        → AllByRecursion (IsTrueFor labels graph number) (map (conjunct_in (words_in symbols words)) cs) → AllByRecursion (IsAmong tables number) cs
    true-among number [] within all = tt
    true-among number (c ∷ cs) within all = (
      (conjunct_table c (within c (Contains-first c cs)) (number c.src) (number c.trg)).1 all.0,
      true-among number cs (λ d has. within d (Contains-later c d cs has)) all.1,
    )

    rule_says : (r : Rule) → Contains rules r → (row : List ℕ) → Contains (rule_rows tables conjuncts r) row ↔ IsRuleRow labels graph (rule_in (conjuncts_in symbols words conjuncts) r) row
    rule_says r in_rules row =
        let cvs = conjuncts_in symbols words conjuncts in
        let cs = cut conjuncts r.conjuncts in
        let same : cut cvs r.conjuncts ≡ map (conjunct_in (words_in symbols words)) cs = cut-map (conjunct_in (words_in symbols words)) conjuncts r.conjuncts in
        let within : (c : Conjunct) → Contains cs c → Contains conjuncts c = λ c has. cut-member conjuncts r.conjuncts c has in
        let is = list_all-member (is_rule (length labels)) (rules_in symbols words conjuncts rules) each_rule (rule_in cvs r) (Contains-map (rule_in cvs) rules r in_rules) in
        let occur = (and_parts _ (list_all (occurs (cut cvs r.conjuncts)) (heads_in r.heads)) (and_parts _ (has_heads (rule_in cvs r)) is).1).1 in
        let j = joined_rows tables cs (heads_in r.heads) (heads-occur cs (heads_in r.heads) (subst (λ vs. list_all (occurs vs) (heads_in r.heads) ≡ true) same occur)) row in (
          λ has. let s = j.0 has in (s.0, subst (AllByRecursion (IsTrueFor labels graph s.0)) (sym same) (among-true s.0 cs within s.1), s.2),
          λ h. j.1 (h.0, true-among h.0 cs within (subst (AllByRecursion (IsTrueFor labels graph h.0)) same h.1), h.2),
        )

    pub rows_say : (row : List ℕ) → Contains (rows_of tables conjuncts rules) row ↔ ((r : RuleValue) × Contains (rules_in symbols words conjuncts rules) r × IsRuleRow labels graph r row)
    rows_say row =
        let cvs = conjuncts_in symbols words conjuncts in (
          λ has. let found = Contains-from_flat_map (rule_rows tables conjuncts) rules row has in
              (rule_in cvs found.0, Contains-map (rule_in cvs) rules found.0 found.1, (rule_says found.0 found.1 row).0 found.2),
          λ some. let found = Contains-from_map (rule_in cvs) rules some.0 some.1 in
              Contains-flat_map (rule_rows tables conjuncts) rules found.0 row found.1
              ((rule_says found.0 found.1 row).1 (subst (λ v. IsRuleRow labels graph v row) (sym found.2) some.2)),
        )

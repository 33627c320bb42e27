-- What the text of terms and rules is to say meets the conditions of texts.
use Rattle.std.proofs.Common.{◌≡◌, ◌≢◌, ℕ, suc, ◌+◌, ◌<◌, ◌≤◌, ◌^◌, Bool, true, false, ◌&&◌, ◌||◌, nat_lt, Option, Some, None, if◌then◌else◌, List, [], ◌∷◌, ◌++◌, length, map, codes}
use Rattle.std.proofs.Common.{decimal, refl, sym, ap, subst, ◌∙◌, inl, inr, arith}
use Rattle.std.specs.Prelude.{is_some, bytes_eq, unwrap_or, slice_get, ◌==◌, nat_le}
use Rattle.std.specs.List.{list_all}
use Rattle.std.proofs.lemmas.Bool.{and_parts, cases_lt}
use Rattle.std.proofs.lemmas.Bool.Decides.{nat_tests}
use Rattle.std.proofs.lemmas.Fmt.{decimal_injective}
use Rattle.std.proofs.lemmas.List.{length-map}
use Rattle.std.proofs.lemmas.List.Folds.{list_all-append}
use Rattle.std.proofs.lemmas.Slice.Eq.{bytes_eq-Decides}
use Rattle.query_terms.specs.declared.terms.Term.{Term}
use Rattle.query_terms.specs.declared.terms.Term.TheVariants.{Step, Seq, Alt, Star, Opt}
use Rattle.query_terms.specs.Store.{ChildrenBelow}
use Rattle.sql_emit.specs.Numbered.{with_numbers}
use Rattle.sql_read.specs.Grammar.{Col, Right, Column, Equation}
use Rattle.sql_read.specs.Conditions.{Header, edge_header, header_of, is_among, all_differ, columns_of, columns_under, belongs, right_belongs, is_there, alias_of, query_holds, has_width}
use Rattle.sql_read.specs.Conditions.{table_holds, tables_hold, headers_after, width_of, holds}
use Rattle.sql_emit.specs.declared.links.Link.{Link}
use Rattle.sql_emit.specs.declared.links.LinkRule.{LinkRule}
use Rattle.sql_emit.specs.Rules.{occurs, is_link_rule, has_heads, heads_of, are_link_rules}
use Rattle.sql_emit.specs.Reading.{table_name, alias_name, col, nodes_table, term_table, Occurrence, occurrences_from, first_of, head_column, equation_for, equations_from, sources_from}
use Rattle.sql_emit.specs.Reading.{rule_query, printed_of}
use Rattle.sql_emit.specs.Laws.{has_few_links, ArePrintable}
use Rattle.sql_emit.proofs.SpellingLemmas.{list_all_weaker}

-- ---- names

tail_of : (b : ℕ) (xs ys : List ℕ) → b ∷ xs ≡ b ∷ ys → xs ≡ ys
tail_of b xs ys e = cc

same_bytes : (name : List ℕ) → bytes_eq name name ≡ true
same_bytes name = let d = bytes_eq-Decides name name in grind arith

other_bytes : (x y : List ℕ) → x ≢ y → bytes_eq x y ≡ false
other_bytes x y differ = let d = bytes_eq-Decides x y in grind arith

-- a letter and the decimals of two numbers
numbered_differ : (letter i j : ℕ) → i < 2 ^ 64 → j < 2 ^ 64 → i ≢ j → bytes_eq (letter ∷ decimal i) (letter ∷ decimal j) ≡ false
numbered_differ letter i j a b differ =
    other_bytes (letter ∷ decimal i) (letter ∷ decimal j) (λ e. differ (decimal_injective i j a b (tail_of letter (decimal i) (decimal j) e)))

above : (i j : ℕ) → i < j → j ≢ i
above i j below same = omega (arith, below, same)

below_not : (i j : ℕ) → i < j → i ≢ j
below_not i j below same = omega (arith, below, same)

-- ---- tables

abbrev ends_columns : List (List ℕ)
ends_columns = codes "src" ∷ codes "trg" ∷ []

-- the tables of the first n terms are there, and those of further ones not
record Sees (n : ℕ) (headers : List Header) : Type 0 where
  edge : columns_of headers (codes "edge") ≡ Some (codes "src" ∷ codes "label" ∷ codes "trg" ∷ [])
  nodes : columns_of headers (codes "nodes") ≡ Some (codes "v" ∷ [])
  terms : (j : ℕ) → j < n → columns_of headers (table_name j) ≡ Some ends_columns
  others : (j : ℕ) → n ≤ j → j < 2 ^ 64 → columns_of headers (table_name j) ≡ None

sees_none : Sees 0 (header_of nodes_table ∷ edge_header ∷ [])
sees_none = record { edge = refl; nodes = refl; terms = λ j below. absurd (omega (arith, below)); others = λ j a b. refl }

sees_more : (n : ℕ) (headers : List Header) (t : Term) → n + 1 < 2 ^ 64 → Sees n headers → Sees (n + 1) (header_of (term_table (t, n)) ∷ headers)
sees_more n headers t few s = record {
  edge = s.edge;
  nodes = s.nodes;
  terms = λ j below. elim (cases_lt j n) [
    | inl less ↦ rw (numbered_differ 116 n j (omega (arith, few)) (omega (arith, few, less)) (above j n less)) (s.terms j less)
    | inr more ↦ (let same : n ≡ j = omega (arith, below, more) in rw (ap (λ i. bytes_eq (table_name n) (table_name i)) (sym same) ∙ same_bytes (table_name n)) refl)
  ];
  others = λ j above_n small. rw (numbered_differ 116 n j (omega (arith, few)) small (below_not n j (omega (arith, above_n)))) (s.others j (omega (arith, above_n)) small);
}

-- a term's own table, and the one of its child
module _ (k : ℕ) (headers : List Header) (few : k < 2 ^ 64) (s : Sees k headers) where
  own : bytes_eq (table_name k) (table_name k) ≡ true
  own = same_bytes (table_name k)

  fresh : columns_of headers (table_name k) ≡ None
  fresh = s.others k (omega arith) few

  down : (i : ℕ) → i < k → bytes_eq (table_name k) (table_name i) ≡ false
  down i below = numbered_differ 116 k i few (omega (arith, few, below)) (above i k below)

  up : (i : ℕ) → i < k → bytes_eq (table_name i) (table_name k) ≡ false
  up i below = numbered_differ 116 i k (omega (arith, few, below)) few (below_not i k below)

  term_holds : (t : Term) → ChildrenBelow k t → table_holds headers (term_table (t, k)) ≡ true
  term_holds (Step label false) below = rw (fresh, s.edge) refl
  term_holds (Step label true) below = rw (fresh, s.edge) refl
  term_holds (Seq i j) below = rw (fresh, s.terms i below.0, s.terms j below.1) refl
  term_holds (Alt i j) below = rw (fresh, down j below.1, up j below.1, s.terms i below.0, s.terms j below.1) refl
  term_holds (Star i) below = rw (fresh, s.nodes, own, down i below, up i below, s.terms i below) refl
  term_holds (Opt i) below = rw (fresh, s.nodes, down i below, up i below, s.terms i below) refl

abbrev pub ChildrenAre : ℕ → List Term → Type 0
ChildrenAre k terms = (n : ℕ) (t : Term) → slice_get terms n ≡ Some t → ChildrenBelow (k + n) t

pub children_more : (k : ℕ) (t : Term) (terms : List Term) → ChildrenAre k (t ∷ terms) → ChildrenAre (k + 1) terms
children_more k t terms are n u e = subst (λ (m : ℕ). ChildrenBelow m u) (omega arith) (are (suc n) u e)

pub child_first : (k : ℕ) (t : Term) (terms : List Term) → ChildrenAre k (t ∷ terms) → ChildrenBelow k t
child_first k t terms are = subst (λ (m : ℕ). ChildrenBelow m t) (omega arith) (are 0 t refl)

terms_hold : (terms : List Term) (k : ℕ) (headers : List Header) → k + length terms < 2 ^ 64 → Sees k headers → ChildrenAre k terms
    → tables_hold headers (map term_table (with_numbers k terms)) ≡ true
terms_hold [] k headers few s are = refl
terms_hold (t ∷ terms) k headers few s are =
    let small : k + 1 < 2 ^ 64 = omega (arith, few) in
    rw (term_holds k headers (omega (arith, few)) s t (child_first k t terms are))
    (terms_hold terms (k + 1) (header_of (term_table (t, k)) ∷ headers) (omega (arith, few)) (sees_more k headers t (omega (arith, few)) s) (children_more k t terms are))

sees_all : (terms : List Term) (k : ℕ) (headers : List Header) → k + length terms < 2 ^ 64 → Sees k headers
    → Sees (k + length terms) (headers_after headers (map term_table (with_numbers k terms)))
sees_all [] k headers few s = subst (λ (n : ℕ). Sees n headers) (omega arith) s
sees_all (t ∷ terms) k headers few s =
    subst (λ (n : ℕ). Sees n (headers_after (header_of (term_table (t, k)) ∷ headers) (map term_table (with_numbers (k + 1) terms)))) (omega arith)
    (sees_all terms (k + 1) (header_of (term_table (t, k)) ∷ headers) (omega (arith, few)) (sees_more k headers t (omega (arith, few)) s))

-- ---- rules

-- the aliases of later tables are others
later_alias : (links : List Link) (i j : ℕ) → j < i → i + length links < 2 ^ 64 → is_among (alias_name j) (map alias_of (sources_from i links)) ≡ false
later_alias [] i j below few = refl
later_alias (l ∷ links) i j below few =
    rw (numbered_differ 99 i j (omega (arith, few)) (omega (arith, few, below)) (above j i below)) (later_alias links (i + 1) j (omega (arith, below)) (omega (arith, few)))

aliases_differ : (links : List Link) (i : ℕ) → i + length links < 2 ^ 64 → all_differ (map alias_of (sources_from i links)) ≡ true
aliases_differ [] i few = refl
aliases_differ (l ∷ links) i few =
    rw (later_alias links (i + 1) i (omega arith) (omega (arith, few))) (aliases_differ links (i + 1) (omega (arith, few)))

pub lt_true : (n m : ℕ) → nat_lt n m ≡ true → n < m
lt_true n m e = grind (arith, nat_tests)

module _ (terms : ℕ) (headers : List Header) (s : Sees terms headers) where
  sources_there : (links : List Link) (i : ℕ) → list_all (λ l. nat_lt l.term terms) links ≡ true → list_all (is_there headers) (sources_from i links) ≡ true
  sources_there [] i below = refl
  sources_there (l ∷ links) i below =
      let parts = and_parts (nat_lt l.term terms) (list_all (λ m. nat_lt m.term terms) links) below in
      rw (s.terms l.term (lt_true l.term terms parts.0)) (sources_there links (i + 1) parts.1)

  -- each alias has the columns of pairs
  under_alias : (links : List Link) (i j : ℕ) → list_all (λ l. nat_lt l.term terms) links ≡ true → i ≤ j → j < i + length links → i + length links < 2 ^ 64
      → columns_under headers (sources_from i links) (alias_name j) ≡ Some ends_columns
  under_alias [] i j below from to few = absurd (omega (arith, from, to))
  under_alias (l ∷ links) i j below from to few =
      let parts = and_parts (nat_lt l.term terms) (list_all (λ m. nat_lt m.term terms) links) below in
      elim (cases_lt i j) [
        | inl less ↦ rw (numbered_differ 99 i j (omega (arith, few)) (omega (arith, few, to)) (below_not i j less))
            (under_alias links (i + 1) j parts.1 (omega (arith, less)) (omega (arith, to)) (omega (arith, few)))
        | inr same ↦ (let is : j ≡ i = omega (arith, from, same) in
            rw (ap (λ m. bytes_eq (alias_name i) (alias_name m)) is ∙ same_bytes (alias_name i)) (s.terms l.term (lt_true l.term terms parts.0)))
      ]

-- what each column of an occurrence passes, the columns of the heads and of the equations pass
module _ (passes : Col → Bool) where
  -- so many aliases have both columns
  abbrev pub AliasesPass : ℕ → ℕ → Type 0
  AliasesPass i n = (j : ℕ) → i ≤ j → j < i + n → (passes (col (alias_name j) (codes "src")) ≡ true) × (passes (col (alias_name j) (codes "trg")) ≡ true)

  abbrev pub all_pass : List Occurrence → Bool
  all_pass occurrences = list_all (λ o. passes o.at) occurrences

  abbrev pub some_passes : Option Col → Bool
  some_passes None = true
  some_passes (Some c) = passes c

  pub occurrences_pass : (links : List Link) (i : ℕ) → AliasesPass i (length links) → all_pass (occurrences_from i links) ≡ true
  occurrences_pass [] i pass = refl
  occurrences_pass (l ∷ links) i pass =
      let here = pass i (omega arith) (omega arith) in
      rw (here.0, here.1) (occurrences_pass links (i + 1) (λ j from to. pass j (omega (arith, from)) (omega (arith, to))))

  first_passes : (os : List Occurrence) (v : ℕ) → all_pass os ≡ true → some_passes (first_of os v) ≡ true
  first_passes [] v all = refl
  first_passes (o ∷ os) v all =
      let parts = and_parts (passes o.at) (all_pass os) all in either (o.variable == v) parts.0 (first_passes os v parts.1)
    where
      either : (b : Bool) → passes o.at ≡ true → some_passes (first_of os v) ≡ true → some_passes (if b then Some o.at else first_of os v) ≡ true
      either true here later = here
      either false here later = later

  head_passes : (found : Option Col) → some_passes found ≡ true → is_some found ≡ true → passes (unwrap_or found (col [] [])) ≡ true
  head_passes None pass found = cc
  head_passes (Some c) pass found = pass

  pub heads_pass : (os : List Occurrence) (heads : List ℕ) → all_pass os ≡ true → list_all (λ v. is_some (first_of os v)) heads ≡ true
      → list_all passes (map (head_column os) heads) ≡ true
  heads_pass os [] all found = refl
  heads_pass os (v ∷ heads) all found =
      let parts = and_parts (is_some (first_of os v)) (list_all (λ w. is_some (first_of os w)) heads) found in
      rw (head_passes (first_of os v) (first_passes os v all) parts.0) (heads_pass os heads all parts.1)

  module _ (right : Right → Bool) (on_column : (c : Col) → right (Column c) ≡ passes c) where
    abbrev pub equation_passes : Equation → Bool
    equation_passes e = passes e.left && right e.right

    equation_for_passes : (found : Option Col) (here : Col) → some_passes found ≡ true → passes here ≡ true → list_all equation_passes (equation_for found here) ≡ true
    equation_for_passes None here first pass = refl
    equation_for_passes (Some c) here first pass = rw (first, on_column here, pass) refl

    pub equations_pass : (before os : List Occurrence) → all_pass before ≡ true → all_pass os ≡ true → list_all equation_passes (equations_from before os) ≡ true
    equations_pass before [] earlier all = refl
    equations_pass before (o ∷ os) earlier all =
        let parts = and_parts (passes o.at) (all_pass os) all in
        let now : all_pass (before ++ o ∷ []) ≡ true = rw (list_all-append (λ x. passes x.at) before (o ∷ []), earlier, parts.0) refl in
        rw (
          list_all-append equation_passes (equation_for (first_of before o.variable) o.at) (equations_from (before ++ o ∷ []) os),
          equation_for_passes (first_of before o.variable) o.at (first_passes before o.variable earlier) parts.0,
        )
        (equations_pass (before ++ o ∷ []) os now parts.1)

-- a variable that occurs in the links has a first occurrence
found_first : (links : List Link) (i v : ℕ) → occurs links v ≡ true → is_some (first_of (occurrences_from i links) v) ≡ true
found_first [] i v found = cc
found_first (l ∷ links) i v found = either (l.src == v) (l.trg == v) found (found_first links (i + 1) v)
  where
    later : Option Col
    later = first_of (occurrences_from (i + 1) links) v

    either : (a b : Bool) → ((a || b) || occurs links v) ≡ true → (occurs links v ≡ true → is_some later ≡ true)
        → is_some (if a then Some (col (alias_name i) (codes "src")) else if b then Some (col (alias_name i) (codes "trg")) else later) ≡ true
    either true b e more = refl
    either false true e more = refl
    either false false e more = more e

pub heads_found : (links : List Link) (heads : List ℕ) → list_all (occurs links) heads ≡ true → list_all (λ v. is_some (first_of (occurrences_from 0 links) v)) heads ≡ true
heads_found links heads all = list_all_weaker (occurs links) (λ v. is_some (first_of (occurrences_from 0 links) v)) (λ v e. found_first links 0 v e) heads all

-- a rule over terms
pub record RuleParts (terms : ℕ) (r : LinkRule) : Type 0 where
  pub some : nat_lt 0 (length r.links) ≡ true
  pub below : list_all (λ l. nat_lt l.term terms) r.links ≡ true
  pub heads : list_all (occurs r.links) r.heads ≡ true

pub rule_parts : (terms : ℕ) (r : LinkRule) → is_link_rule terms r ≡ true → RuleParts terms r
rule_parts terms r e =
    let outer = and_parts (nat_lt 0 (length r.links) && list_all (λ l. nat_lt l.term terms) r.links) (list_all (occurs r.links) r.heads) e in
    let inner = and_parts (nat_lt 0 (length r.links)) (list_all (λ l. nat_lt l.term terms) r.links) outer.0 in
    record { some = inner.0; below = inner.1; heads = outer.1 }

module _ (terms : ℕ) (headers : List Header) (s : Sees terms headers) where
  aliases_belong : (r : LinkRule) → RuleParts terms r → length r.links < 2 ^ 64
      → AliasesPass (belongs headers (sources_from 0 r.links)) 0 (length r.links)
  aliases_belong r parts few j from to =
      let under = under_alias terms headers s r.links 0 j parts.below from to (omega (arith, few)) in
      (rw under refl, rw under refl)

  rule_holds : (r : LinkRule) → RuleParts terms r → length r.links < 2 ^ 64 → query_holds headers (rule_query r) ≡ true
  rule_holds r parts few =
      let sources = sources_from 0 r.links in
      let occurrences = occurrences_from 0 r.links in
      let pass = occurrences_pass (belongs headers sources) r.links 0 (aliases_belong r parts few) in
      rw (
        aliases_differ r.links 0 (omega (arith, few)),
        sources_there terms headers s r.links 0 parts.below,
        heads_pass (belongs headers sources) occurrences r.heads pass (heads_found r.links r.heads parts.heads),
        equations_pass (belongs headers sources) (right_belongs headers sources) (λ c. refl) [] occurrences refl pass,
      ) refl

  rules_hold : (rules : List LinkRule) → list_all (is_link_rule terms) rules ≡ true → list_all has_few_links rules ≡ true
      → list_all (query_holds headers) (map rule_query rules) ≡ true
  rules_hold [] are few = refl
  rules_hold (r ∷ rules) are few =
      let first = and_parts (is_link_rule terms r) (list_all (is_link_rule terms) rules) are in
      let counted = and_parts (has_few_links r) (list_all has_few_links rules) few in
      rw (rule_holds r (rule_parts terms r first.0) (lt_true (length r.links) (2 ^ 64) counted.0)) (rules_hold rules first.1 counted.1)

width_is : (r : LinkRule) → length (rule_query r).columns ≡ length r.heads
width_is r = length-map r.heads (head_column (occurrences_from 0 r.links))

first_width : (rules : List LinkRule) → width_of (map rule_query rules) ≡ heads_of rules
first_width [] = refl
first_width (r ∷ rules) = width_is r

same_widths : (width : ℕ) (rules : List LinkRule) → list_all (has_heads width) rules ≡ true → list_all (has_width width) (map rule_query rules) ≡ true
same_widths width [] all = refl
same_widths width (r ∷ rules) all =
    let parts = and_parts (has_heads width r) (list_all (has_heads width) rules) all in
    rw (ap (λ (n : ℕ). n == width) (width_is r) ∙ parts.0) (same_widths width rules parts.1)

-- what is asked of rules
pub record RulesParts (terms : ℕ) (rules : List LinkRule) : Type 0 where
  pub some : nat_lt 0 (length rules) ≡ true
  pub are : list_all (is_link_rule terms) rules ≡ true
  pub few_heads : nat_le (heads_of rules) 4 ≡ true
  pub same_heads : list_all (has_heads (heads_of rules)) rules ≡ true

pub rules_parts : (terms : ℕ) (rules : List LinkRule) → are_link_rules terms rules ≡ true → RulesParts terms rules
rules_parts terms rules e =
    let outer = and_parts (nat_lt 0 (length rules) && list_all (is_link_rule terms) rules)
    (nat_le (heads_of rules) 4 && list_all (has_heads (heads_of rules)) rules) e in
    let left = and_parts (nat_lt 0 (length rules)) (list_all (is_link_rule terms) rules) outer.0 in
    let right = and_parts (nat_le (heads_of rules) 4) (list_all (has_heads (heads_of rules)) rules) outer.1 in
    record { some = left.0; are = left.1; few_heads = right.0; same_heads = right.1 }

nodes_hold : table_holds (edge_header ∷ []) nodes_table ≡ true
nodes_hold = refl

pub printed_holds : (terms : List Term) (rules : List LinkRule) → ArePrintable terms rules → holds (printed_of terms rules) ≡ true
printed_holds terms rules p =
    let parts = rules_parts (length terms) rules p.rules_are in
    let first : List Header = header_of nodes_table ∷ edge_header ∷ [] in
    let headers : List Header = headers_after first (map term_table (with_numbers 0 terms)) in
    let sees : Sees (length terms) headers = subst (λ (n : ℕ). Sees n headers) (omega arith) (sees_all terms 0 first (omega (arith, p.few_terms)) sees_none) in
    let children : ChildrenAre 0 terms = λ n t e. subst (λ (m : ℕ). ChildrenBelow m t) (omega arith) (p.store.children n t e) in
    let tables = terms_hold terms 0 first (omega (arith, p.few_terms)) sees_none children in
    let widths = same_widths (heads_of rules) rules parts.same_heads in
    rw (nodes_hold, tables, first_width rules, parts.few_heads, widths) (rules_hold (length terms) headers sees rules parts.are p.few_links)

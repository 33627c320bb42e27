-- The rows of the selects of rules are those of the rules.
use Rattle.std.proofs.Common.{◌≡◌, ◌<◌, ◌≤◌, inl, inr, ℕ, ◌+◌, ◌^◌, Bool, true, false, ◌==◌, ◌&&◌, ◌||◌, nat_lt, bytes_eq, if◌then◌else◌, Option, Some, None, unwrap_or, List, [], ◌∷◌, ◌++◌, codes, drop, length, map, refl, sym, ap, subst, ◌∙◌, arith}
use Rattle.std.specs.List.{Contains, AllByRecursion, list_all}
use Rattle.std.proofs.lemmas.Bool.{and_parts, or_cases, ltb-true, eqb-true, eq-eqb}
use Rattle.std.proofs.lemmas.Fmt.{decimal_injective}
use Rattle.graph_text.specs.declared.graphs.Triple.{Triple}
use Rattle.graph_text.proofs.MemberLemmas.{Contains-first, Contains-later, Contains-cases, Contains-none, Contains-append_cases, Contains-map, Contains-from_map, list_all-member}
use Rattle.path_pairs.specs.Pairs.{Pairs}
use Rattle.query_terms.specs.declared.terms.Term.{Term}
use Rattle.query_terms.specs.Trees.{tree_at}
use Rattle.sql_read.specs.Grammar.{Col, Source}
use Rattle.sql_read.specs.Conditions.{Header}
use Rattle.sql_mean.specs.Selects.{IsProduct, value_of, Meets, IsSelectRow}
use Rattle.sql_mean.specs.Rows.{headers_of, Has}
use Rattle.sql_mean.proofs.NameLemmas.{other_name}
use Rattle.sql_mean.proofs.SelectLemmas.{value_later}
use Rattle.sql_emit.specs.declared.links.Link.{Link}
use Rattle.sql_emit.specs.declared.links.LinkRule.{LinkRule}
use Rattle.sql_emit.specs.Rules.{occurs, is_link_rule}
use Rattle.sql_emit.specs.Laws.{has_few_links}
use Rattle.sql_emit.specs.Reading.{table_name, alias_name, col, source, Occurrence, occurrences_from, first_of, head_column, equation_for, equations_from, sources_from, rule_query, printed_of}
use Rattle.sql_emit.specs.Rows.{Leads, IsLinkRow, RowsAreLinks}
use Rattle.sql_emit.proofs.PairLemmas.{HasPairs, src_value, trg_value}
use Rattle.sql_emit.proofs.TableLemmas.{printed_says, long_trees}

-- ---- names

alias_names : (i j : ℕ) → i < 2 ^ 64 → j < 2 ^ 64 → (i ≡ j → ⊥) → bytes_eq (alias_name i) (alias_name j) ≡ false
alias_names i j few few_j differ = other_name (alias_name i) (alias_name j) (λ same. differ (decimal_injective i j few few_j (ap (drop 1) same)))

-- ---- where a variable stands first

shift : (xs : List Occurrence) (y : Occurrence) (ys : List Occurrence) → (xs ++ y ∷ []) ++ ys ≡ xs ++ y ∷ ys
shift [] y ys = refl
shift (x ∷ xs) y ys = ap (λ zs. x ∷ zs) (shift xs y ys)

first_here : (o : Occurrence) (occurrences : List Occurrence) → first_of (o ∷ occurrences) o.variable ≡ Some o.at
first_here o occurrences = rw (eq-eqb o.variable o.variable refl) refl

first_before : (before more : List Occurrence) (v : ℕ) (c : Col) → first_of before v ≡ Some c → first_of (before ++ more) v ≡ Some c
first_before [] more v c is = cc
first_before (o ∷ before) more v c is =
    go (o.variable == v) (first_before before more v c) is
  where
    go : (b : Bool) → (first_of before v ≡ Some c → first_of (before ++ more) v ≡ Some c) → (if b then Some o.at else first_of before v) ≡ Some c
        → (if b then Some o.at else first_of (before ++ more) v) ≡ Some c
    go true later is = is
    go false later is = later is

first_after : (before more : List Occurrence) (v : ℕ) → first_of before v ≡ None → first_of (before ++ more) v ≡ first_of more v
first_after [] more v none = refl
first_after (o ∷ before) more v none =
    go (o.variable == v) (first_after before more v) none
  where
    go : (b : Bool) → (first_of before v ≡ None → first_of (before ++ more) v ≡ first_of more v) → (if b then Some o.at else first_of before v) ≡ None
        → (if b then Some o.at else first_of (before ++ more) v) ≡ first_of more v
    go true later none = cc
    go false later none = later none

record StandsAt (occurrences : List Occurrence) (v : ℕ) (c : Col) : Type 0 where
  occurrence : Occurrence
  among : Contains occurrences occurrence
  variable : occurrence.variable ≡ v
  at : occurrence.at ≡ c

first_among : (occurrences : List Occurrence) (v : ℕ) (c : Col) → first_of occurrences v ≡ Some c → StandsAt occurrences v c
first_among [] v c is = cc
first_among (o ∷ occurrences) v c is =
    go (o.variable == v) refl (first_among occurrences v c) is
  where
    go : (b : Bool) → (o.variable == v) ≡ b → (first_of occurrences v ≡ Some c → StandsAt occurrences v c) → (if b then Some o.at else first_of occurrences v) ≡ Some c
        → StandsAt (o ∷ occurrences) v c
    go true same later is =
        record { occurrence = o; among = Contains-first o occurrences; variable = eqb-true o.variable v same; at = ap (λ x. unwrap_or x c) is }
    go false other later is =
        let s = later is in
        record { occurrence = s.occurrence; among = Contains-later o s.occurrence occurrences s.among; variable = s.variable; at = s.at }

first_there : (occurrences : List Occurrence) (o : Occurrence) → Contains occurrences o → (c : Col) × (first_of occurrences o.variable ≡ Some c)
first_there [] o none = absurd (Contains-none o none)
first_there (p ∷ occurrences) o has =
    elim (Contains-cases p o occurrences has) [
      | inl same ↦ (p.at, subst (λ q. first_of (p ∷ occurrences) q.variable ≡ Some p.at) same (first_here p occurrences))
      | inr later ↦ go (p.variable == o.variable) (first_there occurrences o later)
    ]
  where
    go : (b : Bool) → ((c : Col) × (first_of occurrences o.variable ≡ Some c)) → (c : Col) × ((if b then Some p.at else first_of occurrences o.variable) ≡ Some c)
    go true found = (p.at, refl)
    go false found = found

-- ---- the equations

module _ (headers : List Header) (sources : List Source) (product : List (List ℕ)) where
  abbrev V : Col → ℕ
  V c = value_of headers sources product c

  -- each occurrence has the number of the first one of its variable
  first_same : (before occurrences : List Occurrence) → AllByRecursion (Meets headers sources product) (equations_from before occurrences) → (o : Occurrence)
      → Contains occurrences o → (c : Col) → first_of (before ++ occurrences) o.variable ≡ Some c → V c ≡ V o.at
  first_same before [] meets o none c is = absurd (Contains-none o none)
  first_same before (p ∷ occurrences) meets o has c is =
      go (first_of before p.variable) refl
      (λ rest among. first_same (before ++ p ∷ []) occurrences rest o among c (ap (λ xs. first_of xs o.variable) (shift before p occurrences) ∙ is)) meets
    where
      here : p ≡ o → first_of (before ++ p ∷ occurrences) p.variable ≡ Some c
      here same = subst (λ q. first_of (before ++ p ∷ occurrences) q.variable ≡ Some c) (sym same) is

      go : (f : Option Col) → first_of before p.variable ≡ f
          → (AllByRecursion (Meets headers sources product) (equations_from (before ++ p ∷ []) occurrences) → Contains occurrences o → V c ≡ V o.at)
          → AllByRecursion (Meets headers sources product) (equation_for f p.at ++ equations_from (before ++ p ∷ []) occurrences) → V c ≡ V o.at
      go None none later meets =
          elim (Contains-cases p o occurrences has) [
            | inl same ↦ let at : Some p.at ≡ Some c = sym (first_here p occurrences) ∙ sym (first_after before (p ∷ occurrences) p.variable none) ∙ here same in
                ap (λ x. V (unwrap_or x c)) (sym at) ∙ ap (λ q. V q.at) same
            | inr among ↦ later meets among
          ]
      go (Some first) found later meets =
          elim (Contains-cases p o occurrences has) [
            | inl same ↦ let at : Some first ≡ Some c = sym (first_before before (p ∷ occurrences) p.variable first found) ∙ here same in
                ap (λ x. V (unwrap_or x c)) (sym at) ∙ meets.0 ∙ ap (λ q. V q.at) same
            | inr among ↦ later meets.1 among
          ]

  module _ (number : ℕ → ℕ) where
    -- each column has the number of its variable
    abbrev AreNumbers : List Occurrence → Type 0
    AreNumbers occurrences = (o : Occurrence) → Contains occurrences o → V o.at ≡ number o.variable

    first_number : (occurrences : List Occurrence) → AreNumbers occurrences → (v : ℕ) (c : Col) → first_of occurrences v ≡ Some c → V c ≡ number v
    first_number occurrences are v c is =
        let s = first_among occurrences v c is in
        ap V (sym s.at) ∙ are s.occurrence s.among ∙ ap number s.variable

    equations_met : (before occurrences : List Occurrence) → AreNumbers before → AreNumbers occurrences → AllByRecursion (Meets headers sources product) (equations_from before occurrences)
    equations_met before [] are_before are = tt
    equations_met before (p ∷ occurrences) are_before are =
        go (first_of before p.variable) refl (equations_met (before ++ p ∷ []) occurrences so_far (λ o has. are o (Contains-later p o occurrences has)))
      where
        so_far : AreNumbers (before ++ p ∷ [])
        so_far o has =
            elim (Contains-append_cases before (p ∷ []) o has) [
              | inl among ↦ are_before o among
              | inr last ↦ elim (Contains-cases p o [] last) [
                | inl same ↦ subst (λ q. V q.at ≡ number q.variable) same (are p (Contains-first p occurrences))
                | inr none ↦ absurd (Contains-none o none)
              ]
            ]

        go : (f : Option Col) → first_of before p.variable ≡ f → AllByRecursion (Meets headers sources product) (equations_from (before ++ p ∷ []) occurrences)
            → AllByRecursion (Meets headers sources product) (equation_for f p.at ++ equations_from (before ++ p ∷ []) occurrences)
        go None none rest = rest
        go (Some first) found rest = (first_number before are_before p.variable first found ∙ sym (are p (Contains-first p occurrences)), rest)

-- ---- the rows of the links

-- the row of the link's numbers
abbrev pair_row : (ℕ → ℕ) → Link → List ℕ
pair_row number l = number l.src ∷ number l.trg ∷ []

abbrev src_of : ℕ → Link → Occurrence
src_of i l = record { variable = l.src; at = col (alias_name i) (codes "src") }

abbrev trg_of : ℕ → Link → Occurrence
trg_of i l = record { variable = l.trg; at = col (alias_name i) (codes "trg") }

module _ (i : ℕ) (l : Link) (links : List Link) where
  at_src : Contains (occurrences_from i (l ∷ links)) (src_of i l)
  at_src = Contains-first (src_of i l) (trg_of i l ∷ occurrences_from (i + 1) links)

  at_trg : Contains (occurrences_from i (l ∷ links)) (trg_of i l)
  at_trg = Contains-later (src_of i l) (trg_of i l) (trg_of i l ∷ occurrences_from (i + 1) links) (Contains-first (trg_of i l) (occurrences_from (i + 1) links))

  at_later : (o : Occurrence) → Contains (occurrences_from (i + 1) links) o → Contains (occurrences_from i (l ∷ links)) o
  at_later o has = Contains-later (src_of i l) o (trg_of i l ∷ occurrences_from (i + 1) links) (Contains-later (trg_of i l) o (occurrences_from (i + 1) links) has)

occurs_there : (i : ℕ) (links : List Link) (v : ℕ) → occurs links v ≡ true → (o : Occurrence) × Contains (occurrences_from i links) o × (o.variable ≡ v)
occurs_there i [] v is = cc
occurs_there i (l ∷ links) v is =
    elim (or_cases ((l.src == v) || (l.trg == v)) (occurs links v) is) [
      | inl here ↦ elim (or_cases (l.src == v) (l.trg == v) here) [
        | inl src ↦ (src_of i l, at_src i l links, eqb-true l.src v src)
        | inr trg ↦ (trg_of i l, at_trg i l links, eqb-true l.trg v trg)
      ]
      | inr later ↦ let o = occurs_there (i + 1) links v later in (o.0, at_later i l links o.0 o.1, o.2)
    ]

module _ (graph : List Triple) (terms : List Term) (headers : List Header) (Has : List ℕ → List ℕ → Type 0)
    (tables : (k : ℕ) → k < length terms → HasPairs headers Has (table_name k) (Pairs (tree_at terms k) graph)) where
  -- the term is one of the terms
  abbrev is_inside : Link → Bool
  is_inside l = nat_lt l.term (length terms)

  table_of_link : (l : Link) → is_inside l ≡ true → HasPairs headers Has (table_name l.term) (Pairs (tree_at terms l.term) graph)
  table_of_link l inside = tables l.term (ltb-true l.term (length terms) inside)

  module _ (number : ℕ → ℕ) where
    products : (i : ℕ) (links : List Link) → list_all is_inside links ≡ true → AllByRecursion (Leads graph terms number) links
        → IsProduct Has (sources_from i links) (map (pair_row number) links)
    products i [] inside leads = tt
    products i (l ∷ links) inside leads =
        let parts = and_parts (is_inside l) (list_all is_inside links) inside in
        ((table_of_link l parts.0).has (number l.src) (number l.trg) leads.0, products (i + 1) links parts.1 leads.1)

    module _ (W : Col → ℕ) where
      -- the columns of the links from number i on have the numbers that they have in these rows
      abbrev Agrees : ℕ → List Link → List (List ℕ) → Type 0
      Agrees i links rows = (j : ℕ) (column : List ℕ) → i ≤ j → j < 2 ^ 64 → W (col (alias_name j) column) ≡ value_of headers (sources_from i links) rows (col (alias_name j) column)

      agrees_later : (i : ℕ) (l : Link) (links : List Link) (row : List ℕ) (rows : List (List ℕ)) → i < 2 ^ 64 → Agrees i (l ∷ links) (row ∷ rows) → Agrees (i + 1) links rows
      agrees_later i l links row rows few agrees j column above few_j =
          agrees j column (omega (arith, above)) few_j
          ∙ value_later headers (source (table_name l.term) (alias_name i)) (sources_from (i + 1) links) row rows (col (alias_name j) column)
          (alias_names i j few few_j (λ same. absurd (omega (arith, above, same))))

      -- the numbers of a link, by its row
      link_src : (i : ℕ) (l : Link) (links : List Link) (row : List ℕ) (rows : List (List ℕ)) (a b : ℕ) → i < 2 ^ 64 → is_inside l ≡ true → Agrees i (l ∷ links) (row ∷ rows)
          → row ≡ a ∷ b ∷ [] → W (col (alias_name i) (codes "src")) ≡ a
      link_src i l links row rows a b few inside agrees is =
          agrees i (codes "src") (omega arith) few
          ∙ src_value headers Has (table_name l.term) (alias_name i) (sources_from (i + 1) links) row rows a b (table_of_link l inside).columns is

      link_trg : (i : ℕ) (l : Link) (links : List Link) (row : List ℕ) (rows : List (List ℕ)) (a b : ℕ) → i < 2 ^ 64 → is_inside l ≡ true → Agrees i (l ∷ links) (row ∷ rows)
          → row ≡ a ∷ b ∷ [] → W (col (alias_name i) (codes "trg")) ≡ b
      link_trg i l links row rows a b few inside agrees is =
          agrees i (codes "trg") (omega arith) few
          ∙ trg_value headers Has (table_name l.term) (alias_name i) (sources_from (i + 1) links) row rows a b (table_of_link l inside).columns is

      leads_from : (i : ℕ) (links : List Link) (rows : List (List ℕ)) → i + length links ≤ 2 ^ 64 → list_all is_inside links ≡ true → IsProduct Has (sources_from i links) rows
          → Agrees i links rows → ((o : Occurrence) → Contains (occurrences_from i links) o → number o.variable ≡ W o.at) → AllByRecursion (Leads graph terms number) links
      leads_from i [] rows few inside picked agrees are = tt
      leads_from i (l ∷ links) [] few inside picked agrees are = absurd picked
      leads_from i (l ∷ links) (row ∷ rows) few inside picked agrees are =
          let parts = and_parts (is_inside l) (list_all is_inside links) inside in
          let small : i < 2 ^ 64 = omega (arith, few) in
          let p = (table_of_link l parts.0).from row picked.0 in
          let src : number l.src ≡ p.0 = are (src_of i l) (at_src i l links) ∙ link_src i l links row rows p.0 p.1 small parts.0 agrees p.3 in
          let trg : number l.trg ≡ p.1 =
          are (trg_of i l) (at_trg i l links) ∙ link_trg i l links row rows p.0 p.1 small parts.0 agrees p.3 in (
            subst (λ x. Pairs (tree_at terms l.term) graph x (number l.trg)) (sym src) (subst (λ y. Pairs (tree_at terms l.term) graph p.0 y) (sym trg) p.2),
            leads_from (i + 1) links rows (omega (arith, few)) parts.1 picked.1 (agrees_later i l links row rows small agrees)
                (λ o has. are o (at_later i l links o has)),
          )

      numbers_are : (i : ℕ) (links : List Link) → i + length links ≤ 2 ^ 64 → list_all is_inside links ≡ true → Agrees i links (map (pair_row number) links)
          → (o : Occurrence) → Contains (occurrences_from i links) o → W o.at ≡ number o.variable
      numbers_are i [] few inside agrees o none = absurd (Contains-none o none)
      numbers_are i (l ∷ links) few inside agrees o has =
          let parts = and_parts (is_inside l) (list_all is_inside links) inside in
          let small : i < 2 ^ 64 = omega (arith, few) in
          let rows : List (List ℕ) = map (pair_row number) links in
          elim (Contains-cases (src_of i l) o (trg_of i l ∷ occurrences_from (i + 1) links) has) [
            | inl src ↦ subst (λ q. W q.at ≡ number q.variable) src (link_src i l links (pair_row number l) rows (number l.src) (number l.trg) small parts.0 agrees refl)
            | inr more ↦ elim (Contains-cases (trg_of i l) o (occurrences_from (i + 1) links) more) [
              | inl trg ↦ subst (λ q. W q.at ≡ number q.variable) trg (link_trg i l links (pair_row number l) rows (number l.src) (number l.trg) small parts.0 agrees refl)
              | inr later ↦ numbers_are (i + 1) links (omega (arith, few)) parts.1 (agrees_later i l links (pair_row number l) rows small agrees) o later
            ]
          ]

  -- ---- a rule

  module _ (r : LinkRule) (is_rule : is_link_rule (length terms) r ≡ true) (few : length r.links < 2 ^ 64) where
    abbrev places : List Occurrence
    places = occurrences_from 0 r.links

    inside : list_all is_inside r.links ≡ true
    inside = (and_parts (nat_lt 0 (length r.links)) _ (and_parts (nat_lt 0 (length r.links) && list_all is_inside r.links) _ is_rule).0).1

    heads_occur : list_all (occurs r.links) r.heads ≡ true
    heads_occur = (and_parts (nat_lt 0 (length r.links) && list_all is_inside r.links) _ is_rule).1

    maps_same : (number W : ℕ → ℕ) (heads : List ℕ) → ((v : ℕ) → Contains heads v → number v ≡ W v) → map number heads ≡ map W heads
    maps_same number W [] same = refl
    maps_same number W (v ∷ heads) same =
        let later = maps_same number W heads (λ w has. same w (Contains-later v w heads has)) in
        λ i. same v (Contains-first v heads) i ∷ later i

    maps_twice : (number : Col → ℕ) (f : ℕ → Col) (heads : List ℕ) → map number (map f heads) ≡ map (λ v. number (f v)) heads
    maps_twice number f [] = refl
    maps_twice number f (v ∷ heads) = ap (λ xs. number (f v) ∷ xs) (maps_twice number f heads)

    pub rule_from : (row : List ℕ) → IsSelectRow headers Has (rule_query r) row → IsLinkRow graph terms r row
    rule_from row is =
        let W : Col → ℕ = value_of headers (sources_from 0 r.links) is.product in
        let number : ℕ → ℕ = λ v. W (head_column places v) in (
          number,
          leads_from number W 0 r.links is.product (omega (arith, few)) inside is.picked (λ j column above small. refl)
              (λ o has. let first = first_there places o has in
              ap (λ x. W (unwrap_or x (col [] []))) first.1 ∙ first_same headers (sources_from 0 r.links) is.product [] places is.meets o has first.0 first.1),
          is.row_is ∙ maps_twice W (head_column places) r.heads,
        )

    pub rule_has : (row : List ℕ) → IsLinkRow graph terms r row → IsSelectRow headers Has (rule_query r) row
    rule_has row is =
        let number : ℕ → ℕ = is.0 in
        let rows : List (List ℕ) = map (pair_row number) r.links in
        let W : Col → ℕ = value_of headers (sources_from 0 r.links) rows in
        let are : (o : Occurrence) → Contains places o → W o.at ≡ number o.variable =
        numbers_are number W 0 r.links (omega (arith, few)) inside (λ j column above small. refl) in
        let head : (v : ℕ) → Contains r.heads v → number v ≡ W (head_column places v) =
        λ v has. let o = occurs_there 0 r.links v (list_all-member (occurs r.links) r.heads heads_occur v has) in
        let first = first_there places o.0 o.1 in
        let at : first_of places v ≡ Some first.0 = subst (λ w. first_of places w ≡ Some first.0) o.2 first.1 in
        sym (ap (λ x. W (unwrap_or x (col [] []))) at ∙ first_number headers (sources_from 0 r.links) rows number places are v first.0 at) in
        record {
          product = rows;
          picked = products number 0 r.links inside is.1;
          meets = equations_met headers (sources_from 0 r.links) rows number [] places (λ o none. absurd (Contains-none o none)) are;
          row_is = is.2 ∙ maps_same number (λ v. W (head_column places v)) r.heads head ∙ sym (maps_twice W (head_column places) r.heads);
        }

-- ---- all rules

pub rows_are_links : RowsAreLinks
rows_are_links terms rules printable graph row =
    let headers : List Header = headers_of (printed_of terms rules) in
    let HasRow : List ℕ → List ℕ → Type 0 = Has (printed_of terms rules) graph in
    let tables : (k : ℕ) → k < length terms → HasPairs headers HasRow (table_name k) (Pairs (tree_at terms k) graph) =
    λ k less. (printed_says graph terms rules printable.store printable.few_terms).terms k (omega (arith, less, long_trees [] terms)) in
    let are : list_all (is_link_rule (length terms)) rules ≡ true =
    (and_parts (nat_lt 0 (length rules)) _ (and_parts (nat_lt 0 (length rules) && list_all (is_link_rule (length terms)) rules) _ printable.rules_are).0).1 in
    let is_rule : (r : LinkRule) → Contains rules r → is_link_rule (length terms) r ≡ true = list_all-member (is_link_rule (length terms)) rules are in
    let few : (r : LinkRule) → Contains rules r → length r.links < 2 ^ 64 =
    λ r among. ltb-true (length r.links) (2 ^ 64) (list_all-member has_few_links rules printable.few_links r among) in (
      λ is. let found = Contains-from_map rule_query rules is.0 is.1 in (
        found.0,
        found.1,
        rule_from graph terms headers HasRow tables found.0 (is_rule found.0 found.1) (few found.0 found.1) row
            (subst (λ q. IsSelectRow headers HasRow q row) (sym found.2) is.2),
      ),
      λ is. (rule_query is.0, Contains-map rule_query rules is.0 is.1, rule_has graph terms headers HasRow tables is.0 (is_rule is.0 is.1) (few is.0 is.1) row is.2),
    )

-- The rules of a query, as rules of links.
use Rattle.std.proofs.Common.{◌≡◌, ℕ, zero, suc, ◌+◌, ◌≤◌, Bool, true, ◌&&◌, ◌||◌, nat_lt, List, [], ◌∷◌, length, take, drop, map, refl, sym, ap, subst, ◌∙◌, arith}
use Rattle.std.specs.Prelude.{◌==◌, nat_le}
use Rattle.std.specs.List.{list_all}
use Rattle.std.proofs.lemmas.Bool.{and_parts}
use Rattle.std.proofs.lemmas.Bool.Decides.{nat_tests}
use Rattle.std.proofs.lemmas.List.{length-map, length-take, length-drop, drop-map, drop-drop}
use Rattle.gm_text.specs.declared.lists.Span.{Span}
use Rattle.query_terms.specs.declared.query.Query.{Query}
use Rattle.query_terms.specs.declared.terms.Conjunct.{Conjunct}
use Rattle.query_terms.specs.declared.terms.Rule.{Rule}
use Rattle.query_terms.specs.Spans.{cut, lies, covers}
use Rattle.query_terms.proofs.SpanLemmas.{passes_cut, cut-map}
use Rattle.query_terms.specs.Lists.{is_heads, heads_in, words_in, conjunct_in, rule_in}
use Rattle.query_terms.specs.Values as value
use Rattle.query_terms.specs.Values.{ConjunctValue, RuleValue, arity_of, are_rules, is_rule, have_heads}
use Rattle.sql_emit.specs.declared.links.Link.{Link}
use Rattle.sql_emit.specs.Rules.{occurs, is_link_rule, has_heads, heads_of, are_link_rules, links_of, link_rules}
use Rattle.sql_emit.specs.Writing.{link_of, link_rule_in, is_rule_of}

abbrev term_of : Conjunct → ℕ
term_of c = c.term

abbrev span_of : Rule → Span
span_of r = r.conjuncts

-- rules whose spans lie in the conjuncts and whose heads are such
pub rules_lie : (conjuncts : ℕ) (rs : List Rule) → list_all (lies conjuncts) (map span_of rs) ≡ true → list_all (λ r. is_heads r.heads) rs ≡ true
    → list_all (is_rule_of conjuncts) rs ≡ true
rules_lie conjuncts [] lie heads = refl
rules_lie conjuncts (r ∷ rs) lie heads =
    let first = and_parts (lies conjuncts r.conjuncts) (list_all (lies conjuncts) (map span_of rs)) lie in
    let second = and_parts (is_heads r.heads) (list_all (λ x. is_heads x.heads) rs) heads in
    rw (first.0, second.0) (rules_lie conjuncts rs first.1 second.1)

module _ (q : Query) (cs : List Conjunct) where
  abbrev view : Conjunct → ConjunctValue
  view c = conjunct_in (words_in q.symbols.now q.words.now) c

  abbrev value_of : Rule → RuleValue
  value_of r = rule_in (map view cs) r

  links_same : (ds : List Conjunct) (n : ℕ) → links_of (map view (take n ds)) (map term_of ds) ≡ map link_of (take n ds)
  links_same ds zero = refl
  links_same [] (suc n) = refl
  links_same (d ∷ ds) (suc n) = ap (λ links. link_of d ∷ links) (links_same ds n)

  -- the numbers of all conjuncts, shared out among the rules
  pub rules_same : (rs : List Rule) (from to : ℕ) → covers from (map span_of rs) to ≡ true → list_all (lies (length cs)) (map span_of rs) ≡ true
      → map (link_rule_in cs) rs ≡ link_rules (map value_of rs) (map term_of (drop from cs))
  rules_same [] from to covered lie = refl
  rules_same (r ∷ rs) from to covered lie =
      let outer = and_parts (r.conjuncts.first == from) (covers (from + r.conjuncts.count) (map span_of rs) to) covered in
      let inner = and_parts (lies (length cs) r.conjuncts) (list_all (lies (length cs)) (map span_of rs)) lie in
      let here : r.conjuncts.first ≡ from = first_is r.conjuncts.first from outer.0 in
      let within : r.conjuncts.first + r.conjuncts.count ≤ length cs = ends_within (r.conjuncts.first + r.conjuncts.count) (length cs) inner.0 in
      let cut_is : cut (map view cs) r.conjuncts ≡ map view (take r.conjuncts.count (drop from cs))
      = cut-map view cs r.conjuncts ∙ ap (λ n. map view (take r.conjuncts.count (drop n cs))) here in
      let links : map link_of (cut cs r.conjuncts) ≡ links_of (cut (map view cs) r.conjuncts) (map term_of (drop from cs))
      = ap (λ n. map link_of (take r.conjuncts.count (drop n cs))) here ∙ sym (links_same (drop from cs) r.conjuncts.count)
      ∙ ap (λ vs. links_of vs (map term_of (drop from cs))) (sym cut_is) in
      let many : length (cut (map view cs) r.conjuncts) ≡ r.conjuncts.count
      = ap length cut_is ∙ length-map (take r.conjuncts.count (drop from cs)) view
      ∙ (let a = length-take r.conjuncts.count (drop from cs) in let b = length-drop from cs in omega (arith, a, b, within, here)) in
      let left : map term_of (drop (from + r.conjuncts.count) cs) ≡ drop (length (cut (map view cs) r.conjuncts)) (map term_of (drop from cs))
      = ap (map term_of) (sym (drop-drop r.conjuncts.count from cs)) ∙ sym (drop-map term_of r.conjuncts.count (drop from cs))
      ∙ ap (λ n. drop n (map term_of (drop from cs))) (sym many) in
      let more = rules_same rs (from + r.conjuncts.count) to outer.1 inner.1 ∙ ap (link_rules (map value_of rs)) left in
      λ i. record { heads = heads_in r.heads; links = links i } ∷ more i
    where
      first_is : (m n : ℕ) → (m == n) ≡ true → m ≡ n
      first_is m n e = grind (arith, nat_tests)

      ends_within : (m n : ℕ) → nat_le m n ≡ true → m ≤ n
      ends_within m n e = grind (arith, nat_tests)

  ends_same : (ds : List Conjunct) (v : ℕ) → occurs (map link_of ds) v ≡ value.occurs (map view ds) v
  ends_same [] v = refl
  ends_same (d ∷ ds) v = ap (λ b. ((d.src == v) || (d.trg == v)) || b) (ends_same ds v)

  heads_same : (ds : List Conjunct) (heads : List ℕ) → list_all (value.occurs (map view ds)) heads ≡ true → list_all (occurs (map link_of ds)) heads ≡ true
  heads_same ds [] all = refl
  heads_same ds (v ∷ heads) all =
      let parts = and_parts (value.occurs (map view ds) v) (list_all (value.occurs (map view ds)) heads) all in
      rw (ends_same ds v ∙ parts.0) (heads_same ds heads parts.1)

  terms_same : (terms : ℕ) (ds : List Conjunct) → list_all (λ n. nat_lt n terms) (map term_of ds) ≡ list_all (λ (l : Link). nat_lt l.term terms) (map link_of ds)
  terms_same terms [] = refl
  terms_same terms (d ∷ ds) = ap (λ b. nat_lt d.term terms && b) (terms_same terms ds)

  module _ (terms edges : ℕ) (below : list_all (λ n. nat_lt n terms) (map term_of cs) ≡ true) where
    rule_is : (r : Rule) → is_rule edges (value_of r) ≡ true → is_link_rule terms (link_rule_in cs r) ≡ true
    rule_is r e =
        let v = value_of r in
        let ds = cut cs r.conjuncts in
        let are : v.conjuncts ≡ map view ds = cut-map view cs r.conjuncts in
        let outer = and_parts (nat_lt 0 (length v.conjuncts) && list_all (value.is_conjunct edges) v.conjuncts) (value.has_heads v) e in
        let some = (and_parts (nat_lt 0 (length v.conjuncts)) (list_all (value.is_conjunct edges) v.conjuncts) outer.0).0 in
        let heads = (and_parts (value.arity_built (length v.heads) && value.differ v.heads) (list_all (value.occurs v.conjuncts) v.heads) outer.1).1 in
        let long : length (map link_of ds) ≡ length v.conjuncts = length-map ds link_of ∙ sym (length-map ds view) ∙ ap length (sym are) in
        let terms_below : list_all (λ n. nat_lt n terms) (map term_of ds) ≡ true
        = ap (list_all (λ n. nat_lt n terms)) (sym (cut-map term_of cs r.conjuncts))
        ∙ passes_cut (λ n. nat_lt n terms) (map term_of cs) r.conjuncts below in
        rw (
          ap (nat_lt 0) long ∙ some,
          sym (terms_same terms ds) ∙ terms_below,
          heads_same ds v.heads (subst (λ ws. list_all (value.occurs ws) v.heads ≡ true) are heads),
        ) refl

    rules_are_links : (rs : List Rule) → list_all (is_rule edges) (map value_of rs) ≡ true → list_all (is_link_rule terms) (map (link_rule_in cs) rs) ≡ true
    rules_are_links [] all = refl
    rules_are_links (r ∷ rs) all =
        let parts = and_parts (is_rule edges (value_of r)) (list_all (is_rule edges) (map value_of rs)) all in
        rw (rule_is r parts.0) (rules_are_links rs parts.1)

    same_count : (count : ℕ) (rs : List Rule) → have_heads count (map value_of rs) ≡ list_all (has_heads count) (map (link_rule_in cs) rs)
    same_count count [] = refl
    same_count count (r ∷ rs) = ap (λ b. (length (heads_in r.heads) == count) && b) (same_count count rs)

    few_heads : (rs : List Rule) → list_all (is_rule edges) (map value_of rs) ≡ true → nat_le (heads_of (map (link_rule_in cs) rs)) 4 ≡ true
    few_heads [] all = refl
    few_heads (r ∷ rs) all =
        let v = value_of r in
        let rule = (and_parts (is_rule edges v) (list_all (is_rule edges) (map value_of rs)) all).0 in
        let heads = (and_parts (nat_lt 0 (length v.conjuncts) && list_all (value.is_conjunct edges) v.conjuncts) (value.has_heads v) rule).1 in
        let inner = (and_parts (value.arity_built (length v.heads) && value.differ v.heads) (list_all (value.occurs v.conjuncts) v.heads) heads).0 in
        (and_parts (value.arity_built (length v.heads)) (value.differ v.heads) inner).0

    arity_same : (rs : List Rule) → heads_of (map (link_rule_in cs) rs) ≡ arity_of (map value_of rs)
    arity_same [] = refl
    arity_same (r ∷ rs) = refl

    pub rules_are_printable : (rs : List Rule) → are_rules edges (map value_of rs) ≡ true → are_link_rules terms (map (link_rule_in cs) rs) ≡ true
    rules_are_printable rs all =
        let rules = map value_of rs in
        let outer = and_parts (nat_lt 0 (length rules) && list_all (is_rule edges) rules) (have_heads (arity_of rules) rules) all in
        let inner = and_parts (nat_lt 0 (length rules)) (list_all (is_rule edges) rules) outer.0 in
        let long : length (map (link_rule_in cs) rs) ≡ length rules = length-map rs (link_rule_in cs) ∙ sym (length-map rs value_of) in
        let count = ap (λ n. list_all (has_heads n) (map (link_rule_in cs) rs)) (arity_same rs) ∙ sym (same_count (arity_of rules) rs) ∙ outer.1 in
        rw (ap (nat_lt 0) long ∙ inner.0, rules_are_links rs inner.1, few_heads rs inner.1, count) refl

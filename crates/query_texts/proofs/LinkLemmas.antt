-- The rules of a query, as rules of links over its terms.
use Rattle.std.proofs.Common.{◌≡◌, ℕ, zero, suc, ◌≤◌, ◌^◌, Bool, true, ◌&&◌, ◌||◌, nat_lt, nat_le, List, [], ◌∷◌, length, drop, All, refl, ap, ◌∙◌, arith}
use Rattle.std.specs.Prelude.{◌==◌}
use Rattle.std.specs.List.{list_all}
use Rattle.std.proofs.lemmas.Bool.{and_parts}
use Rattle.std.proofs.lemmas.List.{length-append, length-drop}
use Rattle.std.proofs.lemmas.List.Elements.{All-head, All-tail}
use Rattle.schema_graph.specs.declared.edge.SchemaEdge.{SchemaEdge}
use Rattle.query_terms.specs.Values as value
use Rattle.query_terms.specs.Values.{ConjunctValue, RuleValue, conjuncts_of, is_conjunct, is_rule, have_heads, arity_of, are_rules}
use Rattle.workload_text.specs.Values.{IsRule}
use Rattle.sql_emit.specs.declared.links.Link.{Link}
use Rattle.sql_emit.specs.Rules.{occurs, is_link_rule, has_heads, heads_of, are_link_rules, links_of, link_rules}
use Rattle.sql_emit.specs.Laws.{has_few_links}
use Rattle.query_texts.proofs.RuleLemmas.{both, below}

all-dropped : (p : ℕ → Bool) (n : ℕ) (xs : List ℕ) → list_all p xs ≡ true → list_all p (drop n xs) ≡ true
all-dropped p zero xs all = all
all-dropped p (suc n) [] all = refl
all-dropped p (suc n) (x ∷ xs) all = all-dropped p n xs (and_parts (p x) (list_all p xs) all).1

links-long : (cs : List ConjunctValue) (numbers : List ℕ) → length cs ≤ length numbers → length (links_of cs numbers) ≡ length cs
links-long [] numbers enough = refl
links-long (c ∷ cs) [] enough = absurd (omega (arith, enough))
links-long (c ∷ cs) (n ∷ numbers) enough = ap suc (links-long cs numbers (omega (arith, enough)))

links-occur : (cs : List ConjunctValue) (numbers : List ℕ) (v : ℕ) → length cs ≤ length numbers → occurs (links_of cs numbers) v ≡ value.occurs cs v
links-occur [] numbers v enough = refl
links-occur (c ∷ cs) [] v enough = absurd (omega (arith, enough))
links-occur (c ∷ cs) (n ∷ numbers) v enough = ap (λ b. ((c.src == v) || (c.trg == v)) || b) (links-occur cs numbers v (omega (arith, enough)))

heads-occur : (cs : List ConjunctValue) (numbers heads : List ℕ) → length cs ≤ length numbers → list_all (value.occurs cs) heads ≡ true
    → list_all (occurs (links_of cs numbers)) heads ≡ true
heads-occur cs numbers [] enough all = refl
heads-occur cs numbers (v ∷ heads) enough all =
    let parts = and_parts (value.occurs cs v) (list_all (value.occurs cs) heads) all in
    both _ _ (links-occur cs numbers v enough ∙ parts.0) (heads-occur cs numbers heads enough parts.1)

module _ (terms edges : ℕ) where
  links-below : (cs : List ConjunctValue) (numbers : List ℕ) → list_all (λ n. nat_lt n terms) numbers ≡ true
      → list_all (λ (l : Link). nat_lt l.term terms) (links_of cs numbers) ≡ true
  links-below [] numbers all = refl
  links-below (c ∷ cs) [] all = refl
  links-below (c ∷ cs) (n ∷ numbers) all =
      let parts = and_parts (nat_lt n terms) (list_all (λ n. nat_lt n terms) numbers) all in
      both _ _ parts.0 (links-below cs numbers parts.1)

  rule-linked : (r : RuleValue) (numbers : List ℕ) → is_rule edges r ≡ true → length r.conjuncts ≤ length numbers → list_all (λ n. nat_lt n terms) numbers ≡ true
      → is_link_rule terms (record { heads = r.heads; links = links_of r.conjuncts numbers }) ≡ true
  rule-linked r numbers is enough all =
      let outer = and_parts (nat_lt 0 (length r.conjuncts) && list_all (is_conjunct edges) r.conjuncts) (value.has_heads r) is in
      let some = (and_parts (nat_lt 0 (length r.conjuncts)) (list_all (is_conjunct edges) r.conjuncts) outer.0).0 in
      let heads = (and_parts (value.arity_built (length r.heads) && value.differ r.heads) (list_all (value.occurs r.conjuncts) r.heads) outer.1).1 in
      both _ _ (both _ _ (ap (nat_lt 0) (links-long r.conjuncts numbers enough) ∙ some) (links-below r.conjuncts numbers all)) (heads-occur r.conjuncts numbers r.heads enough heads)

  rules-linked : (rules : List RuleValue) (numbers : List ℕ) → list_all (is_rule edges) rules ≡ true → length (conjuncts_of rules) ≤ length numbers
      → list_all (λ n. nat_lt n terms) numbers ≡ true → list_all (is_link_rule terms) (link_rules rules numbers) ≡ true
  rules-linked [] numbers are enough all = refl
  rules-linked (r ∷ rules) numbers are enough all =
      let parts = and_parts (is_rule edges r) (list_all (is_rule edges) rules) are in
      let long = length-append r.conjuncts (conjuncts_of rules) in
      let left = length-drop (length r.conjuncts) numbers in
      both _ _ (rule-linked r numbers parts.0 (omega (arith, enough, long)) all)
      (rules-linked rules (drop (length r.conjuncts) numbers) parts.1 (omega (arith, enough, long, left)) (all-dropped (λ n. nat_lt n terms) (length r.conjuncts) numbers all))

  heads-same : (count : ℕ) (rules : List RuleValue) (numbers : List ℕ) → list_all (has_heads count) (link_rules rules numbers) ≡ have_heads count rules
  heads-same count [] numbers = refl
  heads-same count (r ∷ rules) numbers = ap (λ b. (length r.heads == count) && b) (heads-same count rules (drop (length r.conjuncts) numbers))

  arity-same : (rules : List RuleValue) (numbers : List ℕ) → heads_of (link_rules rules numbers) ≡ arity_of rules
  arity-same [] numbers = refl
  arity-same (r ∷ rules) numbers = refl

  rules-long : (rules : List RuleValue) (numbers : List ℕ) → length (link_rules rules numbers) ≡ length rules
  rules-long [] numbers = refl
  rules-long (r ∷ rules) numbers = ap suc (rules-long rules (drop (length r.conjuncts) numbers))

  heads-few : (rules : List RuleValue) → list_all (is_rule edges) rules ≡ true → nat_le (arity_of rules) 4 ≡ true
  heads-few [] are = refl
  heads-few (r ∷ rules) are =
      let rule = (and_parts (is_rule edges r) (list_all (is_rule edges) rules) are).0 in
      let heads = (and_parts (nat_lt 0 (length r.conjuncts) && list_all (is_conjunct edges) r.conjuncts) (value.has_heads r) rule).1 in
      let inner = (and_parts (value.arity_built (length r.heads) && value.differ r.heads) (list_all (value.occurs r.conjuncts) r.heads) heads).0 in
      (and_parts (value.arity_built (length r.heads)) (value.differ r.heads) inner).0

  pub are-linked : (rules : List RuleValue) (numbers : List ℕ) → are_rules edges rules ≡ true → length (conjuncts_of rules) ≤ length numbers
      → list_all (λ n. nat_lt n terms) numbers ≡ true → are_link_rules terms (link_rules rules numbers) ≡ true
  are-linked rules numbers are enough all =
      let outer = and_parts (nat_lt 0 (length rules) && list_all (is_rule edges) rules) (have_heads (arity_of rules) rules) are in
      let inner = and_parts (nat_lt 0 (length rules)) (list_all (is_rule edges) rules) outer.0 in
      let arity = arity-same rules numbers in
      both _ _ (both _ _ (ap (nat_lt 0) (rules-long rules numbers) ∙ inner.0) (rules-linked rules numbers inner.1 enough all))
      (both _ _ (ap (λ n. nat_le n 4) arity ∙ heads-few rules inner.1)
      (ap (λ n. list_all (has_heads n) (link_rules rules numbers)) arity ∙ heads-same (arity_of rules) rules numbers ∙ outer.1))

-- the links of each rule can be counted
links-most : (cs : List ConjunctValue) (numbers : List ℕ) → length (links_of cs numbers) ≤ length cs
links-most [] numbers = omega arith
links-most (c ∷ cs) [] = omega arith
links-most (c ∷ cs) (n ∷ numbers) = let rest = links-most cs numbers in omega (arith, rest)

pub links-are_few : (edges : List SchemaEdge) (rules : List RuleValue) (numbers : List ℕ) → All (IsRule edges) rules → list_all has_few_links (link_rules rules numbers) ≡ true
links-are_few edges [] numbers all = refl
links-are_few edges (r ∷ rules) numbers all =
    let few = (All-head (IsRule edges) r rules all).few in
    let most = links-most r.conjuncts numbers in
    both _ _ (below (length (links_of r.conjuncts numbers)) (2 ^ 64) (omega (arith, few, most)))
    (links-are_few edges rules (drop (length r.conjuncts) numbers) (All-tail (IsRule edges) r rules all))

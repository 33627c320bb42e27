-- Rows of one count, from the heads of rules.
use Rattle.std.proofs.Common.{◌≡◌, ◌≤◌, ℕ, true, ◌==◌, List, length, map, drop, slice_index_or, sym, ap, ◌∙◌, arith}
use Rattle.std.specs.List.{Contains, All, list_all}
use Rattle.std.proofs.lemmas.Bool.{and_parts, eqb-true, leb-true}
use Rattle.std.proofs.lemmas.List.{length-map, length-take-le}
use Rattle.std.proofs.lemmas.List.Elements.{Contains-get_or}
use Rattle.graph_text.proofs.MemberLemmas.{Contains-map, list_all-member}
use Rattle.query_terms.specs.declared.terms.Heads.{Heads}
use Rattle.query_terms.specs.declared.terms.Conjunct.{Conjunct}
use Rattle.query_terms.specs.declared.terms.Rule.{Rule}
use Rattle.sel_algebra.specs.declared.vocabulary.Symbol.{Symbol}
use Rattle.query_terms.specs.Values.{RuleValue, arity_built, arity_of, are_rules, have_heads}
use Rattle.query_terms.specs.Lists.{is_heads, heads_in, rule_in, rules_in, conjuncts_in}
use Rattle.query_terms.specs.Spans.{lies}
use Rattle.gm_text.specs.declared.lists.Span.{Span}
use Rattle.graph_text.specs.declared.graphs.Triple.{Triple}
use Rattle.rpq_meaning.specs.QueryRows.{IsRuleRow}
use Rattle.rpq_meaning.specs.Joins.{IsRuleOf}

-- heads count at most four
heads_few : (h : Heads) → is_heads h ≡ true → h.count ≤ 4
heads_few h is = leb-true h.count 4 (and_parts (length h.vars == 4) (arity_built h.count) (and_parts _ (list_all (λ v. v == 0) (drop h.count h.vars)) is).0).1

heads_long : (h : Heads) → is_heads h ≡ true → length h.vars ≡ 4
heads_long h is = eqb-true (length h.vars) 4 (and_parts (length h.vars == 4) (arity_built h.count) (and_parts _ (list_all (λ v. v == 0) (drop h.count h.vars)) is).0).0

heads_count : (h : Heads) → is_heads h ≡ true → length (heads_in h) ≡ h.count
heads_count h is = length-take-le h.count h.vars (omega (arith, heads_few h is, heads_long h is))

-- the rules of a query
pub rules_fit : (edges : ℕ) (symbols : List Symbol) (words : List Span) (conjuncts : List Conjunct) (rules : List Rule)
    → list_all (lies (length conjuncts)) (map (λ r. r.conjuncts) rules) ≡ true → list_all (λ r. is_heads r.heads) rules ≡ true
    → are_rules edges (rules_in symbols words conjuncts rules) ≡ true
    → All (IsRuleOf (length conjuncts) (arity_of (rules_in symbols words conjuncts rules))) rules
rules_fit edges symbols words conjuncts rules lie heads keep k d within =
    let rs = rules_in symbols words conjuncts rules in
    let cs = conjuncts_in symbols words conjuncts in
    let r = slice_index_or rules k d in
    let has = Contains-get_or rules k d within in
    let is : is_heads r.heads ≡ true = list_all-member (λ r. is_heads r.heads) rules heads r has in
    let same = list_all-member (λ v. length v.heads == arity_of rs) rs (and_parts _ (have_heads (arity_of rs) rs) keep).1 (rule_in cs r) (Contains-map (rule_in cs) rules r has) in
    record {
      part = list_all-member (lies (length conjuncts)) (map (λ r. r.conjuncts) rules) lie r.conjuncts (Contains-map (λ r. r.conjuncts) rules r has);
      heads = is;
      count_is = sym (heads_count r.heads is) ∙ eqb-true (length (heads_in r.heads)) (arity_of rs) same;
    }

-- a row has as many numbers as the rules have heads
pub row_long : (edges : ℕ) (labels : List ℕ) (graph : List Triple) (rules : List RuleValue) → are_rules edges rules ≡ true → (row : List ℕ)
    → ((r : RuleValue) × Contains rules r × IsRuleRow labels graph r row) → length row ≡ arity_of rules
row_long edges labels graph rules keep row some =
    let r = some.0 in
    let is = list_all-member (λ v. length v.heads == arity_of rules) rules (and_parts _ (have_heads (arity_of rules) rules) keep).1 r some.1 in
    ap length some.2.2 ∙ (length-map r.heads some.2.0 ∙ eqb-true (length r.heads) (arity_of rules) is)

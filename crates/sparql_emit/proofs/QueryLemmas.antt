-- The lines of a query's rules are those of its value, and its text has the reading.
use Rattle.std.proofs.Common.{◌≡◌, ℕ, Bool, true, List, [], ◌∷◌, ◌++◌, length, map, take, drop, codes, refl, sym, ap, ◌∙◌}
use Rattle.std.specs.List.{All, flat_map, join_by, list_all}
use Rattle.std.proofs.lemmas.Bool.{and_parts}
use Rattle.std.proofs.lemmas.List.{append_assoc}
use Rattle.std.proofs.lemmas.List.Folds.{flat_map-map, list_all-append, list_all-map}
use Rattle.gm_text.specs.declared.lists.Span.{Span}
use Rattle.sel_algebra.specs.declared.vocabulary.Symbol.{Symbol}
use Rattle.query_terms.specs.declared.query.Query.{Query}
use Rattle.query_terms.specs.declared.terms.Conjunct.{Conjunct}
use Rattle.query_terms.specs.declared.terms.Rule.{Rule}
use Rattle.query_terms.specs.Values.{conjuncts_of, are_rules}
use Rattle.query_terms.specs.Lists.{heads_in, is_heads, rules_in}
use Rattle.query_terms.specs.Spans.{cut, lies}
use Rattle.query_terms.proofs.SpanLemmas.{and_true, list_all_more, cut-map}
use Rattle.rpq_meaning.proofs.RowLemmas.{rules_fit}
use Rattle.sparql_emit.specs.QueryText.{conjunct_text, rule_line}
use Rattle.sparql_emit.specs.Laws.{conjunct_has_names}
use Rattle.sparql_emit.specs.RowLaws.{has_few_variables}
use Rattle.sparql_emit.specs.Words.{conjunct_of, rule_of, RuleFits, is_plain}

-- each part of a text is written behind the one before it
pub three_written : (a b c : List ℕ) (one two three four : List ℕ) → one ≡ a → two ≡ one ++ b → three ≡ two ++ c → four ≡ three ++ codes "}\n"
    → four ≡ a ++ (b ++ (c ++ codes "}\n"))
three_written a b c one two three four first second third fourth =
    fourth
    ∙ ((λ i. (third ∙ ap (λ (bs : List ℕ). bs ++ c) (second ∙ ap (λ (bs : List ℕ). bs ++ b) first)) i ++ codes "}\n")
    ∙ (append_assoc (a ++ b) c (codes "}\n") ∙ append_assoc a b (c ++ codes "}\n")))

pub join_by-map : {X Y : Type 0} (f : Y → List ℕ) (between : List ℕ) (h : X → Y) (xs : List X) → join_by (λ x. f (h x)) between xs ≡ join_by f between (map h xs)
join_by-map f between h [] = refl
join_by-map f between h (x ∷ xs) = ap (λ (bs : List ℕ). f (h x) ++ bs) (sym (flat_map-map (λ y. between ++ f y) h xs))

-- ---- what a query's lists keep

pub rules_within : (edges : ℕ) (symbols : List Symbol) (words : List Span) (conjuncts : List Conjunct) (rules : List Rule)
    → list_all (lies (length conjuncts)) (map (λ r. r.conjuncts) rules) ≡ true → list_all (λ r. is_heads r.heads) rules ≡ true
    → are_rules edges (rules_in symbols words conjuncts rules) ≡ true → All (RuleFits (length conjuncts)) rules
rules_within edges symbols words conjuncts rules lie heads keep k d within =
    let fits = rules_fit edges symbols words conjuncts rules lie heads keep k d within in
    record { part = fits.part; heads = fits.heads }

module _ (names : List (List ℕ)) (q : Query) where
  -- ---- the conjuncts of a rule, one by one

  -- the line with as many conjuncts as the rule has
  pub line_done : (r : Rule) (conjuncts : List Conjunct) (out begun now done : List ℕ) → conjuncts ≡ cut q.conjuncts.now r.conjuncts → begun ≡ out ++ codes "{"
      → now ≡ begun ++ flat_map (λ c. conjunct_text names q.labels.now (heads_in r.heads) (conjunct_of q c)) conjuncts → done ≡ now ++ codes " }\n"
      → done ≡ out ++ rule_line names q.labels.now (rule_of q r)
  line_done r conjuncts out begun now done are begin texts end =
      let f = conjunct_text names q.labels.now (heads_in r.heads) in
      let same : flat_map (λ c. f (conjunct_of q c)) conjuncts ≡ flat_map f (rule_of q r).conjuncts =
      sym (flat_map-map f (conjunct_of q) conjuncts) ∙ ap (flat_map f) (ap (map (conjunct_of q)) are ∙ sym (cut-map (conjunct_of q) q.conjuncts.now r.conjuncts)) in
      end
      ∙ (ap (λ (bs : List ℕ). bs ++ codes " }\n") (texts ∙ λ i. begin i ++ same i)
      ∙ (append_assoc (out ++ codes "{") (flat_map f (rule_of q r).conjuncts) (codes " }\n")
      ∙ append_assoc out (codes "{") (flat_map f (rule_of q r).conjuncts ++ codes " }\n")))

  pub line_plain : (r : Rule) (conjuncts : List Conjunct) → conjuncts ≡ cut q.conjuncts.now r.conjuncts
      → list_all (λ c. is_plain names q.labels.now (conjunct_of q c)) conjuncts ≡ true → list_all (is_plain names q.labels.now) (rule_of q r).conjuncts ≡ true
  line_plain r conjuncts are plain =
      ap (list_all (is_plain names q.labels.now)) (cut-map (conjunct_of q) q.conjuncts.now r.conjuncts ∙ ap (map (conjunct_of q)) (sym are))
      ∙ (list_all-map (is_plain names q.labels.now) (conjunct_of q) conjuncts ∙ plain)

  -- ---- the rules, one by one

  pub lines_same : join_by (λ r. rule_line names q.labels.now (rule_of q r)) (codes "UNION\n") q.rules.now
      ≡ join_by (rule_line names q.labels.now) (codes "UNION\n") (map (rule_of q) q.rules.now)
  lines_same = join_by-map (rule_line names q.labels.now) (codes "UNION\n") (rule_of q) q.rules.now

  abbrev rule_is_plain : Rule → Bool
  rule_is_plain r = list_all (is_plain names q.labels.now) (rule_of q r).conjuncts

  lines_plain : (rs : List Rule) → list_all rule_is_plain rs ≡ true → list_all (is_plain names q.labels.now) (conjuncts_of (map (rule_of q) rs)) ≡ true
  lines_plain [] plain = refl
  lines_plain (r ∷ rs) plain =
      let parts = and_parts (rule_is_plain r) (list_all rule_is_plain rs) plain in
      list_all-append (is_plain names q.labels.now) (rule_of q r).conjuncts (conjuncts_of (map (rule_of q) rs)) ∙ and_true parts.0 (lines_plain rs parts.1)

  pub labels_named : list_all rule_is_plain q.rules.now ≡ true → list_all (conjunct_has_names names q.labels.now) (conjuncts_of (map (rule_of q) q.rules.now)) ≡ true
  labels_named plain =
      list_all_more (is_plain names q.labels.now) (conjunct_has_names names q.labels.now) (conjuncts_of (map (rule_of q) q.rules.now))
      (λ v is. (and_parts (conjunct_has_names names q.labels.now v) _ is).0) (lines_plain q.rules.now plain)

  pub variables_few : list_all rule_is_plain q.rules.now ≡ true → list_all has_few_variables (conjuncts_of (map (rule_of q) q.rules.now)) ≡ true
  variables_few plain =
      list_all_more (is_plain names q.labels.now) has_few_variables (conjuncts_of (map (rule_of q) q.rules.now))
      (λ v is. (and_parts (conjunct_has_names names q.labels.now v) _ is).1) (lines_plain q.rules.now plain)

-- What the text of terms and rules is to say has lists where the grammar wants some, words and numbers that fit.
use Rattle.std.proofs.Common.{◌≡◌, ℕ, ◌+◌, ◌<◌, ◌^◌, true, false, nat_lt, List, [], ◌∷◌, length, map, codes, refl, subst, arith}
use Rattle.std.specs.List.{list_all}
use Rattle.std.proofs.lemmas.Bool.{and_parts}
use Rattle.query_terms.specs.declared.terms.Term.{Term}
use Rattle.query_terms.specs.declared.terms.Term.TheVariants.{Step, Seq, Alt, Star, Opt}
use Rattle.query_terms.specs.Store.{ChildrenBelow}
use Rattle.sql_emit.specs.Numbered.{with_numbers}
use Rattle.sql_read.specs.Tokens.{keyword_of}
use Rattle.sql_read.specs.Grammar.{some, is_full_query, is_full_table, is_full}
use Rattle.sql_emit.specs.declared.links.Link.{Link}
use Rattle.sql_emit.specs.declared.links.LinkRule.{LinkRule}
use Rattle.sql_emit.specs.Rules.{is_link_rule}
use Rattle.sql_emit.specs.Reading.{alias_name, col, nodes_table, term_table, occurrences_from, sources_from, rule_query, printed_of}
use Rattle.sql_emit.specs.Laws.{label_fits, has_few_links, ArePrintable}
use Rattle.sql_emit.proofs.SpellingLemmas.{table_is_word, alias_is_word}
use Rattle.sql_emit.proofs.PieceLemmas.{good_col, good_source, good_right, good_query, good_table, good_reading}
use Rattle.sql_emit.proofs.HoldsLemmas.{RuleParts, rule_parts, rules_parts, AliasesPass, occurrences_pass, heads_pass, equations_pass, heads_found, ChildrenAre, children_more, child_first}
use Rattle.sql_emit.proofs.HoldsLemmas.{lt_true}

-- ---- lists that are not empty

full_body : (t : Term × ℕ) → is_full_table (term_table t) ≡ true
full_body (Step label false, k) = refl
full_body (Step label true, k) = refl
full_body (Seq i j, k) = refl
full_body (Alt i j, k) = refl
full_body (Star i, k) = refl
full_body (Opt i, k) = refl

full_tables : (ts : List (Term × ℕ)) → list_all is_full_table (map term_table ts) ≡ true
full_tables [] = refl
full_tables (t ∷ ts) = rw (full_body t) (full_tables ts)

some_sources : (links : List Link) (i : ℕ) → nat_lt 0 (length links) ≡ true → some (sources_from i links) ≡ true
some_sources [] i e = cc
some_sources (l ∷ links) i e = refl

full_rules : (terms : ℕ) (rules : List LinkRule) → list_all (is_link_rule terms) rules ≡ true → list_all is_full_query (map rule_query rules) ≡ true
full_rules terms [] are = refl
full_rules terms (r ∷ rules) are =
    let parts = and_parts (is_link_rule terms r) (list_all (is_link_rule terms) rules) are in
    rw (some_sources r.links 0 (rule_parts terms r parts.0).some) (full_rules terms rules parts.1)

some_rules : (rules : List LinkRule) → nat_lt 0 (length rules) ≡ true → some (map rule_query rules) ≡ true
some_rules [] e = cc
some_rules (r ∷ rules) e = refl

pub printed_is_full : (terms : List Term) (rules : List LinkRule) → ArePrintable terms rules → is_full (printed_of terms rules) ≡ true
printed_is_full terms rules p =
    let parts = rules_parts (length terms) rules p.rules_are in
    rw (full_tables (with_numbers 0 terms), some_rules rules parts.some, full_rules (length terms) rules parts.are) refl

-- ---- words and numbers

nodes_good : good_table nodes_table ≡ true
unfolding keyword_of
nodes_good = refl

term_good : (k : ℕ) (t : Term) → k < 2 ^ 64 → ChildrenBelow k t → label_fits t ≡ true → good_table (term_table (t, k)) ≡ true
unfolding keyword_of
term_good k (Step label false) few below fits = rw (table_is_word k few, fits) refl
term_good k (Step label true) few below fits = rw (table_is_word k few, fits) refl
term_good k (Seq i j) few below fits =
    rw (table_is_word k few, table_is_word i (omega (arith, few, below.0)), table_is_word j (omega (arith, few, below.1))) refl
term_good k (Alt i j) few below fits =
    rw (table_is_word k few, table_is_word i (omega (arith, few, below.0)), table_is_word j (omega (arith, few, below.1))) refl
term_good k (Star i) few below fits = rw (table_is_word k few, table_is_word i (omega (arith, few, below))) refl
term_good k (Opt i) few below fits = rw (table_is_word k few, table_is_word i (omega (arith, few, below))) refl

terms_good : (terms : List Term) (k : ℕ) → k + length terms < 2 ^ 64 → ChildrenAre k terms → list_all label_fits terms ≡ true
    → list_all good_table (map term_table (with_numbers k terms)) ≡ true
terms_good [] k few are fit = refl
terms_good (t ∷ terms) k few are fit =
    let parts = and_parts (label_fits t) (list_all label_fits terms) fit in
    rw (term_good k t (omega (arith, few)) (child_first k t terms are) parts.0) (terms_good terms (k + 1) (omega (arith, few)) (children_more k t terms are) parts.1)

sources_good : (terms : ℕ) (links : List Link) (i : ℕ) → terms < 2 ^ 64 → i + length links < 2 ^ 64 → list_all (λ l. nat_lt l.term terms) links ≡ true
    → list_all good_source (sources_from i links) ≡ true
sources_good terms [] i few counted below = refl
sources_good terms (l ∷ links) i few counted below =
    let parts = and_parts (nat_lt l.term terms) (list_all (λ m. nat_lt m.term terms) links) below in
    let term : l.term < terms = lt_true l.term terms parts.0 in
    rw (table_is_word l.term (omega (arith, few, term)), alias_is_word i (omega (arith, counted))) (sources_good terms links (i + 1) few (omega (arith, counted)) parts.1)

end_good : (j : ℕ) → j < 2 ^ 64 → (good_col (col (alias_name j) (codes "src")) ≡ true) × (good_col (col (alias_name j) (codes "trg")) ≡ true)
unfolding keyword_of
end_good j few = (rw (alias_is_word j few) refl, rw (alias_is_word j few) refl)

rule_good : (terms : ℕ) (r : LinkRule) → terms < 2 ^ 64 → length r.links < 2 ^ 64 → RuleParts terms r → good_query (rule_query r) ≡ true
rule_good terms r few counted parts =
    let occurrences = occurrences_from 0 r.links in
    let ends : AliasesPass good_col 0 (length r.links) = λ j from to. end_good j (omega (arith, to, counted)) in
    let pass = occurrences_pass good_col r.links 0 ends in
    rw (
      heads_pass good_col occurrences r.heads pass (heads_found r.links r.heads parts.heads),
      sources_good terms r.links 0 few (omega (arith, counted)) parts.below,
      equations_pass good_col good_right (λ c. refl) [] occurrences refl pass,
    ) refl

rules_good : (terms : ℕ) (rules : List LinkRule) → terms < 2 ^ 64 → list_all (is_link_rule terms) rules ≡ true → list_all has_few_links rules ≡ true
    → list_all good_query (map rule_query rules) ≡ true
rules_good terms [] few are counted = refl
rules_good terms (r ∷ rules) few are counted =
    let first = and_parts (is_link_rule terms r) (list_all (is_link_rule terms) rules) are in
    let links = and_parts (has_few_links r) (list_all has_few_links rules) counted in
    rw (rule_good terms r few (lt_true (length r.links) (2 ^ 64) links.0) (rule_parts terms r first.0)) (rules_good terms rules few first.1 links.1)

pub printed_is_good : (terms : List Term) (rules : List LinkRule) → ArePrintable terms rules → good_reading (printed_of terms rules) ≡ true
printed_is_good terms rules p =
    let parts = rules_parts (length terms) rules p.rules_are in
    let children : ChildrenAre 0 terms = λ n t e. subst (λ (m : ℕ). ChildrenBelow m t) (omega arith) (p.store.children n t e) in
    rw (nodes_good, terms_good terms 0 (omega (arith, p.few_terms)) children p.labels_fit, rules_good (length terms) rules p.few_terms parts.are p.few_links) refl

-- The rules of a query as links have the query's rows.
use Rattle.std.proofs.Common.{◌≡◌, inl, inr, ℕ, true, ◌&&◌, nat_lt, List, [], ◌∷◌, ◌++◌, drop, length, map, sym, ap, subst}
use Rattle.std.specs.List.{Contains, AllByRecursion, list_all, slice_index_or}
use Rattle.std.proofs.lemmas.Bool.{and_parts}
use Rattle.graph_text.specs.declared.graphs.Triple.{Triple}
use Rattle.graph_text.proofs.MemberLemmas.{Contains-first, Contains-later, Contains-cases, Contains-none}
use Rattle.path_pairs.specs.Pairs.{Pairs}
use Rattle.query_terms.specs.declared.terms.Term.{Term}
use Rattle.query_terms.specs.Laws.{tree_of_conjunct}
use Rattle.query_terms.specs.Numbering.{numbering}
use Rattle.query_terms.specs.Trees.{tree_at}
use Rattle.query_terms.specs.Values.{ConjunctValue, RuleValue, conjuncts_of, is_rule}
use Rattle.query_terms.proofs.QueryLemmas.{conjuncts_keep}
use Rattle.query_terms.proofs.TreeLemmas.{conjuncts_are_trees}
use Rattle.rpq_meaning.specs.QueryRows.{IsTrueFor, IsRuleRow}
use Rattle.sql_emit.specs.declared.links.LinkRule.{LinkRule}
use Rattle.sql_emit.specs.Rules.{links_of, link_rules}
use Rattle.sql_emit.specs.Rows.{Leads, IsLinkRow, IsLinksRow, LinksAreQueries}

module _ (labels : List ℕ) (terms : List Term) (graph : List Triple) where
  -- the numbers have the trees of the conjuncts
  abbrev HaveTrees : List ℕ → List ConjunctValue → Type 0
  HaveTrees numbers conjuncts = map (tree_at terms) numbers ≡ map (tree_of_conjunct labels) conjuncts

  first_tree : (n : ℕ) (numbers : List ℕ) (c : ConjunctValue) (conjuncts : List ConjunctValue) → HaveTrees (n ∷ numbers) (c ∷ conjuncts) → tree_at terms n ≡ tree_of_conjunct labels c
  first_tree n numbers c conjuncts are = ap (λ trees. slice_index_or trees 0 (tree_at terms n)) are

  module _ (number : ℕ → ℕ) where
    leads_true : (conjuncts more : List ConjunctValue) (numbers : List ℕ) → HaveTrees numbers (conjuncts ++ more) → AllByRecursion (Leads graph terms number) (links_of conjuncts numbers)
        → AllByRecursion (IsTrueFor labels graph number) conjuncts
    leads_true [] more numbers are leads = tt
    leads_true (c ∷ conjuncts) more [] are leads = cc
    leads_true (c ∷ conjuncts) more (n ∷ numbers) are leads = (
      subst (λ tree. Pairs tree graph (number c.src) (number c.trg)) (first_tree n numbers c (conjuncts ++ more) are) leads.0,
      leads_true conjuncts more numbers (ap (drop 1) are) leads.1,
    )

    true_leads : (conjuncts more : List ConjunctValue) (numbers : List ℕ) → HaveTrees numbers (conjuncts ++ more) → AllByRecursion (IsTrueFor labels graph number) conjuncts
        → AllByRecursion (Leads graph terms number) (links_of conjuncts numbers)
    true_leads [] more numbers are holds = tt
    true_leads (c ∷ conjuncts) more [] are holds = cc
    true_leads (c ∷ conjuncts) more (n ∷ numbers) are holds = (
      subst (λ tree. Pairs tree graph (number c.src) (number c.trg)) (sym (first_tree n numbers c (conjuncts ++ more) are)) holds.0,
      true_leads conjuncts more numbers (ap (drop 1) are) holds.1,
    )

  later_trees : (conjuncts more : List ConjunctValue) (numbers : List ℕ) → HaveTrees numbers (conjuncts ++ more) → HaveTrees (drop (length conjuncts) numbers) more
  later_trees [] more numbers are = are
  later_trees (c ∷ conjuncts) more [] are = cc
  later_trees (c ∷ conjuncts) more (n ∷ numbers) are = later_trees conjuncts more numbers (ap (drop 1) are)

  -- a row of some rule
  abbrev IsRow : List RuleValue → List ℕ → Type 0
  IsRow rules row = (r : RuleValue) × Contains rules r × IsRuleRow labels graph r row

  links_from : (row : List ℕ) (rules : List RuleValue) (numbers : List ℕ) → HaveTrees numbers (conjuncts_of rules) → IsLinksRow graph terms (link_rules rules numbers) row → IsRow rules row
  links_from row [] numbers are is = absurd (Contains-none is.0 is.1)
  links_from row (r ∷ rules) numbers are is =
      let link : LinkRule = record { heads = r.heads; links = links_of r.conjuncts numbers } in
      elim (Contains-cases link is.0 (link_rules rules (drop (length r.conjuncts) numbers)) is.1) [
        | inl same ↦ let first : IsLinkRow graph terms link row = subst (λ l. IsLinkRow graph terms l row) (sym same) is.2 in
            (r, Contains-first r rules, (first.0, leads_true first.0 r.conjuncts (conjuncts_of rules) numbers are first.1, first.2))
        | inr later ↦ let found = links_from row rules (drop (length r.conjuncts) numbers) (later_trees r.conjuncts (conjuncts_of rules) numbers are) (is.0, later, is.2) in
            (found.0, Contains-later r found.0 rules found.1, found.2)
      ]

  links_have : (row : List ℕ) (rules : List RuleValue) (numbers : List ℕ) → HaveTrees numbers (conjuncts_of rules) → IsRow rules row → IsLinksRow graph terms (link_rules rules numbers) row
  links_have row [] numbers are is = absurd (Contains-none is.0 is.1)
  links_have row (r ∷ rules) numbers are is =
      let link : LinkRule = record { heads = r.heads; links = links_of r.conjuncts numbers } in
      let others : List LinkRule = link_rules rules (drop (length r.conjuncts) numbers) in
      elim (Contains-cases r is.0 rules is.1) [
        | inl same ↦ let first : IsRuleRow labels graph r row = subst (λ r. IsRuleRow labels graph r row) (sym same) is.2 in
            (link, Contains-first link others, (first.0, true_leads first.0 r.conjuncts (conjuncts_of rules) numbers are first.1, first.2))
        | inr later ↦ let found = links_have row rules (drop (length r.conjuncts) numbers) (later_trees r.conjuncts (conjuncts_of rules) numbers are) (is.0, later, is.2) in
            (found.0, Contains-later link found.0 others found.1, found.2)
      ]

pub links_are_queries : LinksAreQueries
links_are_queries q rules_are graph row =
    let edges : ℕ = length q.labels in
    let rules : list_all (is_rule edges) q.rules ≡ true =
    (and_parts (nat_lt 0 (length q.rules)) (list_all (is_rule edges) q.rules) (and_parts (nat_lt 0 (length q.rules) && list_all (is_rule edges) q.rules) _ rules_are).0).1 in
    let are = conjuncts_are_trees q.labels (conjuncts_of q.rules) (conjuncts_keep edges q.rules rules) in
    let n = numbering q.labels q.rules in
    (λ is. links_from q.labels n.terms graph row q.rules n.numbers are is, λ is. links_have q.labels n.terms graph row q.rules n.numbers are is)

-- The lists of terms have exactly the pairs of the terms' paths.
use Rattle.std.proofs.Common.{◌≡◌, ◌<◌, ◌≤◌, ◌+◌, inl, inr, ℕ, suc, Bool, true, false, ◌==◌, ◌&&◌, List, [], ◌∷◌, ◌++◌, length, take, fold}
use Rattle.std.proofs.Common.{slice_get, Some, refl, sym, ap, subst, ◌∙◌, arith}
use Rattle.std.specs.List.{list_any}
use Rattle.std.proofs.lemmas.Bool.{and_parts, and_from, eqb-true, eq-eqb, cases_lt}
use Rattle.std.proofs.lemmas.List.{take_more, get_or_push, get_or_append_left, length-append, length-take-le}
use Rattle.std.proofs.lemmas.List.Sums.{fold_push}
use Rattle.std.proofs.lemmas.Option.{slice_get_within, get_or_from_slice_get}
use Rattle.graph_text.specs.declared.graphs.Triple.{Triple}
use Rattle.graph_text.proofs.MemberLemmas.{list_any-Contains, Contains-list_any}
use Rattle.path_pairs.specs.Trees.{Tree}
use Rattle.path_pairs.specs.Pairs.{Pairs, HasEdge}
use Rattle.path_pairs.proofs.StarLemmas.{pairs_are_nodes}
use Rattle.node_tables.specs.Tables.{AreNodes, select, table_in}
use Rattle.node_tables.proofs.TableLemmas.{select_table, seq_table, alt_table, opt_table, star_table}
use Rattle.query_terms.specs.declared.terms.Term.{Term}
use Rattle.query_terms.specs.declared.terms.Term.TheVariants.{Step, Seq, Alt, Star, Opt}
use Rattle.query_terms.specs.Store.{ChildrenBelow, IsStore}
use Rattle.query_terms.specs.Trees.{tree_in, tree_of, with_tree}
use Rattle.rpq_meaning.specs.QueryRows.{ArePairs}
use Rattle.rpq_meaning.specs.Tables.{leads, is_step, table_of, with_table, tables_of, AreTables}

-- ---- the edges of a label

leads-sound : (graph : List Triple) (label a b : ℕ) → list_any (leads label a b) graph ≡ true → HasEdge graph label a b
leads-sound graph label a b is =
    let found = Contains-list_any (leads label a b) graph is in
    let parts = and_parts ((found.0.label == label) && (found.0.src == a)) (found.0.trg == b) found.2 in
    let front = and_parts (found.0.label == label) (found.0.src == a) parts.0 in
    (found.0, found.1, eqb-true found.0.label label front.0, eqb-true found.0.src a front.1, eqb-true found.0.trg b parts.1)

leads-complete : (graph : List Triple) (label a b : ℕ) → HasEdge graph label a b → list_any (leads label a b) graph ≡ true
leads-complete graph label a b e =
    list_any-Contains (leads label a b) graph e.0 e.1
    (and_from _ (e.0.trg == b) (and_from (e.0.label == label) (e.0.src == a) (eq-eqb e.0.label label e.2) (eq-eqb e.0.src a e.3)) (eq-eqb e.0.trg b e.4))

-- ---- the terms of a store, one after the other

module _ (graph : List Triple) (nodes : List ℕ) (are : AreNodes graph nodes) where
  step_table : (label : ℕ) (back : Bool) → ArePairs graph (Tree.Step label back) (select (is_step graph label back) nodes)
  step_table label true =
      select_table graph nodes are (Pairs (Tree.Step label true) graph) (pairs_are_nodes (Tree.Step label true) graph) (is_step graph label true)
      (λ a b node is. leads-sound graph label b a is) (λ a b e. leads-complete graph label b a e)
  step_table label false =
      select_table graph nodes are (Pairs (Tree.Step label false) graph) (pairs_are_nodes (Tree.Step label false) graph) (is_step graph label false)
      (λ a b node is. leads-sound graph label a b is) (λ a b e. leads-complete graph label a b e)

  record Related (trees : List Tree) (tables : List (List (ℕ × ℕ))) : Type 0 where
    many : length tables ≡ length trees
    each : (k : ℕ) → k < length trees → ArePairs graph (tree_in trees k) (table_in tables k)

  term_table : (trees : List Tree) (tables : List (List (ℕ × ℕ))) → Related trees tables → (t : Term) → ChildrenBelow (length trees) t
      → ArePairs graph (tree_of trees t) (table_of graph nodes tables t)
  term_table trees tables so_far (Step label back) below = step_table label back
  term_table trees tables so_far (Seq first second) below =
      let p = tree_in trees first in
      let q = tree_in trees second in
      seq_table graph nodes are (Pairs p graph) (pairs_are_nodes p graph) (table_in tables first) (so_far.each first below.0)
      (Pairs q graph) (pairs_are_nodes q graph) (table_in tables second) (so_far.each second below.1)
  term_table trees tables so_far (Alt left right) below =
      let p = tree_in trees left in
      let q = tree_in trees right in
      alt_table graph nodes are (Pairs p graph) (pairs_are_nodes p graph) (table_in tables left) (so_far.each left below.0)
      (Pairs q graph) (pairs_are_nodes q graph) (table_in tables right) (so_far.each right below.1)
  term_table trees tables so_far (Star child) below =
      let p = tree_in trees child in
      star_table graph nodes are (Pairs p graph) (pairs_are_nodes p graph) (table_in tables child) (so_far.each child below)
  term_table trees tables so_far (Opt child) below =
      let p = tree_in trees child in
      opt_table graph nodes are (Pairs p graph) (pairs_are_nodes p graph) (table_in tables child) (so_far.each child below)

  related_more : (trees : List Tree) (tables : List (List (ℕ × ℕ))) (tree : Tree) (table : List (ℕ × ℕ)) → Related trees tables → ArePairs graph tree table
      → Related (trees ++ tree ∷ []) (tables ++ table ∷ [])
  related_more trees tables tree table so_far is = record {
    many = omega (arith, so_far.many, length-append trees (tree ∷ []), length-append tables (table ∷ []));
    each = λ k within. elim (cases_lt k (length trees)) [
      | inl before ↦ let t : tree_in (trees ++ tree ∷ []) k ≡ tree_in trees k = get_or_append_left trees (tree ∷ []) (Tree.Step 0 false) k before in
          let l : table_in (tables ++ table ∷ []) k ≡ table_in tables k = get_or_append_left tables (table ∷ []) [] k (omega (arith, before, so_far.many)) in
          subst (λ p. ArePairs graph p (table_in (tables ++ table ∷ []) k)) (sym t) (subst (λ xs. ArePairs graph (tree_in trees k) xs) (sym l) (so_far.each k before))
      | inr last ↦ let at : length trees ≡ k = omega (arith, last, within, length-append trees (tree ∷ [])) in
          let t : tree_in (trees ++ tree ∷ []) k ≡ tree = get_or_push trees tree (Tree.Step 0 false) k at in
          let l : table_in (tables ++ table ∷ []) k ≡ table = get_or_push tables table [] k (so_far.many ∙ at) in
          subst (λ p. ArePairs graph p (table_in (tables ++ table ∷ []) k)) (sym t) (subst (λ xs. ArePairs graph tree xs) (sym l) is)
    ];
  }

  related_all : (trees : List Tree) (tables : List (List (ℕ × ℕ))) (terms : List Term) → Related trees tables
      → ((i : ℕ) (t : Term) → slice_get terms i ≡ Some t → ChildrenBelow (length trees + i) t) → Related (fold with_tree trees terms) (fold (with_table graph nodes) tables terms)
  related_all trees tables [] so_far below = so_far
  related_all trees tables (t ∷ terms) so_far below =
      related_all (with_tree trees t) (with_table graph nodes tables t) terms
      (related_more trees tables (tree_of trees t) (table_of graph nodes tables t) so_far
      (term_table trees tables so_far t (subst (λ n. ChildrenBelow n t) (omega arith) (below 0 t refl))))
      (λ i u at. subst (λ n. ChildrenBelow n u) (omega (arith, length-append trees (tree_of trees t ∷ []))) (below (suc i) u at))

  long_trees : (trees : List Tree) (terms : List Term) → length (fold with_tree trees terms) ≡ length trees + length terms
  long_trees trees [] = omega arith
  long_trees trees (t ∷ terms) = omega (arith, long_trees (with_tree trees t) terms, length-append trees (tree_of trees t ∷ []))

  pub tables_are : (terms : List Term) → IsStore terms → AreTables graph terms (tables_of graph nodes terms)
  tables_are terms store =
      let related = related_all [] [] terms (record { many = refl; each = λ k less. absurd (omega (arith, less)) }) (λ i t at. subst (λ n. ChildrenBelow n t) (omega arith) (store.children i t at)) in
      record {
        many = omega (arith, related.many, long_trees [] terms);
        each = λ n less. related.each n (omega (arith, less, long_trees [] terms));
      }

-- the list of one term more
pub tables_more : (graph : List Triple) (nodes : List ℕ) (terms : List Term) (n : ℕ) (t : Term) → slice_get terms n ≡ Some t
    → tables_of graph nodes (take (n + 1) terms) ≡ tables_of graph nodes (take n terms) ++ table_of graph nodes (tables_of graph nodes (take n terms)) t ∷ []
tables_more graph nodes terms n t at =
    ap (tables_of graph nodes) (take_more terms n t (slice_get_within terms n t at) ∙ ap (λ x. take n terms ++ x ∷ []) (get_or_from_slice_get terms n t t at))
    ∙ fold_push (with_table graph nodes) [] (take n terms) t

-- there are as many lists as terms
pub length_tables : (graph : List Triple) (nodes : List ℕ) (tables : List (List (ℕ × ℕ))) (terms : List Term) → length (fold (with_table graph nodes) tables terms) ≡ length tables + length terms
length_tables graph nodes tables [] = omega arith
length_tables graph nodes tables (t ∷ terms) = omega (arith, length_tables graph nodes (with_table graph nodes tables t) terms, length-append tables (table_of graph nodes tables t ∷ []))

pub length_tables_of : (graph : List Triple) (nodes : List ℕ) (terms : List Term) (n : ℕ) → n ≤ length terms → length (tables_of graph nodes (take n terms)) ≡ n
length_tables_of graph nodes terms n within = omega (arith, length_tables graph nodes [] (take n terms), length-take-le n terms within)

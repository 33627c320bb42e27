-- The tables of terms have the pairs of their trees.
use Rattle.std.proofs.Common.{◌≡◌, ◌<◌, inl, inr, ℕ, zero, suc, ◌+◌, ◌^◌, true, false, bytes_eq, Some, List, [], ◌∷◌, codes, drop, fold, length, map, option_map, unwrap_or, slice_get, refl, sym, ap, subst, ◌∙◌, arith}
use Rattle.std.proofs.lemmas.Bool.{cases_lt}
use Rattle.std.proofs.lemmas.Fmt.{decimal_injective}
use Rattle.std.proofs.lemmas.List.{length-append, get_or_append_left, get_or_push}
use Rattle.graph_text.specs.declared.graphs.Triple.{Triple}
use Rattle.path_pairs.specs.Trees.{Tree}
use Rattle.path_pairs.specs.Pairs.{Pairs}
use Rattle.path_pairs.specs.Rounds as rounds
use Rattle.path_pairs.proofs.StarLemmas.{stars_agree}
use Rattle.query_terms.specs.declared.terms.Term.{Term}
use Rattle.query_terms.specs.declared.terms.Term.TheVariants.{Step, Seq, Alt, Star, Opt}
use Rattle.query_terms.specs.Store.{ChildrenBelow, IsStore}
use Rattle.sql_emit.specs.Numbered.{with_numbers}
use Rattle.query_terms.specs.Trees.{tree_in, tree_of, with_tree, trees_of}
use Rattle.sql_read.specs.Grammar.{Query, Table}
use Rattle.sql_read.specs.Conditions.{Header, edge_header, header_of, headers_after}
use Rattle.sql_mean.specs.Selects.{IsSelectRow, IsUnionRow}
use Rattle.sql_mean.specs.Tables.{With, takes_itself, InRound, IsTableRow, After}
use Rattle.sql_mean.specs.Rows.{edge_row, IsEdgeRow, AtFirst, headers_of, Has}
use Rattle.sql_mean.proofs.NameLemmas.{same_name, other_name, columns_here, columns_there, with_here, from_here, with_there, from_there}
use Rattle.sql_mean.proofs.SelectLemmas.{union_first, union_later, from_union, from_one, plain_row, from_plain, round_row, from_rounds}
use Rattle.sql_emit.specs.declared.links.LinkRule.{LinkRule}
use Rattle.sql_emit.specs.Reading.{table_name, ends_of_edges, nodes_table, term_table, body_of, zero_steps, pairs_of, composed, printed_of}
use Rattle.sql_emit.specs.Rows.{IsPairRow, TablesAreTerms}
use Rattle.sql_emit.proofs.PairLemmas.{pair_columns, HasPairs, HasEdges, HasNodes, pairs_has, pairs_from, composed_has, composed_from, edges_has, edges_from, ends_has, ends_from, zero_has, zero_from}

-- ---- names

pub table_names : (i j : ℕ) → i < 2 ^ 64 → j < 2 ^ 64 → (i ≡ j → ⊥) → bytes_eq (table_name i) (table_name j) ≡ false
table_names i j few few_j differ = other_name (table_name i) (table_name j) (λ same. differ (decimal_injective i j few few_j (ap (drop 1) same)))

-- ---- one table more

module _ (headers : List Header) (Has : List ℕ → List ℕ → Type 0) (h : Header) (IsRow : List ℕ → Type 0) where
  abbrev more : List ℕ → List ℕ → Type 0
  more = With Has h.name IsRow

  pairs_there : (name : List ℕ) (R : ℕ → ℕ → Type 0) → bytes_eq h.name name ≡ false → HasPairs headers Has name R → HasPairs (h ∷ headers) more name R
  pairs_there name R other pairs = record {
    columns = columns_there h headers name other ∙ pairs.columns;
    from = λ row is. pairs.from row (from_there Has h.name IsRow row name other is);
    has = λ a b related. with_there Has h.name IsRow (a ∷ b ∷ []) name other (pairs.has a b related);
  }

  pairs_here : (R : ℕ → ℕ → Type 0) → h.columns ≡ pair_columns → ((row : List ℕ) → IsRow row → IsPairRow R row) → ((a b : ℕ) → R a b → IsRow (a ∷ b ∷ []))
      → HasPairs (h ∷ headers) more h.name R
  pairs_here R columns from has = record {
    columns = columns_here h headers ∙ ap (λ cs. Some cs) columns;
    from = λ row is. from row (from_here Has h.name IsRow row is);
    has = λ a b related. with_here Has h.name IsRow (a ∷ b ∷ []) (has a b related);
  }

  edges_there : (graph : List Triple) → bytes_eq h.name (codes "edge") ≡ false → HasEdges headers Has graph → HasEdges (h ∷ headers) more graph
  edges_there graph other edges = record {
    columns = columns_there h headers (codes "edge") other ∙ edges.columns;
    from = λ row is. edges.from row (from_there Has h.name IsRow row (codes "edge") other is);
    has = λ t among. with_there Has h.name IsRow (edge_row t) (codes "edge") other (edges.has t among);
  }

  nodes_there : (graph : List Triple) → bytes_eq h.name (codes "nodes") ≡ false → HasNodes headers Has graph → HasNodes (h ∷ headers) more graph
  nodes_there graph other nodes = record {
    columns = columns_there h headers (codes "nodes") other ∙ nodes.columns;
    from = λ row is. nodes.from row (from_there Has h.name IsRow row (codes "nodes") other is);
    has = λ n node. with_there Has h.name IsRow (n ∷ []) (codes "nodes") other (nodes.has n node);
  }

-- the edges, the nodes and the terms so far
pub record Says (graph : List Triple) (headers : List Header) (Has : List ℕ → List ℕ → Type 0) (trees : List Tree) : Type 0 where
  pub edges : HasEdges headers Has graph
  pub nodes : HasNodes headers Has graph
  pub terms : (k : ℕ) → k < length trees → HasPairs headers Has (table_name k) (Pairs (tree_in trees k) graph)

module _ (graph : List Triple) (headers : List Header) (Has : List ℕ → List ℕ → Type 0) (trees : List Tree) (says : Says graph headers Has trees) (k : ℕ)
    (last : length trees ≡ k) (few : k < 2 ^ 64) where
  -- the name of an earlier table isn't that of this one
  earlier : (i : ℕ) → i < length trees → bytes_eq (table_name i) (table_name k) ≡ false
  earlier i below = table_names i k (omega (arith, below, last, few)) few (λ same. absurd (omega (arith, below, last, same)))

  this : (i : ℕ) → i < length trees → bytes_eq (table_name k) (table_name i) ≡ false
  this i below = table_names k i few (omega (arith, below, last, few)) (λ same. absurd (omega (arith, below, last, same)))

  abbrev made : Term → Table
  made t = term_table (t, k)

  -- ---- a repetition, round by round

  module _ (c : ℕ) (below : c < length trees) where
    abbrev R : ℕ → ℕ → Type 0
    R = Pairs (tree_in trees c) graph

    -- the table as it is after a round, and the child's table beside it
    abbrev in_round : ℕ → List ℕ → Type 0
    in_round n = InRound headers Has (made (Star c)) n

    record IsRound (n : ℕ) : Type 0 where
      from : (row : List ℕ) → InRound headers Has (made (Star c)) n row → IsPairRow (rounds.InRound graph R n) row
      has : (a b : ℕ) → rounds.InRound graph R n a b → InRound headers Has (made (Star c)) n (a ∷ b ∷ [])

    round : (n : ℕ) → IsRound n
    round zero = record {
      from = λ row is. zero_from headers Has graph says.nodes row (from_one headers Has row zero_steps is);
      has = λ a b pair. union_first headers Has (a ∷ b ∷ []) zero_steps [] (subst (λ x. IsSelectRow headers Has zero_steps (a ∷ x ∷ [])) pair.1 (zero_has headers Has graph says.nodes a pair.0));
    }
    round (suc n) =
        let h : Header = header_of (made (Star c)) in
        let itself : HasPairs (h ∷ headers) (With Has (table_name k) (in_round n)) (table_name k) (rounds.InRound graph R n) =
        pairs_here headers Has h (in_round n) (rounds.InRound graph R n) refl (round n).from (round n).has in
        let child : HasPairs (h ∷ headers) (With Has (table_name k) (in_round n)) (table_name c) R = pairs_there headers Has h (in_round n) (table_name c) R (this c below) (says.terms c below) in
        record {
          from = λ row is. elim is [
            | inl before ↦ let p = (round n).from row before in (p.0, p.1, inl p.2, p.3)
            | inr more ↦ let p = composed_from (h ∷ headers) (With Has (table_name k) (in_round n)) k (rounds.InRound graph R n) itself c R child (codes "r") (codes "s") refl row
                (from_one (h ∷ headers) (With Has (table_name k) (in_round n)) row (composed k (codes "r") c (codes "s")) more) in
                (p.0, p.1, inr p.2, p.3)
          ];
          has = λ a b pair. elim pair [
            | inl before ↦ inl ((round n).has a b before)
            | inr more ↦ inr (union_first (h ∷ headers) (With Has (table_name k) (in_round n)) (a ∷ b ∷ []) (composed k (codes "r") c (codes "s")) []
                (composed_has (h ∷ headers) (With Has (table_name k) (in_round n)) k (rounds.InRound graph R n) itself c R child (codes "r") (codes "s") refl a more.0 b more.1 more.2))
          ];
        }

    -- the numbers of a pair are those of its row
    from_pair : (n a b : ℕ) → InRound headers Has (made (Star c)) n (a ∷ b ∷ []) → rounds.InRound graph R n a b
    from_pair n a b is =
        let p = (round n).from (a ∷ b ∷ []) is in
        let first : a ≡ p.0 = ap (λ r. head_or r) p.3 in
        let second : b ≡ p.1 = ap (λ r. head_or (drop 1 r)) p.3 in
        subst (λ x. rounds.InRound graph R n x b) (sym first) (subst (λ y. rounds.InRound graph R n p.0 y) (sym second) p.2)
      where
        head_or : List ℕ → ℕ
        head_or [] = 0
        head_or (x ∷ xs) = x

    takes : takes_itself (made (Star c)) ≡ true
    takes = rw (same_name (table_name k)) refl

    star_from : (row : List ℕ) → IsTableRow headers Has (made (Star c)) row → IsPairRow (Pairs (Tree.Star (tree_in trees c)) graph) row
    star_from row is =
        let s = from_rounds headers Has (made (Star c)) row takes is in
        let p = (round s.round).from row s.is_row in (
          p.0,
          p.1,
          (stars_agree (tree_in trees c) graph p.0 p.1).rounds.1 (record {
            round = s.round;
            stable = λ a b pair. from_pair s.round a b (s.stable (a ∷ b ∷ []) ((round (suc s.round)).has a b pair));
            row = p.2;
          }),
          p.3,
        )

    star_has : (a b : ℕ) → Pairs (Tree.Star (tree_in trees c)) graph a b → IsTableRow headers Has (made (Star c)) (a ∷ b ∷ [])
    star_has a b pair =
        let s = (stars_agree (tree_in trees c) graph a b).rounds.0 pair in
        round_row headers Has (made (Star c)) (a ∷ b ∷ []) takes (record {
          round = s.round;
          stable = λ row is. let p = (round (suc s.round)).from row is in subst (in_round s.round) (sym p.3) ((round s.round).has p.0 p.1 (s.stable p.0 p.1 p.2));
          is_row = (round s.round).has a b s.row;
        })

  -- ---- each kind of term

  -- the table has these rows
  abbrev MeansPairs : Term → (ℕ → ℕ → Type 0) → Type 0
  MeansPairs t R = ((row : List ℕ) → IsTableRow headers Has (made t) row → IsPairRow R row) × ((a b : ℕ) → R a b → IsTableRow headers Has (made t) (a ∷ b ∷ []))

  -- one select of pairs
  one_select : (t : Term) (R : ℕ → ℕ → Type 0) → takes_itself (made t) ≡ false → ((row : List ℕ) → IsUnionRow headers Has (body_of k t) row → IsPairRow R row)
      → ((a b : ℕ) → R a b → IsUnionRow headers Has (body_of k t) (a ∷ b ∷ [])) → MeansPairs t R
  one_select t R plain from has = (
    λ row is. from row (from_plain headers Has (made t) row plain is),
    λ a b pair. plain_row headers Has (made t) (a ∷ b ∷ []) plain (has a b pair),
  )

  term_means : (t : Term) → ChildrenBelow (length trees) t → MeansPairs t (Pairs (tree_of trees t) graph)
  term_means (Step label false) below =
      one_select (Step label false) (Pairs (Tree.Step label false) graph) refl
      (λ row is. let e = edges_from headers Has graph says.edges label (codes "src") (codes "trg") row (from_one headers Has row _ is) in
      (e.0.src, e.0.trg, (e.0, e.1, e.2, refl, refl), e.3))
      (λ a b e. union_first headers Has (a ∷ b ∷ []) _ []
      (subst (IsSelectRow headers Has _) (λ i. e.3 i ∷ e.4 i ∷ []) (edges_has headers Has graph says.edges label (codes "src") (codes "trg") e.0 e.1 e.2)))
  term_means (Step label true) below =
      one_select (Step label true) (Pairs (Tree.Step label true) graph) refl
      (λ row is. let e = edges_from headers Has graph says.edges label (codes "trg") (codes "src") row (from_one headers Has row _ is) in
      (e.0.trg, e.0.src, (e.0, e.1, e.2, refl, refl), e.3))
      (λ a b e. union_first headers Has (a ∷ b ∷ []) _ []
      (subst (IsSelectRow headers Has _) (λ i. e.4 i ∷ e.3 i ∷ []) (edges_has headers Has graph says.edges label (codes "trg") (codes "src") e.0 e.1 e.2)))
  term_means (Seq first second) below =
      let R = Pairs (tree_in trees first) graph in
      let S = Pairs (tree_in trees second) graph in
      let one = says.terms first below.0 in
      let other = says.terms second below.1 in
      one_select (Seq first second) (Pairs (Tree.Seq (tree_in trees first) (tree_in trees second)) graph) (rw (earlier first below.0, earlier second below.1) refl)
      (λ row is. composed_from headers Has first R one second S other (codes "a") (codes "b") refl row (from_one headers Has row (composed first (codes "a") second (codes "b")) is))
      (λ a c by. union_first headers Has (a ∷ c ∷ []) (composed first (codes "a") second (codes "b")) []
      (composed_has headers Has first R one second S other (codes "a") (codes "b") refl a by.0 c by.1 by.2))
  term_means (Alt left right) below =
      let R = Pairs (tree_in trees left) graph in
      let S = Pairs (tree_in trees right) graph in
      let one = says.terms left below.0 in
      let other = says.terms right below.1 in
      let last : Query = pairs_of right (codes "b") in
      one_select (Alt left right) (Pairs (Tree.Alt (tree_in trees left) (tree_in trees right)) graph) (rw (earlier left below.0, earlier right below.1) refl)
      (λ row is. elim (from_union headers Has row (pairs_of left (codes "a")) (last ∷ []) is) [
        | inl from_left ↦ let p = pairs_from headers Has left R one (codes "a") row from_left in (p.0, p.1, inl p.2, p.3)
        | inr later ↦ let p = pairs_from headers Has right S other (codes "b") row (from_one headers Has row last later) in (p.0, p.1, inr p.2, p.3)
      ])
      (λ a b either. elim either [
        | inl pair ↦ union_first headers Has (a ∷ b ∷ []) (pairs_of left (codes "a")) (last ∷ []) (pairs_has headers Has left R one (codes "a") a b pair)
        | inr pair ↦ union_later headers Has (a ∷ b ∷ []) (pairs_of left (codes "a")) (last ∷ [])
            (union_first headers Has (a ∷ b ∷ []) last [] (pairs_has headers Has right S other (codes "b") a b pair))
      ])
  term_means (Star child) below = (star_from child below, star_has child below)
  term_means (Opt child) below =
      let R = Pairs (tree_in trees child) graph in
      let one = says.terms child below in
      let last : Query = pairs_of child (codes "a") in
      one_select (Opt child) (Pairs (Tree.Opt (tree_in trees child)) graph) (rw (earlier child below) refl)
      (λ row is. elim (from_union headers Has row zero_steps (last ∷ []) is) [
        | inl same ↦ let p = zero_from headers Has graph says.nodes row same in (p.0, p.1, inr p.2, p.3)
        | inr later ↦ let p = pairs_from headers Has child R one (codes "a") row (from_one headers Has row last later) in (p.0, p.1, inl p.2, p.3)
      ])
      (λ a b either. elim either [
        | inl pair ↦ union_later headers Has (a ∷ b ∷ []) zero_steps (last ∷ []) (union_first headers Has (a ∷ b ∷ []) last [] (pairs_has headers Has child R one (codes "a") a b pair))
        | inr same ↦ union_first headers Has (a ∷ b ∷ []) zero_steps (last ∷ [])
            (subst (λ x. IsSelectRow headers Has zero_steps (a ∷ x ∷ [])) same.1 (zero_has headers Has graph says.nodes a same.0))
      ])

  -- ---- one term more

  says_more : (t : Term) → ChildrenBelow (length trees) t
      → Says graph (header_of (made t) ∷ headers) (With Has (table_name k) (IsTableRow headers Has (made t))) (with_tree trees t)
  says_more t below =
      let h : Header = header_of (made t) in
      let rows : List ℕ → Type 0 = IsTableRow headers Has (made t) in
      let means = term_means t below in
      record {
        edges = edges_there headers Has h rows graph refl says.edges;
        nodes = nodes_there headers Has h rows graph refl says.nodes;
        terms = λ i within. elim (cases_lt i (length trees)) [
          | inl before ↦ let same : tree_in trees i ≡ tree_in (with_tree trees t) i = sym (get_or_append_left trees (tree_of trees t ∷ []) (Tree.Step 0 false) i before) in
              pairs_there headers Has h rows (table_name i) (Pairs (tree_in (with_tree trees t) i) graph) (this i before)
              (subst (λ tree. HasPairs headers Has (table_name i) (Pairs tree graph)) same (says.terms i before))
          | inr later ↦ let at : length trees ≡ i = omega (arith, later, within, length-append trees (tree_of trees t ∷ [])) in
              let same : tree_of trees t ≡ tree_in (with_tree trees t) i = sym (get_or_push trees (tree_of trees t) (Tree.Step 0 false) i at) in
              subst (λ n. HasPairs (h ∷ headers) (With Has (table_name k) rows) (table_name n) (Pairs (tree_in (with_tree trees t) i) graph)) (sym last ∙ at)
              (subst (λ tree. HasPairs (h ∷ headers) (With Has (table_name k) rows) (table_name k) (Pairs tree graph)) same
              (pairs_here headers Has h rows (Pairs (tree_of trees t) graph) refl means.0 means.1))
        ];
      }

-- ---- all terms

says_all : (graph : List Triple) (terms : List Term) (n : ℕ) (headers : List Header) (Has : List ℕ → List ℕ → Type 0) (trees : List Tree) → Says graph headers Has trees
    → length trees ≡ n → n + length terms < 2 ^ 64 → ((i : ℕ) (t : Term) → slice_get terms i ≡ Some t → ChildrenBelow (n + i) t)
    → Says graph (headers_after headers (map term_table (with_numbers n terms))) (After headers Has (map term_table (with_numbers n terms))) (fold with_tree trees terms)
says_all graph [] n headers Has trees says long few below = says
says_all graph (t ∷ terms) n headers Has trees says long few below =
    let h : Header = header_of (term_table (t, n)) in
    says_all graph terms (n + 1) (h ∷ headers) (With Has (table_name n) (IsTableRow headers Has (term_table (t, n)))) (with_tree trees t)
    (says_more graph headers Has trees says n long (omega (arith, few)) t (subst (λ m. ChildrenBelow m t) (omega (arith, long)) (below 0 t refl)))
    (omega (arith, long, length-append trees (tree_of trees t ∷ [])))
    (omega (arith, few))
    (λ i u at. subst (λ m. ChildrenBelow m u) (omega arith) (below (suc i) u at))

-- ---- the edges and the nodes

edges_first : (graph : List Triple) → HasEdges (edge_header ∷ []) (AtFirst graph) graph
edges_first graph = record {
  columns = refl;
  from = λ row is. from_here (λ name row. ⊥) (codes "edge") (IsEdgeRow graph) row is;
  has = λ t among. with_here (λ name row. ⊥) (codes "edge") (IsEdgeRow graph) (edge_row t) (t, among, refl);
}

says_first : (graph : List Triple) → Says graph (header_of nodes_table ∷ edge_header ∷ []) (With (AtFirst graph) (codes "nodes") (IsTableRow (edge_header ∷ []) (AtFirst graph) nodes_table)) []
says_first graph =
    let headers : List Header = edge_header ∷ [] in
    let Has : List ℕ → List ℕ → Type 0 = AtFirst graph in
    let rows : List ℕ → Type 0 = IsTableRow headers Has nodes_table in
    let edges = edges_first graph in
    let one : Query = ends_of_edges (codes "src") in
    let other : Query = ends_of_edges (codes "trg") in
    record {
      edges = edges_there headers Has (header_of nodes_table) rows graph refl edges;
      nodes = record {
        columns = refl;
        from = λ row is. elim (from_union headers Has row one (other ∷ []) (from_plain headers Has nodes_table row refl (from_here Has (codes "nodes") rows row is))) [
          | inl src ↦ let e = ends_from headers Has graph edges (codes "src") row src in (e.0.src, (e.0, e.1, inl refl), e.2)
          | inr later ↦ let e = ends_from headers Has graph edges (codes "trg") row (from_one headers Has row other later) in (e.0.trg, (e.0, e.1, inr refl), e.2)
        ];
        has = λ n node. with_here Has (codes "nodes") rows (n ∷ []) (plain_row headers Has nodes_table (n ∷ []) refl (elim node.2 [
          | inl src ↦ union_first headers Has (n ∷ []) one (other ∷ []) (subst (λ x. IsSelectRow headers Has one (x ∷ [])) src (ends_has headers Has graph edges (codes "src") node.0 node.1))
          | inr trg ↦ union_later headers Has (n ∷ []) one (other ∷ [])
              (union_first headers Has (n ∷ []) other [] (subst (λ x. IsSelectRow headers Has other (x ∷ [])) trg (ends_has headers Has graph edges (codes "trg") node.0 node.1)))
        ]));
      };
      terms = λ k none. absurd (omega (arith, none));
    }

-- the edges, the nodes and all terms of the text
pub printed_says : (graph : List Triple) (terms : List Term) (rules : List LinkRule) → IsStore terms → length terms < 2 ^ 64
    → Says graph (headers_of (printed_of terms rules)) (Has (printed_of terms rules) graph) (trees_of terms)
printed_says graph terms rules store few =
    says_all graph terms 0 (header_of nodes_table ∷ edge_header ∷ []) (With (AtFirst graph) (codes "nodes") (IsTableRow (edge_header ∷ []) (AtFirst graph) nodes_table)) []
    (says_first graph) refl (omega (arith, few)) (λ i t at. subst (λ m. ChildrenBelow m t) (omega arith) (store.children i t at))

-- ---- tables by number

-- the name of the table at a place
name_at : (terms : List Term) (n k : ℕ) (t : Table) → slice_get (map term_table (with_numbers n terms)) k ≡ Some t → t.name ≡ table_name (n + k)
name_at [] n k t at = cc
name_at (u ∷ terms) n zero t at = ap (λ o. unwrap_or (option_map (λ t. t.name) o) []) (sym at) ∙ ap table_name (omega arith)
name_at (u ∷ terms) n (suc k) t at = name_at terms (n + 1) k t at ∙ ap table_name (omega arith)

-- there is a table at the place of each term
table_there : (terms : List Term) (n k : ℕ) → k < length terms → (t : Table) × (slice_get (map term_table (with_numbers n terms)) k ≡ Some t)
table_there [] n k less = absurd (omega (arith, less))
table_there (u ∷ terms) n zero less = (term_table (u, n), refl)
table_there (u ∷ terms) n (suc k) less = table_there terms (n + 1) k (omega (arith, less))

pub long_trees : (trees : List Tree) (terms : List Term) → length (fold with_tree trees terms) ≡ length trees + length terms
long_trees trees [] = omega arith
long_trees trees (t ∷ terms) = omega (arith, long_trees (with_tree trees t) terms, length-append trees (tree_of trees t ∷ []))

pub tables_are_terms : TablesAreTerms
tables_are_terms terms rules printable graph k less row =
    let pairs = (printed_says graph terms rules printable.store printable.few_terms).terms k (omega (arith, less, long_trees [] terms)) in
    let HasRow : List ℕ → Type 0 = λ name. Has (printed_of terms rules) graph name row in
    let next : suc k ≡ k + 1 = omega arith in
    let named : (t : Table) → slice_get (map term_table (with_numbers 0 terms)) k ≡ Some t → t.name ≡ table_name k = λ t at. name_at terms 0 k t at ∙ ap table_name (omega arith) in (
      λ is. pairs.from row (subst HasRow (named is.0 (subst (λ n. slice_get (printed_of terms rules).tables n ≡ Some is.0) (sym next) is.1)) is.2),
      λ pair. let t = table_there terms 0 k less in (
        t.0,
        subst (λ n. slice_get (printed_of terms rules).tables n ≡ Some t.0) next t.1,
        subst HasRow (sym (named t.0 t.1)) (subst (Has (printed_of terms rules) graph (table_name k)) (sym pair.3) (pairs.has pair.0 pair.1 pair.2)),
      ),
    )

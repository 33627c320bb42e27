-- Selects over the edges, over the nodes, and over tables of pairs.
use Rattle.std.proofs.Common.{◌≡◌, ℕ, false, bytes_eq, Some, List, [], ◌∷◌, codes, refl, sym, ap, subst, ◌∙◌}
use Rattle.std.specs.List.{Contains, AllByRecursion}
use Rattle.graph_text.specs.declared.graphs.Triple.{Triple}
use Rattle.graph_text.specs.Graph.{IsNode}
use Rattle.sql_read.specs.Grammar.{Source}
use Rattle.sql_read.specs.Conditions.{Header, edge_header, columns_of}
use Rattle.sql_mean.specs.Selects.{IsProduct, value_in, value_of, Meets, projected, IsSelectRow}
use Rattle.sql_mean.specs.Rows.{edge_row, IsEdgeRow}
use Rattle.sql_mean.proofs.NameLemmas.{same_name}
use Rattle.sql_mean.proofs.SelectLemmas.{value_first, value_later}
use Rattle.sql_emit.specs.Reading.{table_name, col, source, ends_of_edges, edges_of, zero_steps, pairs_of, composed}
use Rattle.sql_emit.specs.Rows.{IsPairRow}

abbrev pub pair_columns : List (List ℕ)
pair_columns = codes "src" ∷ codes "trg" ∷ []

-- the table has the columns and the rows of pairs
pub record HasPairs (headers : List Header) (Has : List ℕ → List ℕ → Type 0) (name : List ℕ) (R : ℕ → ℕ → Type 0) : Type 0 where
  pub columns : columns_of headers name ≡ Some pair_columns
  pub from : (row : List ℕ) → Has name row → IsPairRow R row
  pub has : (a b : ℕ) → R a b → Has name (a ∷ b ∷ [])

-- the table of the triples
pub record HasEdges (headers : List Header) (Has : List ℕ → List ℕ → Type 0) (graph : List Triple) : Type 0 where
  pub columns : columns_of headers (codes "edge") ≡ Some edge_header.columns
  pub from : (row : List ℕ) → Has (codes "edge") row → IsEdgeRow graph row
  pub has : (t : Triple) → Contains graph t → Has (codes "edge") (edge_row t)

-- the table of the nodes
pub record HasNodes (headers : List Header) (Has : List ℕ → List ℕ → Type 0) (graph : List Triple) : Type 0 where
  pub columns : columns_of headers (codes "nodes") ≡ Some (codes "v" ∷ [])
  pub from : (row : List ℕ) → Has (codes "nodes") row → (n : ℕ) × IsNode graph n × (row ≡ n ∷ [])
  pub has : (n : ℕ) → IsNode graph n → Has (codes "nodes") (n ∷ [])

module _ (headers : List Header) (Has : List ℕ → List ℕ → Type 0) where
  -- ---- tables of pairs

  pub src_value : (name alias : List ℕ) (ss : List Source) (p : List ℕ) (ps : List (List ℕ)) (a b : ℕ) → columns_of headers name ≡ Some pair_columns → p ≡ a ∷ b ∷ []
      → value_of headers (source name alias ∷ ss) (p ∷ ps) (col alias (codes "src")) ≡ a
  src_value name alias ss p ps a b columns is =
      value_first headers (source name alias) ss p ps (col alias (codes "src")) pair_columns (same_name alias) columns ∙ ap (λ r. value_in pair_columns r (codes "src")) is

  pub trg_value : (name alias : List ℕ) (ss : List Source) (p : List ℕ) (ps : List (List ℕ)) (a b : ℕ) → columns_of headers name ≡ Some pair_columns → p ≡ a ∷ b ∷ []
      → value_of headers (source name alias ∷ ss) (p ∷ ps) (col alias (codes "trg")) ≡ b
  trg_value name alias ss p ps a b columns is =
      value_first headers (source name alias) ss p ps (col alias (codes "trg")) pair_columns (same_name alias) columns ∙ ap (λ r. value_in pair_columns r (codes "trg")) is

  module _ (i : ℕ) (R : ℕ → ℕ → Type 0) (pairs : HasPairs headers Has (table_name i) R) where
    pub pairs_has : (alias : List ℕ) (a b : ℕ) → R a b → IsSelectRow headers Has (pairs_of i alias) (a ∷ b ∷ [])
    pairs_has alias a b related = record {
      product = (a ∷ b ∷ []) ∷ [];
      picked = (pairs.has a b related, tt);
      meets = tt;
      row_is = λ k. sym (src_value (table_name i) alias [] _ [] a b pairs.columns refl) k ∷ sym (trg_value (table_name i) alias [] _ [] a b pairs.columns refl) k ∷ [];
    }

    pub pairs_from : (alias row : List ℕ) → IsSelectRow headers Has (pairs_of i alias) row → IsPairRow R row
    pairs_from alias row is =
        go is.product is.picked is.row_is
      where
        go : (product : List (List ℕ)) → IsProduct Has (source (table_name i) alias ∷ []) product → row ≡ projected headers (pairs_of i alias) product → IsPairRow R row
        go [] picked are = absurd picked
        go (p ∷ []) picked are =
            let r = pairs.from p picked.0 in (
              r.0,
              r.1,
              r.2,
              are ∙ (λ k. src_value (table_name i) alias [] p [] r.0 r.1 pairs.columns r.3 k ∷ trg_value (table_name i) alias [] p [] r.0 r.1 pairs.columns r.3 k ∷ []),
            )
        go (p ∷ q ∷ more) picked are = absurd picked.1

    -- ---- two tables of pairs

    module _ (j : ℕ) (S : ℕ → ℕ → Type 0) (others : HasPairs headers Has (table_name j) S) (one other : List ℕ) (differ : bytes_eq one other ≡ false) where
      abbrev sources : List Source
      sources = source (table_name i) one ∷ source (table_name j) other ∷ []

      -- the columns of the first table
      first_src : (p q : List ℕ) (a b : ℕ) → p ≡ a ∷ b ∷ [] → value_of headers sources (p ∷ q ∷ []) (col one (codes "src")) ≡ a
      first_src p q a b is = src_value (table_name i) one (source (table_name j) other ∷ []) p (q ∷ []) a b pairs.columns is

      first_trg : (p q : List ℕ) (a b : ℕ) → p ≡ a ∷ b ∷ [] → value_of headers sources (p ∷ q ∷ []) (col one (codes "trg")) ≡ b
      first_trg p q a b is = trg_value (table_name i) one (source (table_name j) other ∷ []) p (q ∷ []) a b pairs.columns is

      -- the columns of the second table
      other_src : (p q : List ℕ) (b c : ℕ) → q ≡ b ∷ c ∷ [] → value_of headers sources (p ∷ q ∷ []) (col other (codes "src")) ≡ b
      other_src p q b c is =
          value_later headers (source (table_name i) one) (source (table_name j) other ∷ []) p (q ∷ []) (col other (codes "src")) differ
          ∙ src_value (table_name j) other [] q [] b c others.columns is

      other_trg : (p q : List ℕ) (b c : ℕ) → q ≡ b ∷ c ∷ [] → value_of headers sources (p ∷ q ∷ []) (col other (codes "trg")) ≡ c
      other_trg p q b c is =
          value_later headers (source (table_name i) one) (source (table_name j) other ∷ []) p (q ∷ []) (col other (codes "trg")) differ
          ∙ trg_value (table_name j) other [] q [] b c others.columns is

      pub composed_has : (a b c : ℕ) → R a b → S b c → IsSelectRow headers Has (composed i one j other) (a ∷ c ∷ [])
      composed_has a b c first second =
          let p : List ℕ = a ∷ b ∷ [] in
          let q : List ℕ = b ∷ c ∷ [] in
          record {
            product = p ∷ q ∷ [];
            picked = (pairs.has a b first, (others.has b c second, tt));
            meets = (first_trg p q a b refl ∙ sym (other_src p q b c refl), tt);
            row_is = λ k. sym (first_src p q a b refl) k ∷ sym (other_trg p q b c refl) k ∷ [];
          }

      pub composed_from : (row : List ℕ) → IsSelectRow headers Has (composed i one j other) row → IsPairRow (λ a c. (b : ℕ) × R a b × S b c) row
      composed_from row is =
          go is.product is.picked is.meets is.row_is
        where
          go : (product : List (List ℕ)) → IsProduct Has sources product → AllByRecursion (Meets headers sources product) (composed i one j other).equations
              → row ≡ projected headers (composed i one j other) product → IsPairRow (λ a c. (b : ℕ) × R a b × S b c) row
          go [] picked meets are = absurd picked
          go (p ∷ []) picked meets are = absurd picked.1
          go (p ∷ q ∷ []) picked meets are =
              let r = pairs.from p picked.0 in
              let s = others.from q picked.1.0 in
              let same : s.0 ≡ r.1 = sym (other_src p q s.0 s.1 s.3) ∙ sym meets.0 ∙ first_trg p q r.0 r.1 r.3 in
              (r.0, s.1, (r.1, r.2, subst (λ b. S b s.1) same s.2), are ∙ (λ k. first_src p q r.0 r.1 r.3 k ∷ other_trg p q s.0 s.1 s.3 k ∷ []))
          go (p ∷ q ∷ x ∷ more) picked meets are = absurd picked.1.1

  -- ---- the triples

  module _ (graph : List Triple) (edges : HasEdges headers Has graph) where
    edge_value : (p column : List ℕ) (t : Triple) → p ≡ edge_row t
        → value_of headers (source (codes "edge") (codes "e") ∷ []) (p ∷ []) (col (codes "e") column) ≡ value_in edge_header.columns (edge_row t) column
    edge_value p column t is =
        value_first headers (source (codes "edge") (codes "e")) [] p [] (col (codes "e") column) edge_header.columns refl edges.columns
        ∙ ap (λ r. value_in edge_header.columns r column) is

    pub edges_has : (label : ℕ) (from to : List ℕ) (t : Triple) → Contains graph t → t.label ≡ label
        → IsSelectRow headers Has (edges_of label from to) (value_in edge_header.columns (edge_row t) from ∷ value_in edge_header.columns (edge_row t) to ∷ [])
    edges_has label from to t among is = record {
      product = edge_row t ∷ [];
      picked = (edges.has t among, tt);
      meets = (edge_value (edge_row t) (codes "label") t refl ∙ is, tt);
      row_is = λ k. sym (edge_value (edge_row t) from t refl) k ∷ sym (edge_value (edge_row t) to t refl) k ∷ [];
    }

    pub edges_from : (label : ℕ) (from to row : List ℕ) → IsSelectRow headers Has (edges_of label from to) row
        → (t : Triple) × Contains graph t × (t.label ≡ label) × (row ≡ value_in edge_header.columns (edge_row t) from ∷ value_in edge_header.columns (edge_row t) to ∷ [])
    edges_from label from to row is =
        go is.product is.picked is.meets is.row_is
      where
        go : (product : List (List ℕ)) → IsProduct Has (edges_of label from to).sources product
            → AllByRecursion (Meets headers (edges_of label from to).sources product) (edges_of label from to).equations → row ≡ projected headers (edges_of label from to) product
            → (t : Triple) × Contains graph t × (t.label ≡ label) × (row ≡ value_in edge_header.columns (edge_row t) from ∷ value_in edge_header.columns (edge_row t) to ∷ [])
        go [] picked meets are = absurd picked
        go (p ∷ []) picked meets are =
            let e = edges.from p picked.0 in (
              e.0,
              e.1,
              sym (edge_value p (codes "label") e.0 e.2) ∙ meets.0,
              are ∙ (λ k. edge_value p from e.0 e.2 k ∷ edge_value p to e.0 e.2 k ∷ []),
            )
        go (p ∷ q ∷ more) picked meets are = absurd picked.1

    pub ends_has : (end : List ℕ) (t : Triple) → Contains graph t → IsSelectRow headers Has (ends_of_edges end) (value_in edge_header.columns (edge_row t) end ∷ [])
    ends_has end t among = record {
      product = edge_row t ∷ [];
      picked = (edges.has t among, tt);
      meets = tt;
      row_is = λ k. sym (edge_value (edge_row t) end t refl) k ∷ [];
    }

    pub ends_from : (end row : List ℕ) → IsSelectRow headers Has (ends_of_edges end) row
        → (t : Triple) × Contains graph t × (row ≡ value_in edge_header.columns (edge_row t) end ∷ [])
    ends_from end row is =
        go is.product is.picked is.row_is
      where
        go : (product : List (List ℕ)) → IsProduct Has (ends_of_edges end).sources product → row ≡ projected headers (ends_of_edges end) product
            → (t : Triple) × Contains graph t × (row ≡ value_in edge_header.columns (edge_row t) end ∷ [])
        go [] picked are = absurd picked
        go (p ∷ []) picked are = let e = edges.from p picked.0 in (e.0, e.1, are ∙ (λ k. edge_value p end e.0 e.2 k ∷ []))
        go (p ∷ q ∷ more) picked are = absurd picked.1

  -- ---- the nodes

  module _ (graph : List Triple) (nodes : HasNodes headers Has graph) where
    node_value : (p : List ℕ) (n : ℕ) → p ≡ n ∷ [] → value_of headers zero_steps.sources (p ∷ []) (col (codes "n") (codes "v")) ≡ n
    node_value p n is =
        value_first headers (source (codes "nodes") (codes "n")) [] p [] (col (codes "n") (codes "v")) (codes "v" ∷ []) refl nodes.columns
        ∙ ap (λ r. value_in (codes "v" ∷ []) r (codes "v")) is

    pub zero_has : (n : ℕ) → IsNode graph n → IsSelectRow headers Has zero_steps (n ∷ n ∷ [])
    zero_has n node = record {
      product = (n ∷ []) ∷ [];
      picked = (nodes.has n node, tt);
      meets = tt;
      row_is = λ k. sym (node_value (n ∷ []) n refl) k ∷ sym (node_value (n ∷ []) n refl) k ∷ [];
    }

    pub zero_from : (row : List ℕ) → IsSelectRow headers Has zero_steps row → IsPairRow (λ a b. IsNode graph a × (a ≡ b)) row
    zero_from row is =
        go is.product is.picked is.row_is
      where
        go : (product : List (List ℕ)) → IsProduct Has zero_steps.sources product → row ≡ projected headers zero_steps product → IsPairRow (λ a b. IsNode graph a × (a ≡ b)) row
        go [] picked are = absurd picked
        go (p ∷ []) picked are = let n = nodes.from p picked.0 in (n.0, n.0, (n.1, refl), are ∙ (λ k. node_value p n.0 n.2 k ∷ node_value p n.0 n.2 k ∷ []))
        go (p ∷ q ∷ more) picked are = absurd picked.1

-- The lists of paths have exactly the paths' pairs.
use Rattle.std.proofs.Common.{◌≡◌, ◌<◌, ◌+◌, inl, inr, ℕ, zero, suc, true, ◌==◌, ◌&&◌, Option, Some, None, List, [], ◌∷◌, ◌++◌, length, fold, slice_get, refl, sym, ap, subst, ◌∙◌, arith}
use Rattle.std.proofs.lemmas.Bool.{and_parts, and_from, eqb-true, eq-eqb}
use Rattle.std.proofs.lemmas.List.{get_or_push, get_or_append_left, length-append}
use Rattle.std.proofs.lemmas.List.Sums.{fold_push, fold-append}
use Rattle.std.proofs.lemmas.Slice.Eq.{bytes_eq-Decides}
use Rattle.graph_text.specs.declared.graphs.Triple.{Triple}
use Rattle.graph_text.specs.Graph.{IsNode}
use Rattle.graph_text.proofs.MemberLemmas.{list_any-Contains, Contains-list_any}
use Rattle.path_pairs.specs.Rounds.{Visited, node_count}
use Rattle.path_pairs.proofs.StarLemmas.{Chain-from_Visited, Visited-from_Chain}
use Rattle.node_tables.specs.Tables.{IsTable, RelatesNodes, AreNodes, select, joins, rounds, table_in}
use Rattle.node_tables.proofs.TableLemmas.{has-Contains, Contains-has, select_table, seq_table, alt_table, opt_table, star_table}
use Rattle.sparql_read.specs.Grammar.{Path, Pattern, Iri, Inverse, Seq, Alt, Star, Plus, Opt}
use Rattle.sparql_read.specs.Layout as laid
use Rattle.sparql_read.specs.Layout.{Node, Entry, number, nodes, all_nodes, entries}
use Rattle.sparql_read.proofs.PlaceLemmas.{numbers}
use Rattle.sparql_mean.specs.PathRows.{IsNamedEdge, IsRepeated, PathPairs}
use Rattle.sparql_mean.specs.Tables.{is_name, leads, is_edge, has_back, table_of, with_table, tables_of}

-- ---- paths lead from nodes to nodes

visited_end : (graph : List Triple) (R : ℕ → ℕ → Type 0) → RelatesNodes graph R → (k a b : ℕ) → IsNode graph a → Visited R a k b → IsNode graph b
visited_end graph R within zero a b node v = subst (IsNode graph) v node
visited_end graph R within (suc k) a b node v =
    elim v [ inl before ↦ visited_end graph R within k a b node before | inr more ↦ (within more.0 b more.2).1 ]

repeated_nodes : (graph : List Triple) (R : ℕ → ℕ → Type 0) → RelatesNodes graph R → RelatesNodes graph (λ a b. IsRepeated graph R a b)
repeated_nodes graph R within a b h = (h.0, visited_end graph R within (node_count graph) a b h.0 h.1)

pub path_nodes : (names : List (List ℕ)) (p : Path) (graph : List Triple) (a b : ℕ) → PathPairs names p graph a b → IsNode graph a × IsNode graph b
path_nodes names (Iri name) graph a b e = ((e.0, e.1, inl e.3), (e.0, e.1, inr e.4))
path_nodes names (Inverse p) graph a b h = let both = path_nodes names p graph b a h in (both.1, both.0)
path_nodes names (Seq p q) graph a c h = ((path_nodes names p graph a h.0 h.1).0, (path_nodes names q graph h.0 c h.2).1)
path_nodes names (Alt p q) graph a b h = elim h [ inl one ↦ path_nodes names p graph a b one | inr other ↦ path_nodes names q graph a b other ]
path_nodes names (Star p) graph a b h = repeated_nodes graph (PathPairs names p graph) (path_nodes names p graph) a b h
path_nodes names (Plus p) graph a c h =
    ((path_nodes names p graph a h.0 h.1).0, (repeated_nodes graph (PathPairs names p graph) (path_nodes names p graph) h.0 c h.2).1)
path_nodes names (Opt p) graph a b h =
    elim h [ inl one ↦ path_nodes names p graph a b one | inr same ↦ (same.0, subst (IsNode graph) same.1 same.0) ]

-- ---- the edges of a name

name_is : (own : Option (List ℕ)) (name : List ℕ) → is_name own name ≡ true → own ≡ Some name
name_is None name is = cc
name_is (Some own) name is = ap (λ x. Some x) ((bytes_eq-Decides own name).0 is)

is_its_name : (own : Option (List ℕ)) (name : List ℕ) → own ≡ Some name → is_name own name ≡ true
is_its_name own name is = ap (λ o. is_name o name) is ∙ (bytes_eq-Decides name name).1 refl

edge-sound : (names : List (List ℕ)) (name : List ℕ) (graph : List Triple) (a b : ℕ) → is_edge names name graph a b ≡ true → IsNamedEdge names name graph a b
edge-sound names name graph a b is =
    let found = Contains-list_any (leads names name a b) graph is in
    let parts = and_parts (is_name (slice_get names found.0.label) name && (found.0.src == a)) (found.0.trg == b) found.2 in
    let front = and_parts (is_name (slice_get names found.0.label) name) (found.0.src == a) parts.0 in
    (found.0, found.1, name_is (slice_get names found.0.label) name front.0, eqb-true found.0.src a front.1, eqb-true found.0.trg b parts.1)

edge-complete : (names : List (List ℕ)) (name : List ℕ) (graph : List Triple) (a b : ℕ) → IsNamedEdge names name graph a b → is_edge names name graph a b ≡ true
edge-complete names name graph a b e =
    list_any-Contains (leads names name a b) graph e.0 e.1
    (and_from _ (e.0.trg == b)
    (and_from (is_name (slice_get names e.0.label) name) (e.0.src == a) (is_its_name (slice_get names e.0.label) name e.2) (eq-eqb e.0.src a e.3))
    (eq-eqb e.0.trg b e.4))

-- ---- the patterns of lists

-- an entry of a list is the pattern, and the list of its path has the path's pairs
pub record IsFor (names : List (List ℕ)) (graph : List Triple) (tables : List (List (ℕ × ℕ))) (e : Entry) (p : Pattern) : Type 0 where
  pub subject : e.subject ≡ p.subject
  pub object : e.object ≡ p.object
  pub pairs : IsTable (PathPairs names p.path graph) (table_in tables e.path)

-- the entries are the patterns, one by one
abbrev pub AreFor : List (List ℕ) → List Triple → List (List (ℕ × ℕ)) → List Entry → List Pattern → Type 0
AreFor names graph tables [] [] = Unit {0}
AreFor names graph tables [] (p ∷ ps) = ⊥
AreFor names graph tables (e ∷ es) [] = ⊥
AreFor names graph tables (e ∷ es) (p ∷ ps) = IsFor names graph tables e p × AreFor names graph tables es ps

-- ---- the lists of paths, one after the other

module _ (names : List (List ℕ)) (graph : List Triple) (ns : List ℕ) (are : AreNodes graph ns) where
  -- the lists of further paths
  abbrev after : List (List (ℕ × ℕ)) → List Node → List (List (ℕ × ℕ))
  after done paths = fold (with_table names graph ns) done paths

  abbrev Related : Path → List (ℕ × ℕ) → Type 0
  Related p pairs = IsTable (PathPairs names p graph) pairs

  long : (done : List (List (ℕ × ℕ))) (paths : List Node) → length (after done paths) ≡ length done + length paths
  long done [] = omega arith
  long done (path ∷ paths) = omega (arith, long (with_table names graph ns done path) paths, length-append done (table_of names graph ns done path ∷ []))

  kept : (done : List (List (ℕ × ℕ))) (paths : List Node) (k : ℕ) → k < length done → table_in (after done paths) k ≡ table_in done k
  kept done [] k less = refl
  kept done (path ∷ paths) k less =
      kept (with_table names graph ns done path) paths k (omega (arith, less, length-append done (table_of names graph ns done path ∷ [])))
      ∙ get_or_append_left done (table_of names graph ns done path ∷ []) [] k less

  last : (done : List (List (ℕ × ℕ))) (paths : List Node) (path : Node) (k : ℕ) → length (after done paths) ≡ k
      → table_in (after done (paths ++ path ∷ [])) k ≡ table_of names graph ns (after done paths) path
  last done paths path k long_so =
      ap (λ tables. table_in tables k) (fold_push (with_table names graph ns) done paths path)
      ∙ get_or_push (after done paths) (table_of names graph ns (after done paths) path) [] k long_so

  -- what is behind a path's nodes has the next number
  behind : (done : List (List (ℕ × ℕ))) (n : ℕ) (p : Path) → length done ≡ n → length (after done (nodes n p)) ≡ number n p + 1
  behind done n p long_so = omega (arith, long done (nodes n p), numbers n p, long_so)

  repeated_table : (p : Path) (pairs : List (ℕ × ℕ)) → Related p pairs → IsTable (λ a b. IsRepeated graph (PathPairs names p graph) a b) (rounds ns pairs (length ns))
  repeated_table p pairs is a b =
      let chain = star_table graph ns are (PathPairs names p graph) (path_nodes names p graph) pairs is in (
        λ has. Visited-from_Chain graph (PathPairs names p graph) (λ x y r. (path_nodes names p graph x y r).1) a b ((chain a b).0 has),
        λ h. (chain a b).1 (Chain-from_Visited graph (PathPairs names p graph) (node_count graph) a b h.0 h.1),
      )

  plus_table : (p : Path) (pairs : List (ℕ × ℕ)) → Related p pairs → Related (Plus p) (select (joins ns pairs (rounds ns pairs (length ns))) ns)
  plus_table p pairs is a c =
      let R = PathPairs names p graph in
      let both = seq_table graph ns are R (path_nodes names p graph) pairs is (λ x y. IsRepeated graph R x y) (repeated_nodes graph R (path_nodes names p graph))
      (rounds ns pairs (length ns)) (repeated_table p pairs is) in
      (λ has. let by = (both a c).0 has in (by.0, by.1, by.2), λ h. (both a c).1 (h.0, h.1, h.2))

  back_table : (p : Path) (pairs : List (ℕ × ℕ)) → Related p pairs → Related (Inverse p) (select (has_back pairs) ns)
  back_table p pairs is =
      select_table graph ns are (λ a b. PathPairs names p graph b a) (path_nodes names (Inverse p) graph) (has_back pairs)
      (λ a b node has. (is b a).0 (Contains-has pairs b a has)) (λ a b h. has-Contains pairs b a ((is b a).1 h))

  -- a path of one part is numbered behind it
  unary : (p outer : Path) (n : ℕ) (done : List (List (ℕ × ℕ))) (path : Node) → length done ≡ n
      → Related outer (table_of names graph ns (after done (nodes n p)) path)
      → Related outer (table_in (after done (nodes n p ++ path ∷ [])) (number n p + 1))
  unary p outer n done path long_so is =
      subst (Related outer) (sym (last done (nodes n p) path (number n p + 1) (behind done n p long_so))) is

  binary : (p q outer : Path) (n : ℕ) (done : List (List (ℕ × ℕ))) (path : Node) → length done ≡ n
      → Related outer (table_of names graph ns (after (after done (nodes n p)) (nodes (number n p + 1) q)) path)
      → Related outer (table_in (after done (nodes n p ++ (nodes (number n p + 1) q ++ path ∷ []))) (number (number n p + 1) q + 1))
  binary p q outer n done path long_so is =
      subst (λ tables. Related outer (table_in tables (number (number n p + 1) q + 1)))
      (sym (fold-append (with_table names graph ns) done (nodes n p) (nodes (number n p + 1) q ++ path ∷ [])))
      (unary q outer (number n p + 1) (after done (nodes n p)) path (behind done n p long_so) is)

  -- the first part keeps its list while the second is made
  first_part : (p q : Path) (n : ℕ) (done : List (List (ℕ × ℕ))) → length done ≡ n → Related p (table_in (after done (nodes n p)) (number n p))
      → Related p (table_in (after (after done (nodes n p)) (nodes (number n p + 1) q)) (number n p))
  first_part p q n done long_so is =
      subst (Related p) (sym (kept (after done (nodes n p)) (nodes (number n p + 1) q) (number n p) (omega (arith, behind done n p long_so)))) is

  path_table : (p : Path) (n : ℕ) (done : List (List (ℕ × ℕ))) → length done ≡ n → Related p (table_in (after done (nodes n p)) (number n p))
  path_table (Iri name) n done long_so =
      subst (Related (Iri name)) (sym (last done [] (laid.Iri name) n long_so))
      (select_table graph ns are (IsNamedEdge names name graph) (path_nodes names (Iri name) graph) (is_edge names name graph)
      (λ a b node is. edge-sound names name graph a b is) (λ a b e. edge-complete names name graph a b e))
  path_table (Inverse p) n done long_so =
      unary p (Inverse p) n done (laid.Inverse (number n p)) long_so
      (back_table p (table_in (after done (nodes n p)) (number n p)) (path_table p n done long_so))
  path_table (Seq p q) n done long_so =
      let mid : List (List (ℕ × ℕ)) = after done (nodes n p) in
      binary p q (Seq p q) n done (laid.Seq (number n p) (number (number n p + 1) q)) long_so
      (seq_table graph ns are (PathPairs names p graph) (path_nodes names p graph) _ (first_part p q n done long_so (path_table p n done long_so))
      (PathPairs names q graph) (path_nodes names q graph) _ (path_table q (number n p + 1) mid (behind done n p long_so)))
  path_table (Alt p q) n done long_so =
      let mid : List (List (ℕ × ℕ)) = after done (nodes n p) in
      binary p q (Alt p q) n done (laid.Alt (number n p) (number (number n p + 1) q)) long_so
      (alt_table graph ns are (PathPairs names p graph) (path_nodes names p graph) _ (first_part p q n done long_so (path_table p n done long_so))
      (PathPairs names q graph) (path_nodes names q graph) _ (path_table q (number n p + 1) mid (behind done n p long_so)))
  path_table (Star p) n done long_so =
      unary p (Star p) n done (laid.Star (number n p)) long_so
      (repeated_table p (table_in (after done (nodes n p)) (number n p)) (path_table p n done long_so))
  path_table (Plus p) n done long_so =
      unary p (Plus p) n done (laid.Plus (number n p)) long_so
      (plus_table p (table_in (after done (nodes n p)) (number n p)) (path_table p n done long_so))
  path_table (Opt p) n done long_so =
      unary p (Opt p) n done (laid.Opt (number n p)) long_so
      (opt_table graph ns are (PathPairs names p graph) (path_nodes names p graph) (table_in (after done (nodes n p)) (number n p)) (path_table p n done long_so))

  -- ---- patterns

  patterns_say : (ps : List Pattern) (n : ℕ) (done : List (List (ℕ × ℕ))) → length done ≡ n → AreFor names graph (after done (all_nodes n ps)) (entries n ps) ps
  patterns_say [] n done long_so = tt
  patterns_say (p ∷ ps) n done long_so =
      let mid : List (List (ℕ × ℕ)) = after done (nodes n p.path) in
      let long_mid : length mid ≡ number n p.path + 1 = behind done n p.path long_so in
      let whole : after done (nodes n p.path ++ all_nodes (number n p.path + 1) ps) ≡ after mid (all_nodes (number n p.path + 1) ps) =
      fold-append (with_table names graph ns) done (nodes n p.path) (all_nodes (number n p.path + 1) ps) in
      subst (λ tables. AreFor names graph tables (entries n (p ∷ ps)) (p ∷ ps)) (sym whole) (
        record {
          subject = refl;
          object = refl;
          pairs = subst (Related p.path) (sym (kept mid (all_nodes (number n p.path + 1) ps) (number n p.path) (omega (arith, long_mid)))) (path_table p.path n done long_so);
        },
        patterns_say ps (number n p.path + 1) mid long_mid,
      )

  pub tables_say : (ps : List Pattern) → AreFor names graph (tables_of names graph ns (all_nodes 0 ps)) (entries 0 ps) ps
  tables_say ps = patterns_say ps 0 [] refl

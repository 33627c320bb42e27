-- The nodes of types with a count as a list, and the rows of two of them.
use Rattle.std.proofs.Common.{◌≡◌, inl, inr, ℕ, zero, suc, ◌+◌, ◌-◌, ◌*◌, ◌<◌, ◌≤◌, List, [], ◌∷◌, ◌++◌, length, map, take, get_or, sum, refl, subst, ◌∙◌, arith}
use Rattle.std.specs.List.{Contains, range_with_len}
use Rattle.std.proofs.lemmas.List.{length-append, length-map}
use Rattle.std.proofs.lemmas.List.Elements.{recursion_from_All}
use Rattle.std.proofs.lemmas.List.FromFn.{length-range_with_len, get_or-range_with_len}
use Rattle.std.proofs.lemmas.List.Sums.{sum_by-cons}
use Rattle.std.proofs.lemmas.Slice.Eq.{bytes_eq-Decides}
use Rattle.std.proofs.lemmas.Cmp.{nat_list_eq_equiv}
use Rattle.std.proofs.lemmas.Map.Made.{length-le_from_is_member, IsDistinct-from_AllPairs, is_member-Decides}
use Rattle.sel_algebra.specs.declared.vocabulary.Kind.TheVariants.{Fixed}
use Rattle.sel_algebra.specs.Table.{kind_at}
use Rattle.graph_text.proofs.MemberLemmas.{Contains-map, Contains-cases, Contains-none, Contains-append_left, Contains-append_right}
use Rattle.gm_config.specs.declared.values.Amount.{Amount}
use Rattle.gm_config.specs.declared.values.Amount.TheVariants.{Share, Count}
use Rattle.gm_config.specs.declared.values.NodeType.{NodeType}
use Rattle.gm_config.specs.TypeRules.{node_count}
use Rattle.gm_config.specs.Config.{ConfigValue, AllDiffer}
use Rattle.schema_graph.specs.Configured.{kind_with, kind_of}
use Rattle.constant_rows.specs.Nodes.{IsCountedNode, count_of, counted_total}
use Rattle.constant_rows.proofs.SpineLemmas.{IsCountedRow}

-- ---- nodes

-- so many nodes from the first one on, none of a share
abbrev nodes_from : ℕ → Amount → List ℕ
nodes_from first (Share thousandths) = []
nodes_from first (Count count) = range_with_len first count

-- the nodes of the types with a count, where so many nodes are asked for
abbrev counted_nodes : (nodes first : ℕ) → List NodeType → List ℕ
counted_nodes nodes first [] = []
counted_nodes nodes first (t ∷ ts) = nodes_from first t.amount ++ counted_nodes nodes (first + node_count nodes t.amount) ts

length-nodes_from : (first : ℕ) (amount : Amount) → length (nodes_from first amount) ≡ count_of amount
length-nodes_from first (Share thousandths) = refl
length-nodes_from first (Count count) = length-range_with_len first count

length-counted_nodes : (nodes first : ℕ) (ts : List NodeType) → length (counted_nodes nodes first ts) ≡ sum (map (λ t. count_of t.amount) ts)
length-counted_nodes nodes first [] = refl
length-counted_nodes nodes first (t ∷ ts) =
    let both = length-append (nodes_from first t.amount) (counted_nodes nodes (first + node_count nodes t.amount) ts) in
    let here = length-nodes_from first t.amount in
    let rest = length-counted_nodes nodes (first + node_count nodes t.amount) ts in
    let all = sum_by-cons (λ n. n) (count_of t.amount) (map (λ u. count_of u.amount) ts) in
    omega (arith, both, here, rest, all)

range-contains : (first count node : ℕ) → first ≤ node → node < first + count → Contains (range_with_len first count) node
range-contains first count node from to =
    let at : first + (node - first) ≡ node = omega (arith, from) in
    (node - first, omega (arith, from, to, length-range_with_len first count), get_or-range_with_len first count (node - first) node (omega (arith, from, to)) ∙ at)

nodes_from-contain : (nodes first : ℕ) (amount : Amount) (node : ℕ) → kind_with amount ≡ Fixed → first ≤ node → node < first + node_count nodes amount → Contains (nodes_from first amount) node
nodes_from-contain nodes first (Share thousandths) node fixed from to = absurd (cc)
nodes_from-contain nodes first (Count count) node fixed from to = range-contains first count node from to

counted_nodes-contain : (nodes first : ℕ) (ts : List NodeType) (t node : ℕ) → t < length ts → kind_at (map kind_of ts) t ≡ Fixed
    → first + sum (take t (map (λ u. node_count nodes u.amount) ts)) ≤ node
    → node < first + sum (take t (map (λ u. node_count nodes u.amount) ts)) + get_or (map (λ u. node_count nodes u.amount) ts) t 0 → Contains (counted_nodes nodes first ts) node
counted_nodes-contain nodes first [] t node known fixed from to = absurd (omega (arith, known))
counted_nodes-contain nodes first (u ∷ ts) zero node known fixed from to =
    let low : first ≤ node = omega (arith, from) in
    let high : node < first + node_count nodes u.amount = omega (arith, to) in
    Contains-append_left (nodes_from first u.amount) (counted_nodes nodes (first + node_count nodes u.amount) ts) node
    (nodes_from-contain nodes first u.amount node fixed low high)
counted_nodes-contain nodes first (u ∷ ts) (suc t) node known fixed from to =
    let before = sum_by-cons (λ n. n) (node_count nodes u.amount) (take t (map (λ v. node_count nodes v.amount) ts)) in
    Contains-append_right (nodes_from first u.amount) (counted_nodes nodes (first + node_count nodes u.amount) ts) node
    (counted_nodes-contain nodes (first + node_count nodes u.amount) ts t node (omega (arith, known)) fixed (omega (arith, before, from)) (omega (arith, before, to)))

-- all nodes of types with a count
abbrev all_counted : ConfigValue → List ℕ
all_counted config = counted_nodes config.nodes 0 config.types

all_counted-contain : (config : ConfigValue) (node : ℕ) → IsCountedNode config node → Contains (all_counted config) node
all_counted-contain config node (t, of_t, fixed) =
    counted_nodes-contain config.nodes 0 config.types t node of_t.known fixed (omega (arith, of_t.first)) (omega (arith, of_t.last))

-- ---- rows

-- the rows of two numbers, the first one of ms and the second one of ns
abbrev rows_from : List ℕ → List ℕ → List (List ℕ)
rows_from ns [] = []
rows_from ns (a ∷ ms) = map (λ b. a ∷ b ∷ []) ns ++ rows_from ns ms

length-rows_from : (ns ms : List ℕ) → length (rows_from ns ms) ≡ length ms * length ns
length-rows_from ns [] = omega arith
length-rows_from ns (a ∷ ms) =
    let both = length-append (map (λ b. a ∷ b ∷ []) ns) (rows_from ns ms) in
    let here = length-map ns (λ b. a ∷ b ∷ []) in
    omega (arith, both, here, length-rows_from ns ms)

rows_from-contain : (ns ms : List ℕ) (a b : ℕ) → Contains ms a → Contains ns b → Contains (rows_from ns ms) (a ∷ b ∷ [])
rows_from-contain ns [] a b in_ms in_ns = absurd (Contains-none a in_ms)
rows_from-contain ns (m ∷ ms) a b in_ms in_ns = elim (Contains-cases m a ms in_ms) [
  | inl same ↦ Contains-append_left (map (λ n. m ∷ n ∷ []) ns) (rows_from ns ms) (a ∷ b ∷ [])
      (subst (λ x. Contains (map (λ n. m ∷ n ∷ []) ns) (x ∷ b ∷ [])) same (Contains-map (λ n. m ∷ n ∷ []) ns b in_ns))
  | inr later ↦ Contains-append_right (map (λ n. m ∷ n ∷ []) ns) (rows_from ns ms) (a ∷ b ∷ []) (rows_from-contain ns ms a b later in_ns)
]

counted_row-contained : (config : ConfigValue) (row : List ℕ) → IsCountedRow config row → Contains (rows_from (all_counted config) (all_counted config)) row
counted_row-contained config [] (two, counted) = absurd (cc)
counted_row-contained config (a ∷ []) (two, counted) = absurd (omega (arith, two))
counted_row-contained config (a ∷ b ∷ []) (two, counted) =
    let (first, (second, rest)) = recursion_from_All (IsCountedNode config) (a ∷ b ∷ []) counted in
    rows_from-contain (all_counted config) (all_counted config) a b (all_counted-contain config a first) (all_counted-contain config b second)
counted_row-contained config (a ∷ b ∷ c ∷ row) (two, counted) = absurd (omega (arith, two))

-- different rows of two nodes of types with a count are at most so many
pub counted_rows-few : (config : ConfigValue) (rows : List (List ℕ)) → AllDiffer rows → ((row : List ℕ) → Contains rows row → IsCountedRow config row)
    → length rows ≤ counted_total config * counted_total config
counted_rows-few config rows differ counted =
    let ns = all_counted config in
    let few = length-le_from_is_member nat_list_eq_equiv rows (rows_from ns ns) (IsDistinct-from_AllPairs bytes_eq-Decides rows differ) (λ row h.
    let inside = (is_member-Decides bytes_eq-Decides rows row).0 h in
    (is_member-Decides bytes_eq-Decides (rows_from ns ns) row).1 (counted_row-contained config row (counted row inside))) in
    rw (length-rows_from ns ns, length-counted_nodes config.nodes 0 config.types) at few

-- A drawn query whose wide class is constant is bounded.
use Rattle.std.proofs.Common.{◌≡◌, ℕ, Some, true, List, map, subst}
use Rattle.std.proofs.lemmas.List.Elements.{All-contains}
use Rattle.sel_algebra.specs.declared.vocabulary.Class.TheVariants.{Constant}
use Rattle.sel_algebra.specs.Entries.{ClassEntryAtMost}
use Rattle.graph_text.specs.declared.graphs.Triple.{Triple}
use Rattle.gm_config.specs.Config.{ConfigValue}
use Rattle.schema_graph.specs.Configured.{schema_of}
use Rattle.query_terms.specs.Values.{has_class}
use Rattle.rpq_meaning.specs.QueryRows.{IsQueryRow}
use Rattle.query_draw.specs.Values.{greatest_of}
use Rattle.query_draw.specs.Wide.{rule_wide}
use Rattle.query_draw.specs.Query.{drawn_shape, drawn_rules, has_query, query_of}
use Rattle.constant_rows.specs.Laws.{ConstantQueriesAreBounded}
use Rattle.constant_rows.proofs.GraphLemmas.{IsTyped}
use Rattle.constant_rows.proofs.SpineLemmas.{IsSpined, IsCountedRow, rule-counted}
use Rattle.constant_rows.proofs.DrawnLemmas.{drawn_rules-spined, rule-at_most, two_heads}
use Rattle.constant_rows.proofs.CountLemmas.{counted_rows-few}

query-counted : (config : ConfigValue) (graph : List Triple) → IsTyped config graph → (seed number : ℕ) → has_query config seed number ≡ true
    → (query_of config seed number).wide ≡ Some Constant → (row : List ℕ) → IsQueryRow (query_of config seed number) graph row → IsCountedRow config row
query-counted config graph typed seed number any wide row (rule, inside, is_row) =
    let shape = drawn_shape config seed number in
    let rules = drawn_rules config seed number in
    let class = rule_wide (schema_of config) shape in
    let (two, greatest) = two_heads (has_class rules) (greatest_of (map class rules)) wide in
    let spined = All-contains (IsSpined shape) rules rule (drawn_rules-spined config typed.rules seed number any two) inside in
    let most = subst (ClassEntryAtMost (class rule)) greatest (rule-at_most class rules rule inside) in
    rule-counted config graph typed shape rule spined most row is_row

pub constant_queries_are_bounded : ConstantQueriesAreBounded
constant_queries_are_bounded config is seed number any wide graph keeps =
    let query = query_of config seed number in
    let counted = query-counted config graph (record { rules = is; keeps = keeps }) seed number any wide in
    record {
      counted = counted;
      few = λ rows differ are. counted_rows-few config rows differ (λ row inside. counted row (All-contains (IsQueryRow query graph) rows row are inside));
    }

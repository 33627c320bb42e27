-- The schema of a configuration is one.
use Rattle.std.proofs.Common.{◌≡◌, ℕ, ◌+◌, ◌<◌, Some, List, [], ◌∷◌, ◌++◌, length, map, take, slice_get, slice_index_or, refl, sym, ap, ◌∙◌, arith}
use Rattle.std.proofs.lemmas.List.{map_more, length-map, get_or-map}
use Rattle.std.proofs.lemmas.List.Elements.{All-map, All-weaker}
use Rattle.std.proofs.lemmas.Option.{get_or_from_slice_get, slice_get_within}
use Rattle.sel_algebra.specs.declared.vocabulary.Kind.{Kind}
use Rattle.sel_algebra.specs.Table.{kind_at}
use Rattle.sel_algebra.proofs.EntryLemmas.{IsNormal-normal_of}
use Rattle.gm_config.specs.declared.values.Constraint.{Constraint}
use Rattle.gm_config.specs.Config.{ConfigValue, IsConfig, IsConstraint, ends as constraint_ends}
use Rattle.schema_graph.specs.Edge.{ends, IsSchemaEdge}
use Rattle.schema_graph.specs.Schema.{IsSchema}
use Rattle.schema_graph.specs.Configured.{kinds_of, kind_of, growing_operator, is_zipf, edge_of, edges_of, schema_of}

-- a list of what a function makes of the first elements, with one more
pub map-take-more : {X Y : Type 0} (f : X → Y) (xs : List X) (i : ℕ) (x : X) → slice_get xs i ≡ Some x → map f (take (i + 1) xs) ≡ map f (take i xs) ++ f x ∷ []
map-take-more f xs i x is = rw (map_more f xs i x (slice_get_within xs i x is), get_or_from_slice_get xs i x x is) refl

ends-edge_of : (kinds : List Kind) (ks : List Constraint) → map ends (map (edge_of kinds) ks) ≡ map constraint_ends ks
ends-edge_of kinds [] = refl
ends-edge_of kinds (k ∷ ks) = ap (λ es. constraint_ends k ∷ es) (ends-edge_of kinds ks)

pub IsSchema-schema_of : (c : ConfigValue) → IsConfig c → IsSchema (schema_of c)
IsSchema-schema_of c is =
    let kinds = kinds_of c in
    let types : length kinds ≡ length c.types = length-map c.types kind_of in
    let edges : length (edges_of c) ≡ length c.constraints = length-map c.constraints (edge_of kinds) in
    record {
      few_types = omega (arith, is.types.few);
      few_edges = omega (arith, is.constraints.few);
      each_edge = All-map (IsSchemaEdge kinds) (edge_of kinds) c.constraints
          (All-weaker (IsConstraint (length c.types) (length c.labels)) (λ k. IsSchemaEdge kinds (edge_of kinds k)) (λ k it. record {
            source = omega (arith, it.source);
            label = omega (arith, it.label, is.labels.few);
            target = omega (arith, it.target);
            normal = IsNormal-normal_of (growing_operator (is_zipf k.out_spec) (is_zipf k.in_spec)) (kind_at kinds k.source) (kind_at kinds k.target);
          }) c.constraints is.each_constraint);
      edges_differ = λ i j d lt within same.
          let all = ends-edge_of kinds c.constraints in
          let at : (n : ℕ) → n < length (edges_of c) → slice_index_or (map constraint_ends c.constraints) n (ends d) ≡ ends (slice_index_or (edges_of c) n d) =
          (λ n below. ap (λ es. slice_index_or es n (ends d)) (sym all) ∙ get_or-map ends (edges_of c) n d (ends d) below) in
          is.constraints_differ i j (ends d) lt (rw (length-map c.constraints constraint_ends, ← edges) within) (at i (omega arith) ∙ (same ∙ sym (at j within)));
    }

-- The head of a configuration is one.
use Rattle.std.proofs.Common.{◌≡◌, ℕ, ◌+◌, ◌<◌, Some, List, [], ◌∷◌, ◌++◌, length, take, slice_get, refl, arith}
use Rattle.std.proofs.lemmas.List.{length-map, take_more}
use Rattle.std.proofs.lemmas.Option.{get_or_from_slice_get, slice_get_within}
use Rattle.std.proofs.lemmas.List.Elements.{All-map, All-weaker}
use Rattle.gm_text.specs.Name.{IsName}
use Rattle.gm_config.specs.Config.{ConfigValue, IsConfig, IsConstraint}
use Rattle.schema_graph.specs.Configured.{kinds_of, kind_of, edge_of}
use Rattle.schema_graph.proofs.ConfiguredLemmas.{IsSchema-schema_of}
use Rattle.workload_text.specs.Values.{IsHead}
use Rattle.workload_text.specs.Head.{head_of}

-- the first elements of a list, with one more
pub take-more : {X : Type 0} (xs : List X) (i : ℕ) (x : X) → slice_get xs i ≡ Some x → take (i + 1) xs ≡ take i xs ++ x ∷ []
take-more xs i x is = rw (take_more xs i x (slice_get_within xs i x is), get_or_from_slice_get xs i x x is) refl

pub IsHead-head_of : (c : ConfigValue) → IsConfig c → IsHead (head_of c)
IsHead-head_of c is = record {
  format = grind (arith, is.workload.format.least, is.workload.format.most);
  labels = record { some = omega (arith, is.labels.some); few = omega (arith, is.labels.few); each = is.label_names; differ = is.labels_differ };
  types = record {
    some = omega (arith, is.types.some, length-map c.types (λ t. t.name));
    few = omega (arith, is.types.few, length-map c.types (λ t. t.name));
    each = All-map IsName (λ t. t.name) c.types is.type_names;
    differ = is.types_differ;
  };
  kinds = rw (length-map c.types kind_of, length-map c.types (λ t. t.name)) refl;
  schema = IsSchema-schema_of c is;
  edges = omega (arith, is.constraints.some, length-map c.constraints (edge_of (kinds_of c)));
  named = All-map (λ e. e.label < length c.labels) (edge_of (kinds_of c)) c.constraints
      (All-weaker (IsConstraint (length c.types) (length c.labels)) (λ k. k.label < length c.labels) (λ k it. it.label) c.constraints is.each_constraint);
}

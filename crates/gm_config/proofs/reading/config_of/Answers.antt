use Rattle.std.proofs.Common.{ap, ◌∙◌, true}
use Rattle.std.specs.Prelude.{◌≡◌, unwrap_or}
use Rattle.serde_json.specs.View.{view}
use Rattle.gm_config.specs.Json.{text}
use Rattle.gm_config.specs.TypeRules.{is_named_type}
use Rattle.gm_config.specs.LabelRules.{is_label}
use Rattle.gm_config.specs.ConstraintRules.{has_out_spec, has_in_spec}
use Rattle.gm_config.specs.Reading.{type_of, constraint_of}
use Rattle.gm_config.proofs.ConfigLemmas.{Keeps-first_broken, IsConfig-config_of, IsCount-has_within, All-seen, map-seen, config_of-parts}
use Rattle.gm_config.proofs.reading.config_of.Goals as goal

pub read_types-requires : goal.read_types-requires
read_types-requires c = All-seen (λ t. is_named_type t ≡ true) view _ _ c.elements.ensures (Keeps-first_broken (view c.args.value.now) c.requires).type_names

pub read_labels-requires : goal.read_labels-requires
read_labels-requires c = All-seen (λ l. is_label l ≡ true) view _ _ c.elements-2.ensures (Keeps-first_broken (view c.args.value.now) c.requires).label_names

pub read_constraints-requires-clause-types : goal.read_constraints-requires-clause-types
read_constraints-requires-clause-types c = (IsCount-has_within _ _ (Keeps-first_broken (view c.args.value.now) c.requires).type_count).few

pub read_constraints-requires-clause-labels : goal.read_constraints-requires-clause-labels
read_constraints-requires-clause-labels c = (IsCount-has_within _ _ (Keeps-first_broken (view c.args.value.now) c.requires).label_count).few

pub read_constraints-requires-clause-out_specs : goal.read_constraints-requires-clause-out_specs
read_constraints-requires-clause-out_specs c = All-seen (λ k. has_out_spec k ≡ true) view _ _ c.elements-3.ensures (Keeps-first_broken (view c.args.value.now) c.requires).out_specs

pub read_constraints-requires-clause-in_specs : goal.read_constraints-requires-clause-in_specs
read_constraints-requires-clause-in_specs c = All-seen (λ k. has_in_spec k ≡ true) view _ _ c.elements-3.ensures (Keeps-first_broken (view c.args.value.now) c.requires).in_specs

pub read_workload-requires : goal.read_workload-requires
read_workload-requires c = (Keeps-first_broken (view c.args.value.now) c.requires).workload

pub of-requires : goal.of-requires
of-requires c =
    let d = view c.args.value.now in
    let parts = config_of-parts d _ _ _ _ _
    (c.unwrap_or.ensures ∙ ap (λ o. unwrap_or o 0) c.nodes_of.ensures)
    (map-seen type_of view _ _ _ c.elements.ensures c.in_ok-types.ensures)
    (map-seen text view _ _ _ c.elements-2.ensures c.in_ok-labels.ensures)
    (map-seen (constraint_of d) view _ _ _ c.elements-3.ensures c.in_ok-constraints.ensures)
    c.in_ok-workload.ensures in
    rw parts (IsConfig-config_of d (Keeps-first_broken d c.requires))

pub returns : goal.returns
returns c =
    let d = view c.args.value.now in
    c.of.ensures ∙ config_of-parts d _ _ _ _ _
    (c.unwrap_or.ensures ∙ ap (λ o. unwrap_or o 0) c.nodes_of.ensures)
    (map-seen type_of view _ _ _ c.elements.ensures c.in_ok-types.ensures)
    (map-seen text view _ _ _ c.elements-2.ensures c.in_ok-labels.ensures)
    (map-seen (constraint_of d) view _ _ _ c.elements-3.ensures c.in_ok-constraints.ensures)
    c.in_ok-workload.ensures

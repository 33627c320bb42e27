use Rattle.std.proofs.Common.{rules, tests, sym, ◌∙◌}
use Rattle.std.proofs.lemmas.Iterator.{YieldsList-from_slice}
use Rattle.std.proofs.lemmas.Iterator.Search.{position_from_yields_List}
use Rattle.std.specs.Str.{bytes_eq}
use Rattle.serde_json.specs.View.{view}
use Rattle.gm_config.specs.Json.{text}
use Rattle.gm_config.proofs.RuleLemmas.{position-map}
use Rattle.gm_config.proofs.constraint_rules.label_place.Goals as goal

pub returns-clause-place : goal.returns-clause-place
returns-clause-place c =
    let elements = c.elements-labels.result.now in
    rw (← c.elements-labels.ensures) (position_from_yields_List (λ x. bytes_eq (text (view x)) c.args.name.now) _ _ _ c.position.ensures.ran
    (YieldsList-from_slice elements cc) (λ x b q k. search (rules, tests)) ∙ sym (position-map (λ x. bytes_eq (text x) c.args.name.now) view elements))

use Rattle.std.proofs.Common.{◌≡◌, ◌∙◌, sym, ap, Some, codes}
use Rattle.serde_json.specs.View.{view}
use Rattle.gm_config.specs.Json.{elements_at}
use Rattle.gm_config.specs.DegreeSpec.{weights_of}
use Rattle.gm_config.specs.declared.degree_specs.DegreeSpec.TheVariants.{Table}
use Rattle.gm_config.proofs.DegreeSpecLemmas.{table_in-is}
use Rattle.gm_config.proofs.degree_specs.read_table.Goals as goal

pub returns : goal.returns
returns c =
    let same : weights_of (elements_at (codes "weights") (view c.args.value.now)) ≡ c.of.result =
    rw (← c.elements_at.ensures, c.of.ensures) (sym c.in_ok-weights.ensures) in
    table_in-is _ _ c.requires ∙ ap (λ weights. Some (Table weights)) same

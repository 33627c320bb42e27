use Rattle.std.proofs.Common.{rules, tests}
use Rattle.std.proofs.lemmas.Iterator.{YieldsList-from_slice}
use Rattle.std.proofs.lemmas.Iterator.Search.{any_from_yields_List}
use Rattle.std.specs.Str.{bytes_eq}
use Rattle.serde_json.specs.View.{view}
use Rattle.gm_config.specs.Json.{text}
use Rattle.gm_config.proofs.ListLemmas.{list_any-map}
use Rattle.gm_config.proofs.workload_rules.has_text.Goals as goal

pub returns : goal.returns
returns c = simp list_any-map (any_from_yields_List (λ value. bytes_eq (text (view value)) c.args.wanted.now) _ _ _ c.any.ensures.ran
    (YieldsList-from_slice c.args.values.now cc) (λ x b q k. search (rules, tests)))

use Rattle.std.proofs.Common.{rules, tests}
use Rattle.std.proofs.lemmas.Iterator.{items_from_collect, YieldsList-from_slice}
use Rattle.std.proofs.lemmas.Iterator.Consumers.{YieldsList-from_filter_map}
use Rattle.gm_config.proofs.ListLemmas.{filter_map-map}
use Rattle.gm_config.proofs.workload_rules.read_choices.Goals as goal

pub returns : goal.returns
returns g c = simp filter_map-map (items_from_collect _ c.collect.ensures.ran
    (YieldsList-from_filter_map _ _ (YieldsList-from_slice c.args.values.now cc) c.filter_map.ensures.closure (λ x r q k. search (rules, tests))))

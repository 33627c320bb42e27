use Rattle.std.proofs.Common.{not, sym, ap, ◌∙◌}
use Rattle.serde_json.specs.View.{view}
use Rattle.gm_config.proofs.RuleLemmas.{differs_at-within, differs_at-past}
use Rattle.gm_config.proofs.rule.differs_at.Goals as goal

pub returns-in-Some : goal.returns-in-Some
returns-in-Some g c =
    let found = c.in-Some.ensures.lookup in
    ap not c.is_among.ensures
    ∙ sym (differs_at-within g.S.Sameness.same view c.elements-elements.result.now _ c.args.i c.in-Some.element.now c.elements-elements.ensures found.3.0 found.1)

pub returns-in-None : goal.returns-in-None
returns-in-None g c = sym (differs_at-past g.S.Sameness.same view c.elements-elements.result.now _ c.args.i c.elements-elements.ensures c.in-None.ensures.lookup.3)

use Rattle.query_draw.proofs.RuleLemmas.{drawn_rules_have_skeletons}
use Rattle.query_draw.proofs.laws.drawn_rules_have_skeletons.Goals as goal

pub returns : goal.returns
returns c = drawn_rules_have_skeletons

use Rattle.query_draw.proofs.RuleLemmas.{drawn_class_is_class}
use Rattle.query_draw.proofs.laws.drawn_class_is_class.Goals as goal

pub returns : goal.returns
returns c = drawn_class_is_class

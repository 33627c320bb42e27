use Rattle.std.proofs.Common.{sym}
use Rattle.gm_config.proofs.JsonLemmas.{list_of-items_view}
use Rattle.gm_config.proofs.members.elements.Goals as goal

pub returns-in-Some : goal.returns-in-Some
returns-in-Some c = rw (c.deref.ensures.value, ← c.in-Some.ensures) (sym (list_of-items_view _))

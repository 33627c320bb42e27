use Rattle.sel_graph.proofs.ValueLemmas.{finished_states_meet}
use Rattle.sel_graph.proofs.laws.finished_states_meet.Goals as goal

pub returns : goal.returns
returns c = finished_states_meet

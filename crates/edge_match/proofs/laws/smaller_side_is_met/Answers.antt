use Rattle.edge_match.proofs.MeetingLemmas.{SmallerSideIsMet-IsConforming}
use Rattle.edge_match.proofs.laws.smaller_side_is_met.Goals as goal

pub returns : goal.returns
returns c = SmallerSideIsMet-IsConforming

use Rattle.std.proofs.Common.{refl}
use Rattle.sparql_read.proofs.SpotLemmas.{path_goes, path_fails, path_unstopped, path_stops}
use Rattle.sparql_read.proofs.places.in_path.Goals as goal

pub returns-in_default-clause-is : goal.returns-in_default-clause-is
returns-in_default-clause-is c = λ s y.
    path_unstopped c.args.parts.now record { heads = c.args.parts.now.heads; groups = c.args.parts.now.groups; patterns = c.args.parts.now.patterns; paths = c.path_step.new.paths; levels = c.path_step.new.levels; first = c.args.parts.now.first; braced = c.args.parts.now.braced; all_occur = c.args.parts.now.all_occur } s c.args.subject c.args.mode _ y _ (rw c.in-Stop.is at c.in_ok-mode.ensures.is) c.in_default.ensures

pub returns-in-Go-clause-is : goal.returns-in-Go-clause-is
returns-in-Go-clause-is c = λ s y.
    path_goes c.args.parts.now _ s c.args.subject c.args.mode _ y _
    record { heads = refl; groups = refl; patterns = refl; first = refl; braced = refl; all_occur = refl }
    (rw c.in-Go.is at c.in_ok-mode.ensures.is)

pub returns-in_ok-push-in-Stop-clause-is : goal.returns-in_ok-push-in-Stop-clause-is
returns-in_ok-push-in-Stop-clause-is c = λ s y.
    path_stops c.args.parts.now record { heads = c.args.parts.now.heads; groups = c.args.parts.now.groups; patterns = c.args.parts.now.patterns; paths = c.path_step.new.paths; levels = c.path_step.new.levels; first = c.args.parts.now.first; braced = c.args.parts.now.braced; all_occur = c.args.parts.now.all_occur } _ s c.args.subject c.in-Some.object c.args.mode _ _ y (rw c.in-Stop.is at c.in_ok-mode.ensures.is) c.in-Some.ensures
    record {
      heads = refl;
      groups = refl;
      patterns = c.in_ok-push-in-Stop.ensures.items;
      paths = refl;
      outer = refl;
      inner = c.empty-parts.ensures;
      first = refl;
      braced = refl;
      all_occur = refl;
    }

pub returns-in-Fail-clause-is : goal.returns-in-Fail-clause-is
returns-in-Fail-clause-is c = λ s y.
    path_fails c.args.parts.now record { heads = c.args.parts.now.heads; groups = c.args.parts.now.groups; patterns = c.args.parts.now.patterns; paths = c.path_step.new.paths; levels = c.path_step.new.levels; first = c.args.parts.now.first; braced = c.args.parts.now.braced; all_occur = c.args.parts.now.all_occur } s c.args.subject c.args.mode _ y (rw c.in-Fail.is at c.in_ok-mode.ensures.is)

use Rattle.summary_text.proofs.CountLemmas.{is_class-exact}
use Rattle.summary_text.proofs.laws.class_test_is_exact.Goals as goal

pub returns : goal.returns
returns c = is_class-exact

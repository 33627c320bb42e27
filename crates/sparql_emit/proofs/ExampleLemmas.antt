-- The texts of the examples, by computing.
use Rattle.std.proofs.Common.{refl}
use Rattle.std.specs.Fmt.{digits}
use Rattle.sparql_emit.specs.Examples.{TextsOfPaths, TextsOfQueries}

pub texts_of_paths : TextsOfPaths
texts_of_paths = record {
  each_back = refl;
  from_the_left = refl;
  from_the_right = refl;
  choice_first = refl;
  choice_second = refl;
  choices_from_the_left = refl;
  choices_from_the_right = refl;
  sequence_in_a_choice = refl;
  repetition = refl;
  option = refl;
}

pub texts_of_queries : TextsOfQueries
unfolding digits
texts_of_queries = record { no_heads = refl; two_rules = refl }

-- Texts of some paths and queries.
--   TextsOfPaths      directions, sequences, choices and signs
--   TextsOfQueries    a query without heads, and one of two rules with three heads
use Rattle.std.specs.Prelude.{◌≡◌, ℕ, true, false, None, List, [], ◌∷◌, codes}
use Rattle.path_pairs.specs.Trees.{Tree}
use Rattle.path_pairs.specs.Trees.Tree.{Step, Seq, Alt, Star, Opt}
use Rattle.sel_algebra.specs.declared.vocabulary.Shape.TheVariants.{Chain}
use Rattle.query_terms.specs.Values.{ConjunctValue, RuleValue, QueryValue}
use Rattle.sparql_emit.specs.PathText.{path_text_of}
use Rattle.sparql_emit.specs.QueryText.{sparql_text_of}

abbrev pub three_names : List (List ℕ)
three_names = codes "a" ∷ codes "b" ∷ codes "c" ∷ []

abbrev pub a : Tree
a = Step 0 false

abbrev pub b : Tree
b = Step 1 false

abbrev pub c : Tree
c = Step 2 false

abbrev pub text : Tree → List ℕ
text path = path_text_of three_names path

pub record TextsOfPaths : Type 0 where
  pub each_back : text (Seq (Step 0 true) (Step 1 true)) ≡ codes "^:a/^:b"
  pub from_the_left : text (Seq (Seq a b) c) ≡ codes ":a/:b/:c"
  pub from_the_right : text (Seq a (Seq b c)) ≡ codes ":a/(:b/:c)"
  pub choice_first : text (Seq (Alt a b) c) ≡ codes "(:a|:b)/:c"
  pub choice_second : text (Seq a (Alt b c)) ≡ codes ":a/(:b|:c)"
  pub choices_from_the_left : text (Alt (Alt a b) c) ≡ codes ":a|:b|:c"
  pub choices_from_the_right : text (Alt a (Alt b c)) ≡ codes ":a|(:b|:c)"
  pub sequence_in_a_choice : text (Alt (Seq a b) c) ≡ codes ":a/:b|:c"
  pub repetition : text (Star (Seq a b)) ≡ codes "(:a/:b)*"
  pub option : text (Seq (Opt a) (Star b)) ≡ codes "(:a)?/(:b)*"

-- one step along an edge between two variables
abbrev pub along : ℕ → ℕ → ℕ → ConjunctValue
along src edge trg = record { src = src; trg = trg; star = false; words = (record { edge = edge; back = false } ∷ []) ∷ [] }

-- rules over two edges, whose labels are 0 and 1
abbrev pub query_of : List RuleValue → QueryValue
query_of rules = record { labels = 0 ∷ 1 ∷ []; shape = Chain; class = None; wide = None; rules = rules }

-- any two numbers between which an edge leads
abbrev pub any_edge : QueryValue
any_edge = query_of (record { heads = []; conjuncts = along 0 0 1 ∷ [] } ∷ [])

-- two edges after one another, or one edge and its ends
abbrev pub either_way : QueryValue
either_way = query_of (
    record { heads = 0 ∷ 1 ∷ 2 ∷ []; conjuncts = along 0 0 1 ∷ along 1 0 2 ∷ [] }
    ∷ record { heads = 5 ∷ 7 ∷ 9 ∷ []; conjuncts = along 9 1 5 ∷ along 5 1 7 ∷ along 3 0 7 ∷ [] } ∷ []
    )

pub record TextsOfQueries : Type 0 where
  pub no_heads : sparql_text_of (codes "knows" ∷ codes "likes" ∷ []) any_edge
      ≡ codes "PREFIX : <http://gmark.example/>\nASK WHERE {\n{ ?x0 :knows ?x1 . }\n}\n"
  pub two_rules : sparql_text_of (codes "knows" ∷ codes "likes" ∷ []) either_way
      ≡ codes "PREFIX : <http://gmark.example/>\nSELECT DISTINCT ?h0 ?h1 ?h2 WHERE {\n{ ?h0 :knows ?h1 . ?h1 :knows ?h2 . }\nUNION\n{ ?h2 :likes ?h0 . ?h0 :likes ?h1 . ?x3 :knows ?h1 . }\n}\n"

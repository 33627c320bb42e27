-- The laws of drawn queries and of classes.
--   HasSpine g shape rule      the spine of a rule leads along from a type of the schema
--   ClassIsAtMostWideClass     the class of a query whose spines lead along is at most its wide class
--   IsWordOf r leg word        a word leads as the move of a leg does, with its value, and has a permitted length
--   DrawnWordsAreWalks         each word that is drawn for a leg is such a word
--   DrawnClassIsClass          the class of the words of a drawn query is the one that was drawn
--   DrawnClassIsAtMostWideClass   and is at most its wide class
--   DrawnRulesHaveSkeletons    the conjuncts of a drawn rule join its variables as the skeleton says
--   EachRuleTells              each rule has a number of conjuncts to pick, or none has
use Rattle.std.specs.Prelude.{◌≡◌, ◌≢◌, ◌↔◌, ℕ, ◌^◌, ◌<◌, ◌≤◌, false, IsTrue, IsNone, List, [], length, map}
use Rattle.std.specs.List.{All, range_with_len}
use Rattle.candidates.specs.Picked.{picked}
use Rattle.sel_algebra.specs.declared.vocabulary.Shape.{Shape}
use Rattle.sel_algebra.specs.Entries.{ClassEntryAtMost}
use Rattle.sel_algebra.specs.declared.vocabulary.Symbol.{Symbol}
use Rattle.gm_config.specs.Config.{ConfigValue, IsConfig}
use Rattle.schema_graph.specs.Configured.{schema_of}
use Rattle.schema_graph.specs.Schema.{SchemaValue, IsSchema}
use Rattle.sel_graph.specs.Moves.{ReachValue, IsReach}
use Rattle.sel_graph.specs.Tests.{is_move}
use Rattle.skeletons.specs.Skeleton.{HasSkeleton, ends_of}
use Rattle.walk_pick.specs.Candidates.{count_candidates}
use Rattle.query_terms.specs.Values.{ConjunctValue, RuleValue}
use Rattle.query_draw.specs.declared.legs.Leg.{Leg}
use Rattle.query_draw.specs.Values.{LeadsWord, LeadsSpine, word_value, spine, query_class}
use Rattle.query_draw.specs.Wide.{query_wide}
use Rattle.query_draw.specs.Drawn.{Words, words_for, drawn_word}
use Rattle.query_draw.specs.Query.{reach_of, drawn_shape, drawn_class, rule_size, drawn_rule, drawn_rules, has_query, query_of}

-- the spine of a rule has a conjunct, and leads along from a type of the schema
pub record HasSpine (g : SchemaValue) (shape : Shape) (rule : RuleValue) : Type 0 where
  pub some : spine shape rule ≢ []
  pub start : ℕ
  pub end : ℕ
  pub inside : start < length g.kinds
  pub leads : LeadsSpine g start (spine shape rule) end

-- the class of a query whose spines lead along is at most its wide class
abbrev pub ClassIsAtMostWideClass : Type 0
ClassIsAtMostWideClass = (g : SchemaValue) → IsSchema g → (shape : Shape) (rules : List RuleValue) → All (HasSpine g shape) rules
    → ClassEntryAtMost (query_class g shape rules) (query_wide g shape rules)

-- a word leads where the move of a leg does, with the move's value, and has a permitted length
pub record IsWordOf (r : ReachValue) (leg : Leg) (word : List Symbol) : Type 0 where
  pub leads : LeadsWord r.schema leg.from word leg.via.to
  pub value : word_value r.schema word ≡ leg.via.value
  pub least : r.lengths.least ≤ length word
  pub most : length word ≤ r.lengths.most

-- each word that is drawn for a leg is one of its move
abbrev pub DrawnWordsAreWalks : Type 0
DrawnWordsAreWalks = (r : ReachValue) → IsReach r → (d : Words) → ((p : ℕ) → d p < 2 ^ 64) → (leg : Leg) (i j : ℕ)
    → IsTrue (is_move r leg.from leg.via) → IsWordOf r leg (drawn_word r d leg i j)

-- the class of the words of a drawn query is the one that was drawn
abbrev pub DrawnClassIsClass : Type 0
DrawnClassIsClass = (c : ConfigValue) → IsConfig c → (seed number : ℕ) → IsTrue (has_query c seed number)
    → query_class (schema_of c) (drawn_shape c seed number) (drawn_rules c seed number) ≡ (query_of c seed number).class

-- and is at most its wide class
abbrev pub DrawnClassIsAtMostWideClass : Type 0
DrawnClassIsAtMostWideClass = (c : ConfigValue) → IsConfig c → (seed number : ℕ) → IsTrue (has_query c seed number)
    → ClassEntryAtMost (query_of c seed number).class (query_of c seed number).wide

-- the variables at the two ends of each conjunct
abbrev pub ends_in : List ConjunctValue → List (ℕ × ℕ)
ends_in conjuncts = map (λ c. (c.src, c.trg)) conjuncts

-- the conjuncts of a drawn rule join its variables as the skeleton of its shape and their number says
abbrev pub DrawnRulesHaveSkeletons : Type 0
DrawnRulesHaveSkeletons = (c : ConfigValue) → IsConfig c → (seed number rule : ℕ) → IsTrue (has_query c seed number)
    → HasSkeleton (drawn_shape c seed number) (rule_size c seed number rule)
    × (ends_in (drawn_rule c seed number rule).conjuncts
    ≡ map (ends_of (drawn_shape c seed number) (rule_size c seed number rule)) (range_with_len 0 (rule_size c seed number rule)))

-- from what a rule picks its number of conjuncts
abbrev pub sizes : ConfigValue → ℕ → ℕ → List ℕ
sizes c seed number = count_candidates (reach_of c) (drawn_shape c seed number) (drawn_class c seed number) c.workload.conjuncts

-- a rule has no number of conjuncts to pick just where there is no query, whichever rule it is
abbrev pub EachRuleTells : Type 0
EachRuleTells = (c : ConfigValue) (seed number rule : ℕ) → IsNone (picked (words_for seed number rule 3) (sizes c seed number)) ↔ (has_query c seed number ≡ false)

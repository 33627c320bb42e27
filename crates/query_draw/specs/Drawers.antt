-- What a drawer draws, and what is put into a query that is being built.
--   random_words d            the random words of the rule
--   draws_at d place          the draws of the rule, from a place on
--   symbols_by, word_by, words_by, conjunct_by, conjuncts_by   symbols, a word, words, a conjunct and conjuncts of the rule
--   spine_by, second_by, arms_by, legs_by   the legs of a spine, a second path and arms, and all legs of the rule
--   rule_by                   the rule
--   IsLeg r leg               a leg leads from a type to a type by a move
--   CanLink r n t end         some n moves lead from type t to type end, where there are some
--   with_symbols b symbols    a query whose word has these symbols more
use Rattle.std.specs.Prelude.{◌≡◌, ℕ, ◌+◌, ◌<◌, ◌==◌, ◌||◌, true, List, ◌++◌, length}
use Rattle.seeded_draw.specs.Draw.{word}
use Rattle.seeded_draw.specs.Place.{Place}
use Rattle.sel_algebra.specs.declared.vocabulary.Class.{Class}
use Rattle.sel_algebra.specs.declared.vocabulary.Symbol.{Symbol}
use Rattle.skeletons.specs.Skeleton.{SkeletonValue, spine_of, arms_of}
use Rattle.sel_graph.specs.declared.states.State.{State}
use Rattle.sel_graph.specs.declared.states.Goal.{Goal}
use Rattle.sel_graph.specs.Moves.{ReachValue}
use Rattle.sel_graph.specs.Tests.{is_move, joins}
use Rattle.query_terms.specs.Values.{ConjunctValue, RuleValue}
use Rattle.query_terms.specs.Building.{Building}
use Rattle.query_draw.specs.declared.legs.Leg.{Leg}
use Rattle.query_draw.specs.declared.drawer.Drawer.{Drawer}
use Rattle.query_draw.specs.Drawn.{Words, drawn_symbols, drawn_word, drawn_words, drawn_conjunct, drawn_conjuncts, spine_legs, second_legs, arm_legs, rule_legs, rule_conjuncts}
use Rattle.query_draw.specs.Query.{heads_of}

-- the random words of the rule
abbrev pub random_words : Drawer → Words
random_words d = word d.seed d.stream

-- the draws of the rule, from a place on
abbrev pub draws_at : Drawer → ℕ → Place
draws_at d place = record { seed = d.seed; stream = d.stream; taken = place }

-- ---- words and conjuncts

-- so many symbols, from a state to a state, from a place on
abbrev pub symbols_by : Drawer → State → State → ℕ → ℕ → List Symbol
symbols_by d to from len place = drawn_symbols d.schema.now (random_words d) to from len place

-- word j of conjunct i
abbrev pub word_by : Drawer → Leg → ℕ → ℕ → List Symbol
word_by d leg i j = drawn_word d.reach.now (random_words d) leg i j

-- the words of conjunct i
abbrev pub words_by : Drawer → Leg → ℕ → List (List Symbol)
words_by d leg i = drawn_words d.reach.now d.workload.now (random_words d) leg i

-- conjunct i
abbrev pub conjunct_by : Drawer → SkeletonValue → ℕ → Leg → ConjunctValue
conjunct_by d s i leg = drawn_conjunct d.reach.now d.workload.now (random_words d) s.shape s.count i leg

-- the conjuncts of legs, of which the first is conjunct i
abbrev pub conjuncts_by : Drawer → SkeletonValue → ℕ → List Leg → List ConjunctValue
conjuncts_by d s i legs = drawn_conjuncts d.reach.now d.workload.now (random_words d) s.shape s.count i legs

-- ---- legs

-- the legs of a spine
abbrev pub spine_by : Drawer → Goal → State → ℕ → ℕ → List Leg
spine_by d goal s n i = spine_legs d.reach.now d.workload.now (random_words d) goal s n i

-- the legs of a second path
abbrev pub second_by : Drawer → ℕ → ℕ → ℕ → ℕ → List Leg
second_by d end t n i = second_legs d.reach.now d.workload.now (random_words d) end t n i

-- the arms after a spine that starts at type t
abbrev pub arms_by : Drawer → SkeletonValue → ℕ → List Leg → List Leg
arms_by d s t spine = arm_legs d.reach.now d.workload.now (random_words d) s.shape t spine (spine_of s.shape s.count) (arms_of s.shape s.count)

-- all legs of the rule, which starts at type t
abbrev pub legs_by : Drawer → SkeletonValue → Class → ℕ → List Leg
legs_by d s class t = rule_legs d.reach.now d.workload.now (random_words d) s.shape class s.count t

-- the rule, with so many heads
abbrev pub rule_by : Drawer → SkeletonValue → Class → ℕ → RuleValue
rule_by d s class arity = record {
  heads = heads_of s.shape s.count arity;
  conjuncts = rule_conjuncts d.reach.now d.workload.now s.shape class (random_words d) s.count;
}

-- a leg leads from a type to a type by a move
pub record IsLeg (r : ReachValue) (leg : Leg) : Type 0 where
  pub from : leg.from < length r.schema.kinds
  pub to : leg.via.to < length r.schema.kinds
  pub move : is_move r leg.from leg.via ≡ true

-- some n moves lead from type t to type end, where there are some
abbrev pub CanLink : ReachValue → ℕ → ℕ → ℕ → Type 0
CanLink r n t end = ((n == 0) || joins r n t end) ≡ true

-- ---- what is put into a query

-- the word has these symbols more
abbrev pub with_symbols : Building → List Symbol → Building
with_symbols b symbols = record b { word = b.word ++ symbols; taken = b.taken + length symbols }

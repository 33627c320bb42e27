-- The values of words and conjuncts that follow one another over a schema, and the classes of rules and queries.
-- They look at the finished words alone, however these were found.
--   Leads g t word u             the symbols of a word lead from type t to type u
--   LeadsWord, LeadsConjunct, LeadsSpine   a word, all words of a conjunct, and conjuncts one after another lead so
--   word_start, word_end         the types at which a word starts and ends
--   word_value g word            the value of a word: its operators, composed from left to right
--   union_value g words          the join of the values of words
--   conjunct_value g c           the value of a conjunct
--   spine shape rule             the spine of a rule: its first conjuncts
--   spine_start, spine_end       the types at which conjuncts start and end
--   spine_value g cs             the composition of the values of conjuncts
--   rule_class g shape rule      the class of a rule
--   greatest_of classes          the greatest class of a list
--   query_class g shape rules    the class of a query: with two heads, the greatest of its rules
use Rattle.std.specs.Prelude.{◌≡◌, ◌≢◌, ℕ, ◌<◌, true, if◌then◌else◌, Option, Some, None, List, [], ◌∷◌, length, map, take, slice_index_or}
use Rattle.std.specs.List.{All}
use Rattle.sel_algebra.specs.declared.vocabulary.Op.{Op}
use Rattle.sel_algebra.specs.declared.vocabulary.Op.TheVariants.{Equal}
use Rattle.sel_algebra.specs.declared.vocabulary.Class.{Class}
use Rattle.sel_algebra.specs.declared.vocabulary.Shape.{Shape}
use Rattle.sel_algebra.specs.declared.vocabulary.Symbol.{Symbol}
use Rattle.sel_algebra.specs.Operators.{join_of, star_of, typed_composition, growth_class}
use Rattle.sel_algebra.specs.Entries.{greater_class}
use Rattle.sel_algebra.specs.Table.{kind_at}
use Rattle.schema_graph.specs.Edge.{start_of, end_of}
use Rattle.schema_graph.specs.Schema.{SchemaValue}
use Rattle.skeletons.specs.Skeleton.{spine_of}
use Rattle.sel_graph.specs.Values.{value_of}
use Rattle.query_terms.specs.Values.{ConjunctValue, RuleValue, has_class}

-- ---- words that lead from type to type

-- the symbols lead from type t to type u, one after another
abbrev pub Leads : SchemaValue → ℕ → List Symbol → ℕ → Type 0
Leads g t [] u = t ≡ u
Leads g t (c ∷ word) u = (c.edge < length g.edges) × (start_of g.edges c ≡ t) × Leads g (end_of g.edges c) word u

-- a word of some symbols leads from type t to type u
pub record LeadsWord (g : SchemaValue) (t : ℕ) (word : List Symbol) (u : ℕ) : Type 0 where
  pub some : word ≢ []
  pub leads : Leads g t word u

-- some words lead from type t to type u, which are one type where they may be repeated
pub record LeadsConjunct (g : SchemaValue) (t : ℕ) (c : ConjunctValue) (u : ℕ) : Type 0 where
  pub some : c.words ≢ []
  pub each : All (λ word. LeadsWord g t word u) c.words
  pub starred : c.star ≡ true → t ≡ u

-- conjuncts lead from type t to type u, one after another
abbrev pub LeadsSpine : SchemaValue → ℕ → List ConjunctValue → ℕ → Type 0
LeadsSpine g t [] u = t ≡ u
LeadsSpine g t (c ∷ cs) u = (m : ℕ) × LeadsConjunct g t c m × LeadsSpine g m cs u

-- ---- the ends of words and conjuncts

-- the type at which a word starts
abbrev pub word_start : SchemaValue → List Symbol → ℕ
word_start g [] = 0
word_start g (c ∷ word) = start_of g.edges c

-- the type to which a word leads from type t
abbrev pub end_from : SchemaValue → ℕ → List Symbol → ℕ
end_from g t [] = t
end_from g t (c ∷ word) = end_from g (end_of g.edges c) word

-- the type at which a word ends
abbrev pub word_end : SchemaValue → List Symbol → ℕ
word_end g word = end_from g (word_start g word) word

-- the first word of a conjunct: all others start and end where it does
abbrev pub first_word : ConjunctValue → List Symbol
first_word c = slice_index_or c.words 0 []

-- ---- values

-- the value of a word: `Equal` composed with the operators of its symbols
abbrev pub word_value : SchemaValue → List Symbol → Op
word_value g word = value_of g (word_start g word) word

-- the join of the values of words; `Equal` is below all
abbrev pub union_value : SchemaValue → List (List Symbol) → Op
union_value g [] = Equal
union_value g (word ∷ words) = join_of (word_value g word) (union_value g words)

-- the value of a conjunct: the join of the values of its words, or the star of that
abbrev pub conjunct_value : SchemaValue → ConjunctValue → Op
conjunct_value g c = if c.star then star_of (union_value g c.words) else union_value g c.words

-- an operator composed with the values of conjuncts, from left to right, on a path that starts at type t
abbrev pub composed_along : SchemaValue → ℕ → Op → List ConjunctValue → Op
composed_along g t v [] = v
composed_along g t v (c ∷ cs) =
    composed_along g t (typed_composition v (conjunct_value g c) (kind_at g.kinds t) (kind_at g.kinds (word_end g (first_word c)))) cs

-- ---- spines and classes

-- the spine of a rule of a query of this shape: its first conjuncts
abbrev pub spine : Shape → RuleValue → List ConjunctValue
spine shape rule = take (spine_of shape (length rule.conjuncts)) rule.conjuncts

-- the type at which conjuncts start
abbrev pub spine_start : SchemaValue → List ConjunctValue → ℕ
spine_start g [] = 0
spine_start g (c ∷ cs) = word_start g (first_word c)

-- the type to which conjuncts lead from type t
abbrev pub spine_end_from : SchemaValue → ℕ → List ConjunctValue → ℕ
spine_end_from g t [] = t
spine_end_from g t (c ∷ cs) = spine_end_from g (word_end g (first_word c)) cs

-- the type at which conjuncts end
abbrev pub spine_end : SchemaValue → List ConjunctValue → ℕ
spine_end g cs = spine_end_from g (spine_start g cs) cs

-- the value of conjuncts that follow one another: the typed composition of their values
abbrev pub spine_value : SchemaValue → List ConjunctValue → Op
spine_value g cs = composed_along g (spine_start g cs) Equal cs

-- the class of conjuncts that follow one another, between the types at their two ends
abbrev pub spine_class : SchemaValue → List ConjunctValue → Class
spine_class g cs = growth_class (spine_value g cs) (kind_at g.kinds (spine_start g cs)) (kind_at g.kinds (spine_end g cs))

-- the class of a rule: that of its spine
abbrev pub rule_class : SchemaValue → Shape → RuleValue → Option Class
rule_class g shape rule = Some (spine_class g (spine shape rule))

-- the greatest of some classes, nothing being below all
abbrev pub greatest_of : List (Option Class) → Option Class
greatest_of [] = None
greatest_of (class ∷ classes) = greater_class class (greatest_of classes)

-- the class of a query: with two heads, the greatest of its rules, and else none
abbrev pub query_class : SchemaValue → Shape → List RuleValue → Option Class
query_class g shape rules = if has_class rules then greatest_of (map (rule_class g shape) rules) else None
